-- What a settlement leaves in the accounts.
use Rattle.std.specs.Prelude.{◌≡◌, ℕ, ◌*◌, ◌^◌, cond, ℤ, pos, ◌+ℤ◌, ◌-ℤ◌, nat_lt}
use Rattle.accounts.specs.declared.Accounts.{Accounts}
use Rattle.accounts.specs.Booked.{amounts_of, operator_of}
use Rattle.integers.specs.Near.{Near}
use Rattle.integers.specs.Sums.{sum_to}

-- so far from 0 as the hours of a day can bring them
pub record Roomy (a : Accounts) : Type 0 where
  pub amounts : (p : ℕ) → Near (25 * 2 ^ 48) (amounts_of a p)
  pub operator : Near (25 * (32 * 2 ^ 48)) (operator_of a)

-- each of n parties got what is due to it, and the operator the counter-entries
pub record Billed (n : ℕ) (due : ℕ → ℤ) (a after : Accounts) : Type 0 where
  pub amounts : (p : ℕ) → amounts_of after p ≡ amounts_of a p +ℤ cond (nat_lt p n) (due p) (pos 0)
  pub operator : operator_of after ≡ operator_of a -ℤ sum_to n due
