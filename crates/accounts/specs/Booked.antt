-- What the accounts hold, and what a call leaves in them.
use Rattle.std.specs.Prelude.{◌≡◌, ℕ, ◌^◌, ◌<◌, cond, get_or, ℤ, pos, ◌+ℤ◌, ◌-ℤ◌, neg_ℤ, ◌≤ℤ◌, ◌<ℤ◌, Some, None, Option, nat_lt, slice_index_or}
use Rattle.std.specs.Int.{saturate_to_bits}
use Rattle.market.specs.Figures.{most_hours, most_parties}
use Rattle.pricing.specs.declared.Prices.{Prices}
use Rattle.integers.specs.Places.{at}
use Rattle.accounts.specs.declared.Accounts.{Accounts}

-- each party's account in mills, nothing past the last party
unfoldable pub amounts_of : Accounts → ℕ → ℤ
amounts_of a p = cond (nat_lt p most_parties) (get_or a.parties p (record { 0 = pos 0 })).0 (pos 0)

abbrev pub operator_of : Accounts → ℤ
operator_of a = a.operator.0

-- the prices that each hour was settled at, none where it is not settled
unfoldable pub settled_of : Accounts → ℕ → Option Prices
settled_of a h = cond (nat_lt h most_hours) (slice_index_or a.settled h None) None

-- nothing booked and no hour settled
pub record Opened (a : Accounts) : Type 0 where
  pub amounts : amounts_of a ≡ (λ p. pos 0)
  pub operator : operator_of a ≡ pos 0
  pub settled : settled_of a ≡ (λ h. None)

-- an account is kept in 64 bits, signed: a sum past either end stays at that end
abbrev pub capped : ℤ → ℤ
capped z = saturate_to_bits 63 z

abbrev pub Fits : ℤ → Type 0
Fits z = (neg_ℤ (pos (2 ^ 63)) ≤ℤ z) × (z <ℤ pos (2 ^ 63))

-- the amount is added to the party's account and taken from the operator's; past the last party nothing changes
pub record Booked (p : ℕ) (x : ℤ) (a after : Accounts) : Type 0 where
  pub amounts : amounts_of after ≡ cond (nat_lt p most_parties) (at p (capped (amounts_of a p +ℤ x)) (amounts_of a)) (amounts_of a)
  pub operator : operator_of after ≡ cond (nat_lt p most_parties) (capped (operator_of a -ℤ x)) (operator_of a)
  pub settled : settled_of after ≡ settled_of a

-- where both true sums fit, nothing is capped
abbrev pub BookedExactly : ℕ → ℤ → Accounts → Accounts → Type 0
BookedExactly p x a after = p < most_parties → Fits (amounts_of a p +ℤ x) → Fits (operator_of a -ℤ x) → (amounts_of after ≡ at p (amounts_of a p +ℤ x) (amounts_of a)) × (operator_of after ≡ operator_of a -ℤ x)

-- the hour is settled at these prices; past the last hour nothing changes
pub record Settled (h : ℕ) (q : Prices) (a after : Accounts) : Type 0 where
  pub amounts : amounts_of after ≡ amounts_of a
  pub operator : operator_of after ≡ operator_of a
  pub settled : settled_of after ≡ cond (nat_lt h most_hours) (at h (Some q) (settled_of a)) (settled_of a)
