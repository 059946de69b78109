-- Where the true sums fit, nothing is capped.
use Rattle.std.proofs.Common.{◌≡◌, ℕ, ltb, ℤ, pos, negsuc, ◌+ℤ◌, ◌-ℤ◌, ap, ◌∙◌, arith, w64, SFits, to_z, of_z}
use Rattle.std.proofs.lemmas.Int.{ints, to_z-of_z}
use Rattle.std.proofs.lemmas.Bool.{cond-true, lt-ltb}
use Rattle.market.specs.Figures.{most_parties}
use Rattle.integers.specs.Places.{at}
use Rattle.accounts.specs.declared.Accounts.{Accounts}
use Rattle.accounts.specs.Booked.{amounts_of, operator_of, capped, Fits, Booked, BookedExactly}

pub uncapped : (z : ℤ) → Fits z → capped z ≡ z
uncapped (pos n) f = let l = f.1 in ap pos (omega (arith, ints))
uncapped (negsuc n) f = let l = f.0 in ap negsuc (omega (arith, ints))

pub exact : (p : ℕ) (x : ℤ) (a after : Accounts) → Booked p x a after → BookedExactly p x a after
exact p x a after booked below fits operator_fits = (
  booked.amounts ∙ (cond-true (ltb p most_parties) (at p (capped (amounts_of a p +ℤ x)) (amounts_of a)) (amounts_of a) (lt-ltb p most_parties below) ∙ ap (λ y. at p y (amounts_of a)) (uncapped (amounts_of a p +ℤ x) fits)),
  booked.operator ∙ (cond-true (ltb p most_parties) (capped (operator_of a -ℤ x)) (operator_of a) (lt-ltb p most_parties below) ∙ uncapped (operator_of a -ℤ x) operator_fits),
)

-- a sum or a difference as it is kept in 64 bits
pub kept : (op : ℤ → ℤ → ℤ) (a x r : ℤ) → SFits w64 a → SFits w64 x → SFits w64 r → r ≡ capped (op (to_z w64 (of_z w64 a)) (to_z w64 (of_z w64 x))) → to_z w64 (of_z w64 r) ≡ capped (op a x)
kept op a x r fa fx fr e =
    (to_z-of_z w64 r fr ∙ e) ∙ (ap (λ u. capped (op u (to_z w64 (of_z w64 x)))) (to_z-of_z w64 a fa) ∙ ap (λ u. capped (op a u)) (to_z-of_z w64 x fx))
