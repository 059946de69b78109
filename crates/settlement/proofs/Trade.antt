-- Bilateral trade cancels, since what counts for the one is the negative of what counts for the other.
use Rattle.std.proofs.Common.{◌≡◌, ℕ, ◌+◌, Bool, true, false, cond, eqb, ℤ, pos, negsuc, ◌+ℤ◌, neg_ℤ, nat_abs, sym, refl, ap, ◌∙◌, arith}
use lib.IntN.{+ℤ_comm}
use Rattle.std.proofs.lemmas.Int.{ints}
use Rattle.std.proofs.lemmas.Bool.{cond-true, cond-false, eqb-true, eq-eqb, ne_eqb}
use Rattle.settlement.specs.Hour.{Hour, counted, from_outside, trade, net_outside_purchases}
use Rattle.integers.specs.Sums.{sum_to}
use Rattle.integers.proofs.Sums.{sum_to-same, sum_to-add, sum_to-neg, sum_to-swap, sum_to-cancels}
use Rattle.market.specs.Figures.{first_outside, outside_parties}

nothing : (z : ℤ) → nat_abs z ≡ 0 → z ≡ pos 0
nothing (pos n) e = ap pos e
nothing (negsuc n) e = absurd (omega arith)

or_nothing : (a b : ℤ) (t : Bool) → (t ≡ true → a ≡ neg_ℤ b) → cond t a (pos 0) ≡ neg_ℤ (cond t b (pos 0))
or_nothing a b true h = h refl
or_nothing a b false h = refl

opposite : (a b : ℤ) → a +ℤ b ≡ pos 0 → a ≡ neg_ℤ b
opposite a b e = omega (arith, ints)

pub counted_all : (a b : ℤ) → a +ℤ b ≡ pos 0 → a ≡ counted a b
unfolding counted
counted_all a b e = sym (cond-true (eqb (nat_abs (a +ℤ b)) 0) a (pos 0) (eq-eqb (nat_abs (a +ℤ b)) 0 (ap nat_abs e)))

pub counted_none : (a b : ℤ) → (a +ℤ b ≡ pos 0 → ⊥) → pos 0 ≡ counted a b
unfolding counted
counted_none a b n = sym (cond-false (eqb (nat_abs (a +ℤ b)) 0) a (pos 0) (ne_eqb (nat_abs (a +ℤ b)) 0 (λ e. n (nothing (a +ℤ b) e))))

-- all that the sums need to know of how notices count
pub counted_opposite : (a b : ℤ) → counted a b ≡ neg_ℤ (counted b a)
unfolding counted
counted_opposite a b =
    or_nothing a b (eqb (nat_abs (a +ℤ b)) 0) (λ t. opposite a b (nothing (a +ℤ b) (eqb-true _ _ t)))
    ∙ ap (λ z. neg_ℤ (cond (eqb (nat_abs z) 0) b (pos 0))) (+ℤ_comm a b)

-- the outside notices, by party or by sender
outside_sums : (hour : Hour) → sum_to hour.parties (from_outside hour) ≡ net_outside_purchases hour
outside_sums hour =
    let n : ℕ = hour.parties in
    sum_to-swap n outside_parties (λ p k. neg_ℤ (hour.notice (first_outside + k) p))
    ∙ sum_to-same outside_parties (λ k. sum_to n (λ p. neg_ℤ (hour.notice (first_outside + k) p))) (λ k. neg_ℤ (sum_to n (λ p. hour.notice (first_outside + k) p))) (λ k l. sum_to-neg n (λ p. hour.notice (first_outside + k) p))
    ∙ sum_to-neg outside_parties (λ k. sum_to n (λ p. hour.notice (first_outside + k) p))

pub trades_cancel : (hour : Hour) → sum_to hour.parties (trade hour) ≡ net_outside_purchases hour
trades_cancel hour =
    let n : ℕ = hour.parties in
    let t : ℕ → ℕ → ℤ = λ p q. counted (hour.notice p q) (hour.notice q p) in
    let split = sum_to-add n (λ p. sum_to n (t p)) (from_outside hour) in
    let outside = outside_sums hour in
    let none = sum_to-cancels n t (λ p q. counted_opposite (hour.notice p q) (hour.notice q p)) in
    omega (arith, ints)
