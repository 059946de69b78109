-- The accounts as a settlement goes through the parties.
use Rattle.std.proofs.Common.{◌≡◌, ℕ, suc, ◌+◌, ◌*◌, ◌^◌, ◌<◌, ◌≤◌, cond, eqb, ltb, ℤ, pos, ◌+ℤ◌, ◌-ℤ◌, Option, sym, ap, ◌∙◌, ⊎_elim, arith}
use mathlib.Core.Logic.{∥∥₁_elim}
use lib.IntN.{ℤ_set}
use Rattle.std.proofs.lemmas.Int.{ints}
use Rattle.std.proofs.lemmas.Bool.{cases_eq, cond-true, cond-false, eq-eqb, ne_eqb}
use Rattle.units.specs.declared.Position.{Position}
use Rattle.accounts.specs.declared.Accounts.{Accounts}
use Rattle.accounts.specs.Booked.{amounts_of, operator_of, Fits, BookedExactly}
use Rattle.market.specs.Figures.{most_parties, price_setting_minutes}
use Rattle.timetable.specs.declared.timetable.Timetable.{Timetable}
use Rattle.timetable.specs.View.{times}
use Rattle.positions.specs.declared.table.PositionTable.{PositionTable}
use Rattle.notices.specs.declared.table.NoticeTable.{NoticeTable}
use Rattle.ladder.specs.declared.ladder.Ladder.{Ladder}
use Rattle.register.specs.declared.register.Register.{Register}
use Rattle.pricing.specs.declared.Facts.{Facts}
use Rattle.pricing.specs.declared.Prices.{Prices}
use Rattle.integers.specs.Near.{Near}
use Rattle.integers.specs.Places.{at}
use Rattle.integers.specs.Sums.{sum_to}
use Rattle.integers.proofs.Distances.{near_cond, near_zero, near_weaker, near-sum_to}
use Rattle.settlement.specs.Bounds.{PricesFit}
use Rattle.settlement.specs.Payments.{due_to}
use Rattle.settlement.proofs.Bounds.{due_small}
use Rattle.journal.specs.Figures.{Stage, Planned, hour_at}
use Rattle.journal.proofs.Fits.{hour_fits}
use Rattle.book.specs.Parts.{figures_of, Sound}
use Rattle.book.specs.Bills.{Roomy, Billed}
use Rattle.book.proofs.Through.{kept_of, unsettled}

pub billed_none : (due : ℕ → ℤ) (a : Accounts) → Billed 0 due a a
unfolding sum_to
billed_none due a = record { amounts = λ p. nothing (amounts_of a p) (cond (ltb p 0) (due p) (pos 0)) (cond-false (ltb p 0) (due p) (pos 0) (grind arith)); operator = less (operator_of a) }
  where
    nothing : (x y : ℤ) → y ≡ pos 0 → x ≡ x +ℤ y
    nothing x y e = omega (arith, ints, e)

    less : (x : ℤ) → x ≡ x -ℤ pos 0
    less x = omega (arith, ints)

module _ (due : ℕ → ℤ) (a acc acc' : Accounts) (k : ℕ) (x : ℤ) (few : k < most_parties) (roomy : Roomy a) (small : (p : ℕ) → Near (2 ^ 48) (due p)) (before : Billed k due a acc) (is : x ≡ due k) (exact : BookedExactly k x acc acc') where
  amount_fits : Fits (amounts_of acc k +ℤ x)
  amount_fits =
      let c : ℤ = cond (ltb k k) (due k) (pos 0) in
      let one = near_cond (2 ^ 48) (ltb k k) (due k) (pos 0) (small k) (near_zero (2 ^ 48)) in
      let all = roomy.amounts k in
      let d = small k in
      let e = before.amounts k in
      (omega (arith, ints, one.low, all.low, d.low, e, is), omega (arith, ints, one.high, all.high, d.high, e, is))

  operator_fits : Fits (operator_of acc -ℤ x)
  operator_fits =
      let sum = near_weaker (k * 2 ^ 48) (32 * 2 ^ 48) (sum_to k due) (omega (arith, few)) (near-sum_to k (2 ^ 48) due (λ j _. small j)) in
      let all = roomy.operator in
      let d = small k in
      let e = before.operator in
      (omega (arith, ints, sum.high, all.low, d.high, e, is), omega (arith, ints, sum.low, all.high, d.low, e, is))

  done : (amounts_of acc' ≡ at k (amounts_of acc k +ℤ x) (amounts_of acc)) × (operator_of acc' ≡ operator_of acc -ℤ x)
  done = exact few amount_fits operator_fits

  pub amount_more : (p : ℕ) → amounts_of acc' p ≡ amounts_of a p +ℤ cond (ltb p (k + 1)) (due p) (pos 0)
  amount_more p =
      ap (λ f. f p) done.0
      ∙ ⊎_elim
      (λ same.
      cond-true (eqb p k) (amounts_of acc k +ℤ x) (amounts_of acc p) (eq-eqb p k same)
      ∙ new (amounts_of acc k) (amounts_of a k) (cond (ltb k k) (due k) (pos 0)) (before.amounts k) (cond-false (ltb k k) (due k) (pos 0) (grind arith))
      ∙ ap (λ j. amounts_of a j +ℤ due j) (sym same)
      ∙ ap (λ z. amounts_of a p +ℤ z) (sym (cond-true (ltb p (k + 1)) (due p) (pos 0) (grind (arith, same)))))
      (λ other.
      cond-false (eqb p k) (amounts_of acc k +ℤ x) (amounts_of acc p) (ne_eqb p k other)
      ∙ before.amounts p
      ∙ ap (λ b. amounts_of a p +ℤ cond b (due p) (pos 0)) (same_test p k other))
      (cases_eq p k)
    where
      new : (u v w : ℤ) → u ≡ v +ℤ w → w ≡ pos 0 → u +ℤ x ≡ v +ℤ due k
      new u v w e f = omega (arith, ints, e, f, is)

      same_test : (p k : ℕ) → (p ≡ k → ⊥) → ltb p k ≡ ltb p (k + 1)
      same_test p k n = grind (arith, n)

  pub operator_more : operator_of acc' ≡ operator_of a -ℤ sum_to (k + 1) due
  unfolding sum_to
  operator_more = done.1 ∙ less (operator_of acc) (operator_of a) (sum_to k due) before.operator ∙ ap (λ m. operator_of a -ℤ sum_to m due) (next k)
    where
      less : (u v w : ℤ) → u ≡ v -ℤ w → u -ℤ x ≡ v -ℤ (w +ℤ due k)
      less u v w e = omega (arith, ints, e, is)

      next : (k : ℕ) → suc k ≡ k + 1
      next k = omega arith

-- one more party
pub billed_more : (t : Timetable) (p : PositionTable) (n : NoticeTable) (l : Ladder) (r : Register) → ∥ Sound t p n l r ∥₁ → (stage : Stage) (settled : ℕ → Option Prices) (hour : Position) (facts : Facts) (prices : Prices) → PricesFit facts prices
    → (a acc acc' : Accounts) (k : ℕ) (x : ℤ) → k < (times t).parties → (times t).parties ≤ most_parties → Roomy a
    → Billed k (due_to price_setting_minutes facts prices (hour_at (figures_of stage settled t p n l r) hour.0)) a acc
    → x ≡ due_to price_setting_minutes facts prices (hour_at (figures_of stage settled t p n l r) hour.0) k
    → BookedExactly k x acc acc'
    → Billed (k + 1) (due_to price_setting_minutes facts prices (hour_at (figures_of stage settled t p n l r) hour.0)) a acc'
billed_more t p n l r sound stage settled hour facts prices known a acc acc' k x there most roomy before is exact =
    let due = due_to price_setting_minutes facts prices (hour_at (figures_of stage settled t p n l r) hour.0) in
    let few : k < most_parties = omega (arith, there, most) in
    let small : Sound t p n l r → (q : ℕ) → Near (2 ^ 48) (due q) =
    λ s. due_small price_setting_minutes facts prices _ (hour_fits (figures_of Planned unsettled t p n l r) (kept_of Planned t p n l r s) hour.0) known in
    record {
      amounts = λ q. ∥∥₁_elim sound (ℤ_set _ _) (λ s. amount_more due a acc acc' k x few roomy (small s) before is exact q);
      operator = ∥∥₁_elim sound (ℤ_set _ _) (λ s. operator_more due a acc acc' k x few roomy (small s) before is exact);
    }
