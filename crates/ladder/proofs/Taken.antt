-- A bid that is taken from its place, in the words of the calls. Assumes nothing.
use Rattle.std.proofs.Common.{◌≡◌, ℕ, zero, suc, ◌+◌, ◌<◌, ◌≤◌, true, cond, List, [], ◌∷◌, length, get_or, is_some, Some, None, filter, Option, sym, ap, ◌∙◌, arith}
use Rattle.std.proofs.lemmas.Bool.{eq-eqb}
use Rattle.std.specs.List.{slice_get, remove}
use Rattle.ordered.proofs.Removed.{removed_past}
use Rattle.market.specs.declared.words.Bid.{Bid}
use Rattle.ladder.specs.Ladder.{StandingBids, dropped, other_receipt, taken}
use Rattle.ladder.specs.Sides.{Once, has_receipt, receipt_count}
use Rattle.ladder.proofs.Counts.{count_at, none_dropped, removed_dropped}

nth_some : (xs : List Bid) (k : ℕ) (b d : Bid) → Some b ≡ slice_get xs k → (k < length xs) × (get_or xs k d ≡ b)
nth_some [] k b d e = absurd (let z : ◌≡◌ {A = ℕ} 0 1 = cc in omega arith)
nth_some (x ∷ xs) zero b d e = (omega arith, cc)
nth_some (x ∷ xs) (suc k) b d e = let r = nth_some xs k b d e in (omega (arith, r.0), r.1)

nth_none : (xs : List Bid) (k : ℕ) → None ≡ slice_get xs k → length xs ≤ k
nth_none [] k e = omega arith
nth_none (x ∷ xs) zero e = absurd (let z : ◌≡◌ {A = ℕ} 0 1 = cc in omega arith)
nth_none (x ∷ xs) (suc k) e = let r = nth_none xs k e in omega arith

-- the bid b at the place k, of a receipt that stands nowhere else
cut : (xs ys : List Bid) (k : ℕ) (b : Bid) → receipt_count b.receipt.0 xs + receipt_count b.receipt.0 ys ≤ 1 → Some b ≡ slice_get xs k
    → (remove xs k ≡ filter (other_receipt b.receipt.0) xs) × (ys ≡ filter (other_receipt b.receipt.0) ys)
cut xs ys k b o e =
    let r = b.receipt.0 in
    let at = nth_some xs k b b e in
    let h : has_receipt r (get_or xs k b) ≡ true = eq-eqb (get_or xs k b).receipt.0 r (ap (λ v. v.receipt.0) at.1) in
    let one = count_at r xs k b at.0 h in
    (removed_dropped r xs k b (omega arith) at.0 h, sym (none_dropped r ys (omega arith)))

pub taken_up : (xs ys us : List Bid) (g k : ℕ) (r : Option Bid) → Once xs ys → us ≡ remove xs k → r ≡ slice_get xs k
    → record { up = us; down = ys; given = g } ≡ taken r (record { up = xs; down = ys; given = g })
taken_up xs ys us g k None o u e = ap (λ zs. record { up = zs; down = ys; given = g }) (u ∙ sym (removed_past xs k (nth_none xs k e)))
taken_up xs ys us g k (Some b) o u e = let w = cut xs ys k b (o b.receipt.0) e in let f = u ∙ w.0 in let h = w.1 in cc

pub taken_down : (xs ys vs : List Bid) (g k : ℕ) (r : Option Bid) → Once xs ys → vs ≡ remove ys k → r ≡ slice_get ys k
    → record { up = xs; down = vs; given = g } ≡ taken r (record { up = xs; down = ys; given = g })
taken_down xs ys vs g k None o v e = ap (λ zs. record { up = xs; down = zs; given = g }) (v ∙ sym (removed_past ys k (nth_none ys k e)))
taken_down xs ys vs g k (Some b) o v e =
    let once = o b.receipt.0 in
    let w = cut ys xs k b (omega arith) e in
    let f = v ∙ w.0 in
    let h = w.1 in
    cc

-- what a withdrawal leaves, from what is taken: o is the bid that stands
pub withdrawn_some : (s : StandingBids) (t o : Option Bid) (b : Bid) (r : ℕ) → t ≡ Some b → o ≡ Some b → b.receipt.0 ≡ r → taken t s ≡ cond (is_some o) (dropped r s) s
withdrawn_some s t o b r e f g =
    ap (λ v. taken v s) e ∙ ap (λ n. dropped n s) g ∙ sym (ap (λ v. cond (is_some v) (dropped r s) s) f)
