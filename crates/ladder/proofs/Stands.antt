-- The bid that is found first is the one that stands with its receipt, since no receipt stands twice.
use Rattle.std.proofs.Common.{◌≡◌, ℕ, ◌+◌, ◌≤◌, Bool, true, List, [], ◌∷◌, Some, None, sym, refl, ap, ◌∙◌, ⊎_elim, arith}
use Rattle.std.proofs.lemmas.Bool.{cases_Bool, cond-false, cond-true, eq-eqb}
use Rattle.std.specs.Option.{option_or}
use Rattle.market.specs.declared.words.Bid.{Bid}
use Rattle.market.specs.declared.words.Direction.{Direction}
use Rattle.market.specs.declared.words.Direction.TheVariants.{Up, Down}
use Rattle.ladder.specs.Ladder.{StandingBids, bids_of, first_by, standing_with, with_receipt}
use Rattle.ladder.specs.Sides.{Once, has_receipt, receipt_count}

same_bid : (x b : Bid) → Some x ≡ Some b → x ≡ b
same_bid x b e = cc

counts_one : (r : ℕ) (x : Bid) (bs : List Bid) → has_receipt r x ≡ true → receipt_count r (x ∷ bs) ≡ 1 + receipt_count r bs
counts_one r x bs t = ap (λ n. n + receipt_count r bs) (cond-true (has_receipt r x) 1 0 t)

-- what is found is counted
found_counted : (test : Bid → Bool) (bs : List Bid) (b : Bid) → first_by test bs ≡ Some b → 1 ≤ receipt_count b.receipt.0 bs
found_counted test [] b e = absurd (let z : ◌≡◌ {A = ℕ} 0 1 = cc in omega arith)
found_counted test (x ∷ bs) b e =
    ⊎_elim
    (λ t.
    let is = same_bid x b (sym (cond-true (test x) (Some x) (first_by test bs) t) ∙ e) in
    let one = counts_one b.receipt.0 x bs (eq-eqb x.receipt.0 b.receipt.0 (ap (λ v. v.receipt.0) is)) in
    omega (arith, one))
    (λ f. let rest = found_counted test bs b (sym (cond-false (test x) (Some x) (first_by test bs) f) ∙ e) in omega (arith, rest))
    (cases_Bool (test x))

once_first : (test : Bid → Bool) (bs : List Bid) (b : Bid) → first_by test bs ≡ Some b → receipt_count b.receipt.0 bs ≤ 1 → with_receipt b.receipt.0 bs ≡ Some b
once_first test [] b e once = absurd (let z : ◌≡◌ {A = ℕ} 0 1 = cc in omega arith)
once_first test (x ∷ bs) b e once =
    let r : ℕ = b.receipt.0 in
    ⊎_elim
    (λ t.
    let is = same_bid x b (sym (cond-true (test x) (Some x) (first_by test bs) t) ∙ e) in
    cond-true (has_receipt r x) (Some x) (with_receipt r bs) (eq-eqb x.receipt.0 r (ap (λ v. v.receipt.0) is)) ∙ ap Some is)
    (λ f.
    let later = sym (cond-false (test x) (Some x) (first_by test bs) f) ∙ e in
    let some = found_counted test bs b later in
    ⊎_elim
    (λ t. absurd (let one = counts_one r x bs t in omega (arith, one, some, once)))
    (λ n. cond-false (has_receipt r x) (Some x) (with_receipt r bs) n ∙ once_first test bs b later (omega (arith, once)))
    (cases_Bool (has_receipt r x)))
    (cases_Bool (test x))

none_counted : (r : ℕ) (bs : List Bid) → receipt_count r bs ≡ 0 → with_receipt r bs ≡ None
none_counted r [] e = refl
none_counted r (x ∷ bs) e =
    ⊎_elim
    (λ t. absurd (let one = counts_one r x bs t in omega (arith, one, e)))
    (λ n. cond-false (has_receipt r x) (Some x) (with_receipt r bs) n ∙ none_counted r bs (omega (arith, e)))
    (cases_Bool (has_receipt r x))

pub found_stands : (test : Bid → Bool) (d : Direction) (s : StandingBids) (b : Bid) → Once s.up s.down → first_by test (bids_of d s) ≡ Some b → standing_with b.receipt.0 s ≡ Some b
found_stands test Up s b once e =
    ap (λ o. option_or o (with_receipt b.receipt.0 s.down)) (once_first test s.up b e (omega (arith, once b.receipt.0)))
found_stands test Down s b once e =
    let all = once b.receipt.0 in
    let some = found_counted test s.down b e in
    ap (λ o. option_or o (with_receipt b.receipt.0 s.down)) (none_counted b.receipt.0 s.up (omega (arith, all, some)))
    ∙ once_first test s.down b e (omega (arith, all))
