-- How often a receipt stands in a list of bids, and what a single one tells. Assumes nothing.
use Rattle.std.proofs.Common.{◌≡◌, ℕ, zero, suc, ◌+◌, ◌<◌, ◌≤◌, Bool, true, false, cond, List, [], ◌∷◌, ◌++◌, map, length, get_or, set, filter, sym, refl, ap, ◌∙◌, inl, inr, arith}
use Rattle.std.proofs.lemmas.Bool.{cases_Bool, cond_both, cond-false, cond-true, not_from_false, not_from_true}
use Rattle.std.specs.List.{remove}
use Rattle.ordered.specs.Order.{placed}
use Rattle.ordered.proofs.Laws.{only_before}
use Rattle.ordered.proofs.Lexical.{lex_order}
use Rattle.market.specs.Order.{bid_before, bid_key}
use Rattle.market.specs.declared.words.Bid.{Bid}
use Rattle.ladder.specs.Ladder.{mark, other_receipt, with_held}
use Rattle.ladder.specs.Sides.{has_receipt, receipt_count}

length_cut : (xs : List Bid) (k : ℕ) → length (remove xs k) ≤ length xs
length_cut [] zero = omega arith
length_cut [] (suc k) = omega arith
length_cut (x ∷ xs) zero = omega arith
length_cut (x ∷ xs) (suc k) = let rest = length_cut xs k in omega arith

pub length_removed : (xs ys : List Bid) (k : ℕ) → ys ≡ remove xs k → length ys ≤ length xs
length_removed xs ys k e = let l = length_cut xs k in let f = ap length e in omega arith

module _ (r : ℕ) where
  abbrev one : Bid → ℕ
  one b = cond (has_receipt r b) 1 0

  one_yes : (b : Bid) → has_receipt r b ≡ true → one b ≡ 1
  one_yes b h = cond-true (has_receipt r b) 1 0 h

  count_append : (xs ys : List Bid) → receipt_count r (xs ++ ys) ≡ receipt_count r xs + receipt_count r ys
  count_append [] ys = omega arith
  count_append (x ∷ xs) ys = let e = count_append xs ys in omega arith

  pub count_kept : (p : Bid → Bool) (xs : List Bid) → receipt_count r (filter p xs) ≤ receipt_count r xs
  count_kept p [] = omega arith
  count_kept p (x ∷ xs) =
      let rest = count_kept p xs in
      cond_both (p x) (x ∷ filter p xs) (filter p xs) (λ ys. receipt_count r ys ≤ one x + receipt_count r xs) (λ _. omega arith) (λ _. omega arith)

  -- two tests that no bid passes both
  count_apart : (p q : Bid → Bool) → ((b : Bid) → p b ≡ true → q b ≡ false) → (xs : List Bid) → receipt_count r (filter p xs) + receipt_count r (filter q xs) ≤ receipt_count r xs
  count_apart p q apart [] = omega arith
  count_apart p q apart (x ∷ xs) =
      let rest = count_apart p q apart xs in
      elim (cases_Bool (p x)) [
        | inl e ↦ let f = apart x e in rw (e, f) (omega arith)
        | inr e ↦ rw e (let k = count_kept q xs in cond_both (q x) (x ∷ filter q xs) (filter q xs) (λ ys. receipt_count r (filter p xs) + receipt_count r ys ≤ one x + receipt_count r xs) (λ _. omega arith) (λ _. omega arith))
      ]

  pub count_placed : (b : Bid) (xs : List Bid) → receipt_count r (placed bid_before b xs) ≤ one b + receipt_count r xs
  count_placed b xs =
      let low = filter (λ y. bid_before y b) xs in
      let high = filter (λ y. bid_before b y) xs in
      let e = count_append low (b ∷ high) in
      let l = count_apart (λ y. bid_before y b) (λ y. bid_before b y) (λ y h. (only_before (lex_order bid_key) y b h).1) xs in
      omega arith

  count_cut : (xs : List Bid) (k : ℕ) → receipt_count r (remove xs k) ≤ receipt_count r xs
  count_cut [] zero = omega arith
  count_cut [] (suc k) = omega arith
  count_cut (x ∷ xs) zero = omega arith
  count_cut (x ∷ xs) (suc k) = let rest = count_cut xs k in omega arith

  pub count_removed : (xs ys : List Bid) (k : ℕ) → ys ≡ remove xs k → receipt_count r ys ≤ receipt_count r xs
  count_removed xs ys k e = let l = count_cut xs k in let f = ap (receipt_count r) e in omega arith

  pub count_set : (xs : List Bid) (k : ℕ) (b d : Bid) → b.receipt ≡ (get_or xs k d).receipt → receipt_count r (set xs k b) ≡ receipt_count r xs
  count_set [] k b d e = refl
  count_set (x ∷ xs) zero b d e = ap (λ n. cond (has_receipt r (record { hour = x.hour; receipt = n; party = x.party; portfolio = x.portfolio; direction = x.direction; volume = x.volume; price = x.price; held = x.held })) 1 0 + receipt_count r xs) e
  count_set (x ∷ xs) (suc k) b d e = ap (λ n. one x + n) (count_set xs k b d e)

  pub count_at : (xs : List Bid) (k : ℕ) (d : Bid) → k < length xs → has_receipt r (get_or xs k d) ≡ true → 1 ≤ receipt_count r xs
  count_at [] k d w h = absurd (omega arith)
  count_at (x ∷ xs) zero d w h = let e = one_yes x h in omega arith
  count_at (x ∷ xs) (suc k) d w h = let rest = count_at xs k d (omega arith) h in omega arith

  -- none of the receipt
  not_first : (x : Bid) (xs : List Bid) → receipt_count r (x ∷ xs) ≡ 0 → (has_receipt r x ≡ false) × (receipt_count r xs ≡ 0)
  not_first x xs h =
      elim (cases_Bool (has_receipt r x)) [ inl e ↦ absurd (let y = one_yes x e in omega arith) | inr e ↦ (e, omega arith) ]

  pub none_dropped : (xs : List Bid) → receipt_count r xs ≡ 0 → filter (other_receipt r) xs ≡ xs
  none_dropped [] h = refl
  none_dropped (x ∷ xs) h =
      let n = not_first x xs h in
      cond-true (other_receipt r x) (x ∷ filter (other_receipt r) xs) (filter (other_receipt r) xs) (not_from_false (has_receipt r x) n.0) ∙ ap (λ ys. x ∷ ys) (none_dropped xs n.1)

  pub none_marked : (held : Bool) (xs : List Bid) → receipt_count r xs ≡ 0 → map (mark r held) xs ≡ xs
  none_marked held [] h = refl
  none_marked held (x ∷ xs) h =
      let n = not_first x xs h in
      ap (λ y. y ∷ map (mark r held) xs) (cond-false (has_receipt r x) (with_held held x) x n.0) ∙ ap (λ ys. x ∷ ys) (none_marked held xs n.1)

  -- one of the receipt, at the place k
  later_one : (x : Bid) (xs : List Bid) (k : ℕ) (d : Bid) → receipt_count r (x ∷ xs) ≤ 1 → k < length xs → has_receipt r (get_or xs k d) ≡ true → (has_receipt r x ≡ false) × (receipt_count r xs ≤ 1)
  later_one x xs k d c w h =
      let l = count_at xs k d w h in
      elim (cases_Bool (has_receipt r x)) [ inl e ↦ absurd (let y = one_yes x e in omega arith) | inr e ↦ (e, omega arith) ]

  pub removed_dropped : (xs : List Bid) (k : ℕ) (d : Bid) → receipt_count r xs ≤ 1 → k < length xs → has_receipt r (get_or xs k d) ≡ true → remove xs k ≡ filter (other_receipt r) xs
  removed_dropped [] k d c w h = absurd (omega arith)
  removed_dropped (x ∷ xs) zero d c w h =
      let y = one_yes x h in
      sym (cond-false (other_receipt r x) (x ∷ filter (other_receipt r) xs) (filter (other_receipt r) xs) (not_from_true (has_receipt r x) h) ∙ none_dropped xs (omega arith))
  removed_dropped (x ∷ xs) (suc k) d c w h =
      let n = later_one x xs k d c (omega arith) h in
      ap (λ ys. x ∷ ys) (removed_dropped xs k d n.1 (omega arith) h) ∙ sym (cond-true (other_receipt r x) (x ∷ filter (other_receipt r) xs) (filter (other_receipt r) xs) (not_from_false (has_receipt r x) n.0))

  pub set_marked : (held : Bool) (xs : List Bid) (k : ℕ) (d : Bid) → receipt_count r xs ≤ 1 → k < length xs → has_receipt r (get_or xs k d) ≡ true → set xs k (with_held held (get_or xs k d)) ≡ map (mark r held) xs
  set_marked held [] k d c w h = absurd (omega arith)
  set_marked held (x ∷ xs) zero d c w h =
      let y = one_yes x h in
      ap (λ ys. with_held held x ∷ ys) (sym (none_marked held xs (omega arith))) ∙ ap (λ z. z ∷ map (mark r held) xs) (sym (cond-true (has_receipt r x) (with_held held x) x h))
  set_marked held (x ∷ xs) (suc k) d c w h =
      let n = later_one x xs k d c (omega arith) h in
      ap (λ ys. x ∷ ys) (set_marked held xs k d n.1 (omega arith) h) ∙ ap (λ z. z ∷ map (mark r held) xs) (sym (cond-false (has_receipt r x) (with_held held x) x n.0))
