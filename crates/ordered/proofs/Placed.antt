-- What a record put at its place makes of a list. Assumes nothing.
use Rattle.std.proofs.Common.{◌≡◌, ℕ, suc, ◌+◌, ◌<◌, ◌≤◌, Bool, true, false, cond, ◌⊎◌, List, [], ◌∷◌, ◌++◌, length, get_or, take, drop, set, filter, sym, refl, ap, ◌∙◌, subst, inl, inr, arith}
use Rattle.std.proofs.lemmas.List.Elements.{filter-append, recursion_from_All}
use Rattle.std.proofs.ByRecursion.{All-append, all-has, all_has_itself, all_kept_by, All-weaker, has_append_left, has_append_right, kept_by_passes}
use Rattle.std.proofs.lemmas.List.{append-nil, get_or-drop, get_or-take, length-append, length-drop, length-take, set-get_or, set_split, take-append-drop}
use Rattle.std.proofs.lemmas.Bool.{both_ways, cond_both, cond-false, cond-true}
use Rattle.std.specs.List.{insert, ContainsAt as Has, AllByRecursion}
use Rattle.std.specs.List.Sorted.{IsPartitionPoint}
use Rattle.ordered.specs.Order.{TotalOrder, held, placed, rises}
use Rattle.ordered.proofs.Laws.{before_same, only_before, only_same, same_back, same_before, not_same_after, sides}
use Rattle.ordered.proofs.Rising.{back_after, before_later, front_before, rises_cons, rises_join, rises_tail}

one_more : (b : Bool) (m n : ℕ) → m ≡ cond b n (n + 1) → suc m ≡ cond b (suc n) (suc n + 1)
one_more true m n e = ap suc e
one_more false m n e = omega arith

module _ {X : Type 0} where
  pub kept_all : (p : X → Bool) (xs : List X) → AllByRecursion (λ y. p y ≡ true) xs → filter p xs ≡ xs
  kept_all p [] a = refl
  kept_all p (x ∷ xs) a = cond-true (p x) _ _ a.0 ∙ ap (λ ys. x ∷ ys) (kept_all p xs a.1)

  pub kept_none : (p : X → Bool) (xs : List X) → AllByRecursion (λ y. p y ≡ false) xs → filter p xs ≡ []
  kept_none p [] a = refl
  kept_none p (x ∷ xs) a = cond-false (p x) _ _ a.0 ∙ kept_none p xs a.1

module _ {X : Type 0} {before same : X → X → Bool} (o : TotalOrder before same) where
  -- m is nothing, or a record that is the same as x
  between : (fs m bs : List X) (x : X) → AllByRecursion (λ y. before y x ≡ true) fs → AllByRecursion (λ y. same y x ≡ true) m → AllByRecursion (λ y. before x y ≡ true) bs → placed before x (fs ++ (m ++ bs)) ≡ fs ++ x ∷ bs
  between fs m bs x f s b =
      let low : X → Bool = λ y. before y x in
      let high : X → Bool = λ y. before x y in
      let rest-low : filter low (m ++ bs) ≡ [] =
      kept_none low (m ++ bs) (All-append (λ y. before y x ≡ false) m bs
      (All-weaker (λ y. same y x ≡ true) (λ y. before y x ≡ false) (λ y h. (only_same o y x h).0) m s)
      (All-weaker (λ y. before x y ≡ true) (λ y. before y x ≡ false) (λ y h. (only_before o x y h).1) bs b)) in
      let low-is : filter low (fs ++ (m ++ bs)) ≡ fs =
      filter-append low fs (m ++ bs) ∙ ap (λ ys. filter low fs ++ ys) rest-low ∙ append-nil (filter low fs) ∙ kept_all low fs f in
      let rest-high : filter high (m ++ bs) ≡ bs =
      filter-append high m bs
      ∙ ap (λ ys. ys ++ filter high bs) (kept_none high m (All-weaker (λ y. same y x ≡ true) (λ y. before x y ≡ false) (λ y h. (only_same o y x h).1) m s))
      ∙ kept_all high bs b in
      let high_is : filter high (fs ++ (m ++ bs)) ≡ bs =
      filter-append high fs (m ++ bs)
      ∙ ap (λ ys. ys ++ filter high (m ++ bs)) (kept_none high fs (All-weaker (λ y. before y x ≡ true) (λ y. before x y ≡ false) (λ y h. (only_before o y x h).1) fs f))
      ∙ rest-high in
      ap (λ ys. ys ++ x ∷ filter high (fs ++ (m ++ bs))) low-is ∙ ap (λ ys. fs ++ x ∷ ys) high_is

  pub placed_inserted : (xs : List X) (k : ℕ) (x : X) → k ≤ length xs → IsPartitionPoint (λ y. before y x ≡ true) (λ y. before x y ≡ true) xs k → placed before x xs ≡ insert xs k x
  placed_inserted xs k x within p =
      let low : X → Type 0 = λ y. before y x ≡ true in
      let high : X → Type 0 = λ y. before x y ≡ true in
      let front : AllByRecursion low (take k xs) = recursion_from_All low (take k xs) (λ i d w. let l : i < k = omega (arith, length-take k xs) in rw (get_or-take k xs i d l) (p.0 i d (omega arith) l)) in
      let back : AllByRecursion high (drop k xs) = recursion_from_All high (drop k xs) (λ i d w. rw (get_or-drop k xs i d) (p.1 (k + i) d (omega arith) (omega (arith, length-drop k xs)))) in
      subst (λ ys. placed before x ys ≡ insert xs k x) (take-append-drop k xs) (between (take k xs) [] (drop k xs) x front tt back)

  pub placed_set : (xs : List X) (i : ℕ) (x d : X) → rises before xs ≡ true → i < length xs → same (get_or xs i d) x ≡ true → placed before x xs ≡ set xs i x
  placed_set xs i x d h w s =
      let y = get_or xs i d in
      let split : take i xs ++ y ∷ drop (suc i) xs ≡ xs = sym (set_split xs i y w) ∙ set-get_or xs i d in
      let f : AllByRecursion (λ z. before z x ≡ true) (take i xs) = All-weaker (λ z. before z y ≡ true) (λ z. before z x ≡ true) (λ z p. before_same o z y x p s) (take i xs) (front_before o xs i d h w) in
      let b : AllByRecursion (λ z. before x z ≡ true) (drop (suc i) xs) = All-weaker (λ z. before y z ≡ true) (λ z. before x z ≡ true) (λ z. same_before o x y z (same_back o y x s)) (drop (suc i) xs) (back_after o xs i d h w) in
      ap (placed before x) (sym split) ∙ between (take i xs) (y ∷ []) (drop (suc i) xs) x f (s, tt) b ∙ sym (set_split xs i x w)

  rises_kept : (p : X → Bool) (xs : List X) → rises before xs ≡ true → rises before (filter p xs) ≡ true
  rises_kept p [] h = refl
  rises_kept p (x ∷ xs) h =
      let rest = rises_kept p xs (rises_tail o x xs h) in
      cond_both (p x) (x ∷ filter p xs) (filter p xs) (λ ys. rises before ys ≡ true)
      (λ _. rises_cons o x (filter p xs) (all_kept_by p (λ y. before x y ≡ true) xs (before_later o x xs h)) rest)
      (λ _. rest)

  pub rises_placed : (xs : List X) (x : X) → rises before xs ≡ true → rises before (placed before x xs) ≡ true
  rises_placed xs x h =
      rises_join o (filter (λ y. before y x) xs) x (filter (λ y. before x y) xs)
      (rises_kept (λ y. before y x) xs h) (kept_by_passes (λ y. before y x) xs)
      (kept_by_passes (λ y. before x y) xs) (rises_kept (λ y. before x y) xs h)

  pub all_placed : (P : X → Type 0) (xs : List X) (x : X) → P x → AllByRecursion P xs → AllByRecursion P (placed before x xs)
  all_placed P xs x p a = All-append P (filter (λ y. before y x) xs) (x ∷ filter (λ y. before x y) xs) (all_kept_by (λ y. before y x) P xs a) (p, all_kept_by (λ y. before x y) P xs a)

  -- how many stand before and after x
  counted : (xs : List X) (x : X) → rises before xs ≡ true → length (filter (λ y. before y x) xs) + suc (length (filter (λ y. before x y) xs)) ≡ cond (held same x xs) (length xs) (length xs + 1)
  counted [] x h = refl
  counted (y ∷ ys) x h =
      let low : X → Bool = λ z. before z x in
      let high : X → Bool = λ z. before x z in
      let rest = counted ys x (rises_tail o y ys h) in
      let before-x : ℕ = length (filter low ys) in
      let after-x : ℕ = length (filter high ys) in
      elim (sides o y x) [
        | inl w ↦ rw (w.0, w.1, w.2) (let e : suc before-x + suc after-x ≡ suc (before-x + suc after-x) = omega arith in e ∙ one_more (held same x ys) _ _ rest)
        | inr (inl w) ↦
            let b : AllByRecursion (λ z. before x z ≡ true) ys = All-weaker (λ z. before y z ≡ true) (λ z. before x z ≡ true) (λ z. same_before o x y z (same_back o y x w.0)) ys (before_later o y ys h) in
            let none : before-x ≡ 0 = ap length (kept_none low ys (All-weaker (λ z. before x z ≡ true) (λ z. before z x ≡ false) (λ z p. (only_before o x z p).1) ys b)) in
            let all : after-x ≡ length ys = ap length (kept_all high ys b) in
            rw (w.0, w.1, w.2) (omega arith)
        | inr (inr w) ↦ rw (w.0, w.1, w.2) (let e : before-x + suc (suc after-x) ≡ suc (before-x + suc after-x) = omega arith in e ∙ one_more (held same x ys) _ _ rest)
      ]

  -- one more, unless the same is held
  pub length_placed : (xs : List X) (x : X) → rises before xs ≡ true → length (placed before x xs) ≡ cond (held same x xs) (length xs) (length xs + 1)
  length_placed xs x h = length-append (filter (λ y. before y x) xs) (x ∷ filter (λ y. before x y) xs) ∙ counted xs x h

  -- ---- what is in it
  has_kept : (p : X → Bool) (xs : List X) (y : X) → Has (filter p xs) y → Has xs y × (p y ≡ true)
  has_kept p xs y h =
      (all-has (Has xs) (filter p xs) y (all_kept_by p (Has xs) xs (all_has_itself xs)) h, all-has (λ z. p z ≡ true) (filter p xs) y (kept_by_passes p xs) h)

  keeps_all : (p : X → Bool) (xs : List X) → AllByRecursion (λ y. p y ≡ true → Has (filter p xs) y) xs
  keeps_all p [] = tt
  keeps_all p (x ∷ xs) =
      let rest = keeps_all p xs in
      cond_both (p x) (x ∷ filter p xs) (filter p xs) (λ ys. AllByRecursion (λ y. p y ≡ true → Has ys y) (x ∷ xs))
      (λ _. (λ _. (0, omega arith, λ d. refl), All-weaker (λ y. p y ≡ true → Has (filter p xs) y) (λ y. p y ≡ true → Has (x ∷ filter p xs) y) (λ y f e. has_append_right (x ∷ []) (filter p xs) y (f e)) xs rest))
      (λ n. (λ e. absurd (both_ways _ n e), rest))

  keeps : (p : X → Bool) (xs : List X) (y : X) → Has xs y → p y ≡ true → Has (filter p xs) y
  keeps p xs y h = all-has (λ z. p z ≡ true → Has (filter p xs) z) xs y (keeps_all p xs) h

  pub has_placed_new : (xs : List X) (x : X) → Has (placed before x xs) x
  has_placed_new xs x = has_append_right (filter (λ y. before y x) xs) (x ∷ filter (λ y. before x y) xs) x (0, omega arith, λ d. refl)

  pub has_placed_old : (xs : List X) (x y : X) → Has xs y → same y x ≡ false → Has (placed before x xs) y
  has_placed_old xs x y h n =
      let low = filter (λ z. before z x) xs in
      let high = filter (λ z. before x z) xs in
      elim (sides o y x) [
        | inl w ↦ has_append_left low (x ∷ high) y (keeps (λ z. before z x) xs y h w.0)
        | inr (inl w) ↦ absurd (both_ways _ n w.0)
        | inr (inr w) ↦ has_append_right low (x ∷ high) y (has_append_right (x ∷ []) high y (keeps (λ z. before x z) xs y h w.0))
      ]

  -- nothing else: the new record, or an old one that is not the same
  pub has_placed_cases : (xs : List X) (x y : X) → Has (placed before x xs) y → (y ≡ x) ⊎ (Has xs y × (same y x ≡ false))
  has_placed_cases xs x y h =
      let P : X → Type 0 = λ z. (z ≡ x) ⊎ (Has xs z × (same z x ≡ false)) in
      let low = filter (λ z. before z x) xs in
      let high = filter (λ z. before x z) xs in
      let old : AllByRecursion (Has xs) xs = all_has_itself xs in
      all-has P (placed before x xs) y
      (All-append P low (x ∷ high)
      (All-weaker (λ z. Has low z) P (λ z k. let w = has_kept (λ v. before v x) xs z k in inr (w.0, (only_before o z x w.1).0)) low (all_has_itself low))
      (inl refl, All-weaker (λ z. Has high z) P (λ z k. let w = has_kept (λ v. before x v) xs z k in inr (w.0, not_same_after o x z w.1)) high (all_has_itself high)))
      h
