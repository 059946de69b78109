-- What is left of a list after a record is removed. Assumes nothing.
use Rattle.std.proofs.Common.{◌≡◌, ℕ, zero, suc, ◌<◌, ◌≤◌, Bool, true, false, not, List, [], ◌∷◌, ◌++◌, length, get_or, take, drop, filter, sym, refl, ap, ◌∙◌, subst, arith}
use Rattle.std.proofs.lemmas.List.Elements.{filter-append}
use Rattle.std.proofs.ByRecursion.{All-append, All-drop, all-has, all_has_itself, All-take, All-weaker, has_append_left, has_append_right}
use Rattle.std.proofs.lemmas.List.{set-get_or, set_split}
use Rattle.std.proofs.lemmas.Bool.{both_ways, cond-false, not_from_false, not_from_true}
use Rattle.std.specs.List.{remove, ContainsAt as Has, AllByRecursion}
use Rattle.ordered.specs.Order.{SameAt, TotalOrder, held, rises, without}
use Rattle.ordered.proofs.Laws.{before_same, not_same_after, only_before, same_back, same_before, same_itself}
use Rattle.ordered.proofs.Placed.{kept_all}
use Rattle.ordered.proofs.Rising.{back_after, before_later, front_before, none_same, not_held, rises_cons, rises_tail}

module _ {X : Type 0} where
  pub all_removed : (P : X → Type 0) (xs : List X) (i : ℕ) → AllByRecursion P xs → AllByRecursion P (remove xs i)
  all_removed P xs i a = All-append P (take i xs) (drop (suc i) xs) (All-take P i xs a) (All-drop P (suc i) xs a)

  pub removed_past : (xs : List X) (i : ℕ) → length xs ≤ i → xs ≡ remove xs i
  removed_past [] zero h = refl
  removed_past [] (suc i) h = refl
  removed_past (x ∷ xs) zero h = absurd (omega arith)
  removed_past (x ∷ xs) (suc i) h = ap (λ ys. x ∷ ys) (removed_past xs i (omega arith))

  pub has_removed : (xs : List X) (i : ℕ) (y : X) → Has (remove xs i) y → Has xs y
  has_removed xs i y h = all-has (Has xs) (remove xs i) y (all_removed (Has xs) xs i (all_has_itself xs)) h

module _ {X : Type 0} {before same : X → X → Bool} (o : TotalOrder before same) where
  pub rises_removed : (xs : List X) (i : ℕ) → rises before xs ≡ true → rises before (remove xs i) ≡ true
  rises_removed [] zero h = refl
  rises_removed [] (suc i) h = refl
  rises_removed (x ∷ xs) zero h = rises_tail o x xs h
  rises_removed (x ∷ xs) (suc i) h =
      rises_cons o x (remove xs i) (all_removed (λ y. before x y ≡ true) xs i (before_later o x xs h)) (rises_removed xs i (rises_tail o x xs h))

  -- the record that stood there is gone
  pub not_held_removed : (xs : List X) (i : ℕ) (d : X) → rises before xs ≡ true → i < length xs → held same (get_or xs i d) (remove xs i) ≡ false
  not_held_removed xs i d h w =
      let x = get_or xs i d in
      let P : X → Type 0 = λ y. same y x ≡ false in
      not_held o x (remove xs i) (All-append P (take i xs) (drop (suc i) xs)
      (All-weaker (λ y. before y x ≡ true) P (λ y b. (only_before o y x b).0) (take i xs) (front_before o xs i d h w))
      (All-weaker (λ y. before x y ≡ true) P (λ y b. not_same_after o x y b) (drop (suc i) xs) (back_after o xs i d h w)))

  -- the others stay
  pub has_removed_other : (xs : List X) (i : ℕ) (d y : X) → i < length xs → Has xs y → same y (get_or xs i d) ≡ false → Has (remove xs i) y
  has_removed_other xs i d y w h n =
      let x = get_or xs i d in
      let fs = take i xs in
      let bs = drop (suc i) xs in
      let P : X → Type 0 = λ z. same z x ≡ false → Has (fs ++ bs) z in
      let split : fs ++ x ∷ bs ≡ xs = sym (set_split xs i x w) ∙ set-get_or xs i d in
      all-has P xs y (subst (AllByRecursion P) split (All-append P fs (x ∷ bs)
      (All-weaker (λ z. Has fs z) P (λ z k _. has_append_left fs bs z k) fs (all_has_itself fs))
      (λ e. absurd (both_ways _ e (same_itself o x)), All-weaker (λ z. Has bs z) P (λ z k _. has_append_right fs bs z k) bs (all_has_itself bs)))) h n

  pub without_none : (xs : List X) (x : X) → held same x xs ≡ false → without same x xs ≡ xs
  without_none xs x h =
      kept_all (λ y. not (same y x)) xs (All-weaker (λ y. same y x ≡ false) (λ y. not (same y x) ≡ true) (λ y. not_from_false (same y x)) xs (none_same o x xs h))

  -- to remove the same record is to keep all others
  pub removed_without : (xs : List X) (k : ℕ) (x : X) → rises before xs ≡ true → SameAt same xs k x → remove xs k ≡ without same x xs
  removed_without xs k x h at =
      let y = get_or xs k x in
      let fs = take k xs in
      let bs = drop (suc k) xs in
      let P : X → Type 0 = λ z. not (same z x) ≡ true in
      let p : X → Bool = λ z. not (same z x) in
      let split : fs ++ y ∷ bs ≡ xs = sym (set_split xs k y at.0) ∙ set-get_or xs k x in
      let f : filter p fs ≡ fs = kept_all p fs (All-weaker (λ z. before z y ≡ true) P (λ z b. not_from_false (same z x) (only_before o z x (before_same o z y x b at.1)).0) fs (front_before o xs k x h at.0)) in
      let b : filter p bs ≡ bs = kept_all p bs (All-weaker (λ z. before y z ≡ true) P (λ z b. not_from_false (same z x) (not_same_after o x z (same_before o x y z (same_back o y x at.1) b))) bs (back_after o xs k x h at.0)) in
      sym (ap (filter p) (sym split) ∙ filter-append p fs (y ∷ bs) ∙ ap (λ ys. ys ++ filter p (y ∷ bs)) f ∙ ap (λ ys. fs ++ ys) (cond-false (p y) (y ∷ filter p bs) (filter p bs) (not_from_true (same y x) at.1) ∙ b))
