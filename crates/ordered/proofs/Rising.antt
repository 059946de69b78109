-- Lists that rise, and what they hold. Assumes nothing.
use Rattle.std.proofs.Common.{◌≡◌, ℕ, zero, suc, ◌<◌, Bool, true, false, List, [], ◌∷◌, ◌++◌, length, get_or, take, drop, refl, inl, inr, arith}
use Rattle.std.proofs.ByRecursion.{All-append, All-get_or, All-weaker}
use Rattle.std.proofs.lemmas.List.Elements.{recursion_from_All}
use Rattle.std.proofs.lemmas.Bool.{and_from, and_parts, both_ways, cases_lt, cases_order, or_from, or_left, or_parts, or_right}
use Rattle.std.specs.List.{AllByRecursion}
use Rattle.std.specs.List.Sorted.{IsPartitionPoint}
use Rattle.ordered.specs.Order.{TotalOrder, held, rises}
use Rattle.ordered.proofs.Laws.{not_same_after, only_before, same_back}

module _ {X : Type 0} {before same : X → X → Bool} (o : TotalOrder before same) where
  pub rises_tail : (x : X) (xs : List X) → rises before (x ∷ xs) ≡ true → rises before xs ≡ true
  rises_tail x [] h = refl
  rises_tail x (y ∷ ys) h = (and_parts _ _ h).1

  -- a record is before every later one
  pub before_later : (x : X) (xs : List X) → rises before (x ∷ xs) ≡ true → AllByRecursion (λ y. before x y ≡ true) xs
  before_later x [] h = tt
  before_later x (y ∷ ys) h =
      let p = and_parts (before x y) (rises before (y ∷ ys)) h in
      (p.0, All-weaker (λ z. before y z ≡ true) (λ z. before x z ≡ true) (λ z. o.before_on x y z p.0) ys (before_later y ys p.1))

  pub rises_cons : (x : X) (xs : List X) → AllByRecursion (λ y. before x y ≡ true) xs → rises before xs ≡ true → rises before (x ∷ xs) ≡ true
  rises_cons x [] a h = refl
  rises_cons x (y ∷ ys) a h = and_from (before x y) (rises before (y ∷ ys)) a.0 h

  -- at places i < j
  pub before_far : (xs : List X) (i j : ℕ) (d : X) → rises before xs ≡ true → i < j → j < length xs → before (get_or xs i d) (get_or xs j d) ≡ true
  before_far [] i j d h l w = absurd (omega arith)
  before_far (x ∷ xs) i zero d h l w = absurd (omega arith)
  before_far (x ∷ xs) zero (suc j) d h l w = All-get_or (λ y. before x y ≡ true) xs j d (omega arith) (before_later x xs h)
  before_far (x ∷ xs) (suc i) (suc j) d h l w = before_far xs i j d (rises_tail x xs h) (omega arith) (omega arith)

  -- what stands before and after the place i
  pub front_before : (xs : List X) (i : ℕ) (d : X) → rises before xs ≡ true → i < length xs → AllByRecursion (λ y. before y (get_or xs i d) ≡ true) (take i xs)
  front_before [] i d h w = absurd (omega arith)
  front_before (x ∷ xs) zero d h w = tt
  front_before (x ∷ xs) (suc i) d h w = (before_far (x ∷ xs) 0 (suc i) d h (omega arith) w, front_before xs i d (rises_tail x xs h) (omega arith))

  pub back_after : (xs : List X) (i : ℕ) (d : X) → rises before xs ≡ true → i < length xs → AllByRecursion (λ y. before (get_or xs i d) y ≡ true) (drop (suc i) xs)
  back_after [] i d h w = absurd (omega arith)
  back_after (x ∷ xs) zero d h w = before_later x xs h
  back_after (x ∷ xs) (suc i) d h w = back_after xs i d (rises_tail x xs h) (omega arith)

  -- a list, a record and a list
  pub rises_join : (fs : List X) (x : X) (bs : List X) → rises before fs ≡ true → AllByRecursion (λ y. before y x ≡ true) fs → AllByRecursion (λ y. before x y ≡ true) bs → rises before bs ≡ true → rises before (fs ++ x ∷ bs) ≡ true
  rises_join [] x bs r a b s = rises_cons x bs b s
  rises_join (y ∷ fs) x bs r a b s =
      rises_cons y (fs ++ x ∷ bs)
      (All-append (λ z. before y z ≡ true) fs (x ∷ bs) (before_later y fs r) (a.0, All-weaker (λ z. before x z ≡ true) (λ z. before y z ≡ true) (λ z. o.before_on y x z a.0) bs b))
      (rises_join fs x bs (rises_tail y fs r) a.1 b s)

  -- ---- the same record in a list
  pub held_at : (xs : List X) (k : ℕ) (x d : X) → k < length xs → same (get_or xs k d) x ≡ true → held same x xs ≡ true
  held_at [] k x d w h = absurd (omega arith)
  held_at (y ∷ ys) zero x d w h = or_left _ _ h
  held_at (y ∷ ys) (suc k) x d w h = or_right _ _ (held_at ys k x d (omega arith) h)

  pub not_held : (x : X) (xs : List X) → AllByRecursion (λ y. same y x ≡ false) xs → held same x xs ≡ false
  not_held x [] a = refl
  not_held x (y ∷ ys) a = or_from _ _ a.0 (not_held x ys a.1)

  pub none_same : (x : X) (xs : List X) → held same x xs ≡ false → AllByRecursion (λ y. same y x ≡ false) xs
  none_same x [] h = tt
  none_same x (y ∷ ys) h = let p = or_parts (same y x) (held same x ys) h in (p.0, none_same x ys p.1)

  -- no two places hold the same
  pub one_place : (xs : List X) (i j : ℕ) (x d : X) → rises before xs ≡ true → i < length xs → j < length xs → same (get_or xs i d) x ≡ true → same (get_or xs j d) x ≡ true → i ≡ j
  one_place xs i j x d h v w s t =
      let st : same (get_or xs i d) (get_or xs j d) ≡ true = o.same_on (get_or xs i d) x (get_or xs j d) s (same_back o (get_or xs j d) x t) in
      elim (cases_order i j) [
        | inl e ↦ e
        | inr (inl l) ↦ absurd (both_ways _ (only_before o _ _ (before_far xs i j d h l w)).0 st)
        | inr (inr l) ↦ absurd (both_ways _ (not_same_after o _ _ (before_far xs j i d h l v)) st)
      ]

  -- x is not held where each record stands before it or after it
  pub not_held_between : (xs : List X) (k : ℕ) (x : X) → IsPartitionPoint (λ y. before y x ≡ true) (λ y. before x y ≡ true) xs k → held same x xs ≡ false
  not_held_between xs k x p =
      not_held x xs (recursion_from_All (λ y. same y x ≡ false) xs (λ i d w.
      elim (cases_lt i k) [ inl l ↦ (only_before o _ x (p.0 i d (omega arith) l)).0 | inr l ↦ not_same_after o x _ (p.1 i d l w) ]))
