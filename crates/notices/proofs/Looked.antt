-- What is kept of a record that is the same, once another is put at its place or left out.
use Rattle.std.proofs.Common.{◌≡◌, ℕ, Bool, true, false, cond, not, List, [], ◌∷◌, ◌++◌, ℤ, pos, filter, sym, refl, ap, ◌∙◌, ⊎_elim, arith}
use Rattle.std.specs.List.{AllByRecursion}
use Rattle.std.proofs.ByRecursion.{All-weaker, kept_by_passes}
use Rattle.std.proofs.lemmas.Bool.{both_ways, cases_Bool, cond-true, cond-false, not_from_false, not-true}
use Rattle.ordered.specs.Order.{TotalOrder, exactly_one, placed, without}
use Rattle.ordered.proofs.Laws.{same_back, same_before, before_same, only_before}
use Rattle.notices.specs.Kept.{value_like}

third : (p q r : Bool) → exactly_one p q r ≡ true → p ≡ false → q ≡ false → r ≡ true
third true q r e f g = absurd (let z : ◌≡◌ {A = ℕ} 0 1 = cc in omega arith)
third false true r e f g = absurd (let z : ◌≡◌ {A = ℕ} 0 1 = cc in omega arith)
third false false r e f g = e

-- a test that would be both
pub neither : (b : Bool) → (b ≡ true → ⊥) → b ≡ false
neither b n = ⊎_elim (λ t. absurd (n t)) (λ f. f) (cases_Bool b)

module _ {X : Type 0} (same : X → X → Bool) (value : X → ℤ) where
  pub none_like : (x : X) (xs : List X) → AllByRecursion (λ y. same y x ≡ false) xs → value_like same value x xs ≡ pos 0
  unfolding value_like
  none_like x [] a = refl
  none_like x (y ∷ xs) a = cond-false (same y x) (value y) (value_like same value x xs) a.0 ∙ none_like x xs a.1

  past_none : (x : X) (xs ys : List X) → AllByRecursion (λ y. same y x ≡ false) xs → value_like same value x (xs ++ ys) ≡ value_like same value x ys
  unfolding value_like
  past_none x [] ys a = refl
  past_none x (y ∷ xs) ys a = cond-false (same y x) (value y) (value_like same value x (xs ++ ys)) a.0 ∙ past_none x xs ys a.1

  in_front : (x : X) (xs ys : List X) → AllByRecursion (λ y. same y x ≡ false) ys → value_like same value x (xs ++ ys) ≡ value_like same value x xs
  unfolding value_like
  in_front x [] ys a = none_like x ys a
  in_front x (y ∷ xs) ys a = ap (λ z. cond (same y x) (value y) z) (in_front x xs ys a)

  -- a filter that keeps every record like x
  among_kept : (p : X → Bool) (x : X) (xs : List X) → ((y : X) → same y x ≡ true → p y ≡ true) → value_like same value x (filter p xs) ≡ value_like same value x xs
  unfolding value_like
  among_kept p x [] h = refl
  among_kept p x (y ∷ xs) h =
      ⊎_elim
      (λ t. ap (value_like same value x) (cond-true (p y) (y ∷ filter p xs) (filter p xs) t) ∙ ap (λ z. cond (same y x) (value y) z) (among_kept p x xs h))
      (λ f.
      ap (value_like same value x) (cond-false (p y) (y ∷ filter p xs) (filter p xs) f) ∙ among_kept p x xs h
      ∙ sym (cond-false (same y x) (value y) (value_like same value x xs) (neither (same y x) (λ t. both_ways (p y) f (h y t)))))
      (cases_Bool (p y))

module _ {X : Type 0} {before same : X → X → Bool} (o : TotalOrder before same) (value : X → ℤ) (n x : X) (xs : List X) where
  front : List X
  front = filter (λ y. before y n) xs

  back : List X
  back = filter (λ y. before n y) xs

  like_x : X → Type 0
  like_x y = same y x ≡ false

  pub placed_like : value_like same value x (placed before n xs) ≡ cond (same n x) (value n) (value_like same value x xs)
  unfolding value_like front back like_x
  placed_like =
      ⊎_elim
      (λ t.
      past_none same value x front (n ∷ back)
      (All-weaker (λ y. before y n ≡ true) like_x (λ y b. neither (same y x) (λ s. both_ways (same y n) (only_before o y n b).0 (o.same_on y x n s (same_back o n x t)))) front (kept_by_passes (λ y. before y n) xs))
      ∙ cond-true (same n x) (value n) (value_like same value x back) t
      ∙ sym (cond-true (same n x) (value n) (value_like same value x xs) t))
      (λ f.
      ⊎_elim
      (λ b.
      past_none same value x front (n ∷ back)
      (All-weaker (λ y. before y n ≡ true) like_x (λ y c. neither (same y x) (λ s. both_ways (before n y) (only_before o y n c).1 (before_same o n x y b (same_back o y x s)))) front (kept_by_passes (λ y. before y n) xs))
      ∙ cond-false (same n x) (value n) (value_like same value x back) f
      ∙ among_kept same value (λ y. before n y) x xs (λ y s. before_same o n x y b (same_back o y x s))
      ∙ sym (cond-false (same n x) (value n) (value_like same value x xs) f))
      (λ c.
      let b : before x n ≡ true = third (before n x) (same n x) (before x n) (o.one n x) c f in
      in_front same value x front (n ∷ back)
      (f, All-weaker (λ y. before n y ≡ true) like_x (λ y d. neither (same y x) (λ s. both_ways (before n y) (only_before o y n (same_before o y x n s b)).1 d)) back (kept_by_passes (λ y. before n y) xs))
      ∙ among_kept same value (λ y. before y n) x xs (λ y s. same_before o y x n s b)
      ∙ sym (cond-false (same n x) (value n) (value_like same value x xs) f))
      (cases_Bool (before n x)))
      (cases_Bool (same n x))

  pub without_like : value n ≡ pos 0 → value_like same value x (without same n xs) ≡ cond (same n x) (value n) (value_like same value x xs)
  unfolding like_x
  without_like zero =
      ⊎_elim
      (λ t.
      none_like same value x (without same n xs)
      (All-weaker (λ y. not (same y n) ≡ true) like_x (λ y d. neither (same y x) (λ s. both_ways (same y n) (not-true (same y n) d) (o.same_on y x n s (same_back o n x t)))) (without same n xs) (kept_by_passes (λ y. not (same y n)) xs))
      ∙ sym zero ∙ sym (cond-true (same n x) (value n) (value_like same value x xs) t))
      (λ f.
      among_kept same value (λ y. not (same y n)) x xs (λ y s. not_from_false (same y n) (neither (same y n) (λ u. both_ways (same n x) f (o.same_on n y x (same_back o y n u) s))))
      ∙ sym (cond-false (same n x) (value n) (value_like same value x xs) f))
      (cases_Bool (same n x))
