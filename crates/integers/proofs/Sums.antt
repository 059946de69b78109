-- Sums of whole numbers: term by term, exchanged, and cancelled.
use Rattle.std.proofs.Common.{◌≡◌, ℕ, zero, suc, ◌+◌, ◌<◌, Bool, true, false, cond, eqb, List, [], ◌∷◌, map, ℤ, pos, ◌+ℤ◌, ◌-ℤ◌, ◌*ℤ◌, neg_ℤ, ◌≤ℤ◌, sym, refl, ap, ◌∙◌, ⊎_elim, add-one, arith}
use lib.IntN.{*ℤ-zero}
use Rattle.std.specs.List.{AllByRecursion, filter, fold}
use Rattle.std.proofs.lemmas.Int.{ints}
use Rattle.std.proofs.lemmas.Bool.{cases_eq, cond-true, cond-false, eq-eqb, ne_eqb}
use Rattle.integers.specs.Sums.{sum_to, sum_over}
use Rattle.integers.proofs.Products.{mul_add}

pub sum_to-more : (n : ℕ) (f : ℕ → ℤ) → sum_to (n + 1) f ≡ sum_to n f +ℤ f n
unfolding sum_to
sum_to-more n f = rw add-one

pub sum_to-same : (n : ℕ) (f g : ℕ → ℤ) → ((k : ℕ) → k < n → f k ≡ g k) → sum_to n f ≡ sum_to n g
unfolding sum_to
sum_to-same zero f g h = refl
sum_to-same (suc n) f g h =
    let i = sum_to-same n f g (λ k l. h k (omega arith)) in let e = h n (omega arith) in omega (arith, ints)

pub sum_to-none : (n : ℕ) (f : ℕ → ℤ) → ((k : ℕ) → k < n → f k ≡ pos 0) → sum_to n f ≡ pos 0
unfolding sum_to
sum_to-none zero f h = refl
sum_to-none (suc n) f h =
    let i = sum_to-none n f (λ k l. h k (omega arith)) in let e = h n (omega arith) in omega (arith, ints)

pub sum_to-add : (n : ℕ) (f g : ℕ → ℤ) → sum_to n (λ k. f k +ℤ g k) ≡ sum_to n f +ℤ sum_to n g
unfolding sum_to
sum_to-add zero f g = refl
sum_to-add (suc n) f g = let i = sum_to-add n f g in omega (arith, ints)

pub sum_to-neg : (n : ℕ) (f : ℕ → ℤ) → sum_to n (λ k. neg_ℤ (f k)) ≡ neg_ℤ (sum_to n f)
unfolding sum_to
sum_to-neg zero f = refl
sum_to-neg (suc n) f = let i = sum_to-neg n f in omega (arith, ints)

pub sum_to-sub : (n : ℕ) (f g : ℕ → ℤ) → sum_to n (λ k. f k -ℤ g k) ≡ sum_to n f -ℤ sum_to n g
unfolding sum_to
sum_to-sub zero f g = refl
sum_to-sub (suc n) f g = let i = sum_to-sub n f g in omega (arith, ints)

pub sum_to-scale : (n : ℕ) (c : ℤ) (f : ℕ → ℤ) → sum_to n (λ k. c *ℤ f k) ≡ c *ℤ sum_to n f
unfolding sum_to
sum_to-scale zero c f = sym (*ℤ-zero c)
sum_to-scale (suc n) c f = ap (λ z. z +ℤ (c *ℤ f n)) (sum_to-scale n c f) ∙ sym (mul_add c (sum_to n f) (f n))

pub sum_to-keeps : (n : ℕ) (f g : ℕ → ℤ) → ((k : ℕ) → k < n → f k ≤ℤ g k) → sum_to n f ≤ℤ sum_to n g
unfolding sum_to
sum_to-keeps zero f g h = omega (arith, ints)
sum_to-keeps (suc n) f g h =
    let i = sum_to-keeps n f g (λ k l. h k (omega arith)) in let e = h n (omega arith) in omega (arith, ints)

-- the order of two sums may be exchanged
pub sum_to-swap : (n m : ℕ) (f : ℕ → ℕ → ℤ) → sum_to n (λ i. sum_to m (λ j. f i j)) ≡ sum_to m (λ j. sum_to n (λ i. f i j))
unfolding sum_to
sum_to-swap zero m f = sym (sum_to-none m (λ j. pos 0) (λ k h. refl))
sum_to-swap (suc n) m f =
    ap (λ z. z +ℤ sum_to m (f n)) (sum_to-swap n m f) ∙ sym (sum_to-add m (λ j. sum_to n (λ i. f i j)) (f n))

-- what each of two owes the other cancels in the sum over all pairs
pub sum_to-cancels : (n : ℕ) (t : ℕ → ℕ → ℤ) → ((i j : ℕ) → t i j ≡ neg_ℤ (t j i)) → sum_to n (λ i. sum_to n (λ j. t i j)) ≡ pos 0
sum_to-cancels n t h =
    let s : ℤ = sum_to n (λ i. sum_to n (λ j. t i j)) in
    nothing s
    (sum_to-swap n n t
    ∙ sum_to-same n (λ j. sum_to n (λ i. t i j)) (λ j. neg_ℤ (sum_to n (λ i. t j i)))
    (λ j l. sum_to-same n (λ i. t i j) (λ i. neg_ℤ (t j i)) (λ i k. h i j) ∙ sum_to-neg n (λ i. t j i))
    ∙ sum_to-neg n (λ j. sum_to n (λ i. t j i)))
  where
    nothing : (s : ℤ) → s ≡ neg_ℤ s → s ≡ pos 0
    nothing s e = omega (arith, ints)

-- a sum in which only the term at p is not 0
pub sum_to-only : (n p : ℕ) (x : ℤ) → p < n → sum_to n (λ k. cond (eqb p k) x (pos 0)) ≡ x
unfolding sum_to
sum_to-only zero p x h = absurd (omega arith)
sum_to-only (suc n) p x h =
    ⊎_elim
    (λ e.
    let rest = sum_to-none n (λ k. cond (eqb p k) x (pos 0)) (λ k l. cond-false (eqb p k) x (pos 0) (ne_eqb p k (λ f. omega arith))) in
    let last = cond-true (eqb p n) x (pos 0) (eq-eqb p n e) in
    omega (arith, ints))
    (λ e.
    let rest = sum_to-only n p x (omega (arith, e)) in
    let last = cond-false (eqb p n) x (pos 0) (ne_eqb p n e) in
    omega (arith, ints))
    (cases_eq p n)

none_first : (z : ℤ) → pos 0 +ℤ z ≡ z
none_first z = omega (arith, ints)

module _ {X : Type 0} where
  pub sum_over-add : (f g : X → ℤ) (xs : List X) → sum_over (λ x. f x +ℤ g x) xs ≡ sum_over f xs +ℤ sum_over g xs
  unfolding sum_over
  sum_over-add f g [] = refl
  sum_over-add f g (x ∷ xs) = let i = sum_over-add f g xs in omega (arith, ints)

  pub sum_over-sub : (f g : X → ℤ) (xs : List X) → sum_over (λ x. f x -ℤ g x) xs ≡ sum_over f xs -ℤ sum_over g xs
  unfolding sum_over
  sum_over-sub f g [] = refl
  sum_over-sub f g (x ∷ xs) = let i = sum_over-sub f g xs in omega (arith, ints)

  pub sum_over-scale : (c : ℤ) (f : X → ℤ) (xs : List X) → sum_over (λ x. c *ℤ f x) xs ≡ c *ℤ sum_over f xs
  unfolding sum_over
  sum_over-scale c f [] = sym (*ℤ-zero c)
  sum_over-scale c f (x ∷ xs) = ap (λ z. (c *ℤ f x) +ℤ z) (sum_over-scale c f xs) ∙ sym (mul_add c (f x) (sum_over f xs))

  pub sum_over-same : (f g : X → ℤ) (xs : List X) → AllByRecursion (λ x. f x ≡ g x) xs → sum_over f xs ≡ sum_over g xs
  unfolding sum_over
  sum_over-same f g [] a = refl
  sum_over-same f g (x ∷ xs) a = let i = sum_over-same f g xs a.1 in let e = a.0 in omega (arith, ints)

  pub sum_over-keeps : (f g : X → ℤ) (xs : List X) → AllByRecursion (λ x. f x ≤ℤ g x) xs → sum_over f xs ≤ℤ sum_over g xs
  unfolding sum_over
  sum_over-keeps f g [] a = omega (arith, ints)
  sum_over-keeps f g (x ∷ xs) a = let i = sum_over-keeps f g xs a.1 in let e = a.0 in omega (arith, ints)

  -- a sum over a list and one below n may be exchanged
  pub sum_over-swap : (n : ℕ) (f : ℕ → X → ℤ) (xs : List X) → sum_to n (λ k. sum_over (f k) xs) ≡ sum_over (λ x. sum_to n (λ k. f k x)) xs
  unfolding sum_over
  sum_over-swap n f [] = sum_to-none n (λ k. pos 0) (λ k h. refl)
  sum_over-swap n f (x ∷ xs) =
      sum_to-add n (λ k. f k x) (λ k. sum_over (f k) xs) ∙ ap (λ z. sum_to n (λ k. f k x) +ℤ z) (sum_over-swap n f xs)

  pub sum_over-filter : (p : X → Bool) (f : X → ℤ) (xs : List X) → sum_over f (filter p xs) ≡ sum_over (λ x. cond (p x) (f x) (pos 0)) xs
  unfolding sum_over
  sum_over-filter p f [] = refl
  sum_over-filter p f (x ∷ xs) = by (p x) (sum_over-filter p f xs)
    where
      by : (b : Bool) → sum_over f (filter p xs) ≡ sum_over (λ x. cond (p x) (f x) (pos 0)) xs → sum_over f (cond b (x ∷ filter p xs) (filter p xs)) ≡ cond b (f x) (pos 0) +ℤ sum_over (λ x. cond (p x) (f x) (pos 0)) xs
      by true e = ap (λ z. f x +ℤ z) e
      by false e = e ∙ sym (none_first (sum_over (λ x. cond (p x) (f x) (pos 0)) xs))

  pub sum_over-map : {Y : Type 0} (g : Y → ℤ) (f : X → Y) (xs : List X) → sum_over g (map f xs) ≡ sum_over (λ x. g (f x)) xs
  unfolding sum_over
  sum_over-map g f [] = refl
  sum_over-map g f (x ∷ xs) = ap (λ z. g (f x) +ℤ z) (sum_over-map g f xs)

fold_from : (a : ℤ) (xs : List ℤ) → fold ◌+ℤ◌ a xs ≡ a +ℤ sum_over (λ z. z) xs
unfolding sum_over
fold_from a [] = omega (arith, ints)
fold_from a (x ∷ xs) = fold_from (a +ℤ x) xs ∙ joined (sum_over (λ z. z) xs)
  where
    joined : (s : ℤ) → (a +ℤ x) +ℤ s ≡ a +ℤ (x +ℤ s)
    joined s = omega (arith, ints)

-- the sum that an iterator of whole numbers answers with
pub fold-sum : (xs : List ℤ) → fold ◌+ℤ◌ (pos 0) xs ≡ sum_over (λ z. z) xs
fold-sum xs = fold_from (pos 0) xs ∙ none_first (sum_over (λ z. z) xs)
