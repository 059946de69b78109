-- What a chain of iterators that ends in a sum comes to.
use Rattle.std.proofs.Common.{◌≡◌, ℕ, ◌*◌, ◌^◌, ◌<◌, ◌≤◌, Bool, cond, leb, List, [], ◌∷◌, length, map, take, Option, ℤ, pos, ◌+ℤ◌, nat_abs, sym, ap, ◌∙◌, subst, mul-le-mul, arith, SFits}
use mir.Syntax.{w128}
use Rattle.std.specs.Bool.{⊤}
use Rattle.std.specs.List.{AllByRecursion, fold, filter}
use Rattle.std.specs.Iterator.{Drains, Yields}
use Rattle.std.specs.Iterator.Runs.{EachRunFrom, YieldsRun}
use Rattle.std.proofs.lemmas.Bool.{cond-true, cond_both, le-leb, leb-true}
use Rattle.std.proofs.lemmas.List.{length-take, map-id, take-map}
use Rattle.std.proofs.lemmas.Iterator.{YieldsList, items_from_drains}
use Rattle.std.proofs.lemmas.Iterator.Consumers.{YieldsList-so_far}
use Rattle.std.proofs.lemmas.List.Sums.{count_by-le-length, length-filter}
use Rattle.integers.specs.Near.{Near}
use Rattle.integers.specs.Sums.{sum_over}
use Rattle.integers.proofs.Distances.{abs_near, near_abs, near_zero, near_weaker, near-sum_over}
use Rattle.integers.proofs.Sums.{fold-sum, sum_over-map}
use Rattle.billing.proofs.Wide.{fits128}

-- z where it lies within n of 0, else 0
pub near_part : ℕ → ℤ → ℤ
near_part n z = cond (leb (nat_abs z) n) z (pos 0)

pub near_part_near : (n : ℕ) (z : ℤ) → Near n (near_part n z)
unfolding near_part
near_part_near n z = cond_both (leb (nat_abs z) n) z (pos 0) (λ x. Near n x) (λ e. abs_near n z (leb-true (nat_abs z) n e)) (λ e. near_zero n)

pub near_part_is : (n : ℕ) (z : ℤ) → Near n z → z ≡ near_part n z
unfolding near_part
near_part_is n z a = sym (cond-true (leb (nat_abs z) n) z (pos 0) (le-leb (nat_abs z) n (near_abs n z a)))

every : {X : Type 0} (P : X → Type 0) → ((x : X) → P x) → (xs : List X) → AllByRecursion P xs
every P h [] = tt
every P h (x ∷ xs) = (h x, every P h xs)

module _ {X : Type 0} (f : X → ℤ) (ys : List X) {S : Type 0} {steps : S → Option ℤ → S → Type 0} {s : S} (chain : YieldsList steps (λ z. z) s (map f ys)) where
  pub summed : (r : ℤ) → ((xs : List ℤ) × (⊤ → Drains steps s xs) × (r ≡ fold ◌+ℤ◌ (pos 0) xs)) → r ≡ sum_over f ys
  summed r ran =
      let drained : Drains steps s ran.0 = ran.1 tt in
      let whole : map (λ (z : ℤ). z) ran.0 ≡ map f ys = items_from_drains {steps = steps} {v = λ z. z} {s = s} {all = map f ys} ran.0 (drained.1.0, drained.1.1, λ _. (drained.0, drained.1.2)) chain in
      ran.2 ∙ ap (fold ◌+ℤ◌ (pos 0)) (sym (map-id ran.0) ∙ whole)
      ∙ fold-sum (map f ys) ∙ sum_over-map (λ z. z) f ys

  -- each of the items lies within m of 0, and they are few
  pub sum_fits : (m : ℕ) → ((x : X) → Near m (f x)) → length ys * m < 2 ^ 127 → EachRunFrom steps s (λ p. SFits w128 (fold ◌+ℤ◌ (pos 0) p.items))
  unfolding YieldsRun
  sum_fits m near few = λ p _ at.
      let k : ℕ = length p.items in
      let items : p.items ≡ map f (take k ys) = sym (map-id p.items) ∙ YieldsList-so_far chain p.items p.gave.0.0 (subst (λ u. Yields steps u p.items p.gave.0.0) at p.gave.0.1) ∙ take-map f k ys in
      let is : fold ◌+ℤ◌ (pos 0) p.items ≡ sum_over f (take k ys) = ap (fold ◌+ℤ◌ (pos 0)) items ∙ fold-sum (map f (take k ys)) ∙ sum_over-map (λ z. z) f (take k ys) in
      let no_more : length (take k ys) ≤ length ys = omega (arith, length-take k ys) in
      let same : m ≤ m = omega arith in
      let some = near-sum_over m f (take k ys) (every (λ x. Near m (f x)) near (take k ys)) in
      subst (λ z. SFits w128 z) (sym is) (fits128 (length ys * m) (sum_over f (take k ys)) (near_weaker (length (take k ys) * m) (length ys * m) _ (mul-le-mul no_more same) some) few)

pub sum_near : {X : Type 0} (f : X → ℤ) (m : ℕ) → ((x : X) → Near m (f x)) → (ys : List X) (n : ℕ) → length ys * m ≤ n → Near n (sum_over f ys)
sum_near f m near ys n few = near_weaker (length ys * m) n (sum_over f ys) few (near-sum_over m f ys (every (λ x. Near m (f x)) near ys))

pub fewer : {X : Type 0} (p : X → Bool) (xs : List X) → length (filter p xs) ≤ length xs
fewer p xs = omega (arith, length-filter p xs, count_by-le-length p xs)
