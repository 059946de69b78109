-- The best price by a fold from the right, and what `min` and `max` pick, are one.
use Rattle.std.proofs.Common.{◌≡◌, Bool, cond, List, [], ◌∷◌, map, Some, None, filter, Option, Ordering, ◌<ℤ◌, refl, sym, ap, ◌∙◌, subst, arith}
use Rattle.std.specs.List.{reduce}
use Rattle.std.specs.Cmp.{int_ranks}
use Rattle.std.specs.Ordering.{min_by_ordering, max_by_ordering, MatchOrdering}
use Rattle.std.specs.declared.cmp.Ordering.TheVariants.{Less, Equal, Greater}
use Rattle.std.proofs.lemmas.Int.{ints}
use Rattle.std.proofs.lemmas.Bool.{cond-false, cond-true}
use Rattle.units.specs.declared.Price.{Price}
use Rattle.ladder.proofs.Extremes.{At-or_none, Ends, higher, lower, picked, reduce_first, reduced}
use Rattle.facts.specs.Prices.{above, below, better, best}

by_lower : (p q : Price) (o : Ordering) → MatchOrdering o (p.0 <ℤ q.0) (p.0 ≡ q.0) (q.0 <ℤ p.0) → min_by_ordering o p q ≡ cond (below q p) q p
by_lower p q Less h = sym (cond-false (below q p) q p (grind (arith, ints)))
by_lower p q Equal h = sym (cond-false (below q p) q p (grind (arith, ints)))
by_lower p q Greater h = sym (cond-true (below q p) q p (grind (arith, ints)))

by_higher : (p q : Price) (o : Ordering) → MatchOrdering o (p.0 <ℤ q.0) (p.0 ≡ q.0) (q.0 <ℤ p.0) → max_by_ordering o p q ≡ cond (above q p) q p
by_higher p q Less h = sym (cond-true (above q p) q p (grind (arith, ints)))
by_higher p q Equal h = sym (cond-false (above q p) q p (grind (arith, ints)) ∙ ap (λ z. record { 0 = z }) h)
by_higher p q Greater h = sym (cond-false (above q p) q p (grind (arith, ints)))

pub lower_is : (p q : Price) → lower p q ≡ cond (below q p) q p
lower_is p q = by_lower p q _ (int_ranks p.0 q.0)

pub higher_is : (p q : Price) → higher p q ≡ cond (above q p) q p
higher_is p q = by_higher p q _ (int_ranks p.0 q.0)

module _ {W : Price → Price → Type 0} {pick : Price → Price → Price} (ends : Ends W pick) (beats : Price → Price → Bool) (is : (p q : Price) → pick p q ≡ cond (beats q p) q p) where
  picked_better : (p : Price) (o : Option Price) → picked pick p o ≡ better beats p o
  picked_better p None = refl
  picked_better p (Some q) = is p q

  pub reduce_is_best : (ps : List Price) → reduce pick ps ≡ best beats ps
  reduce_is_best [] = refl
  reduce_is_best (p ∷ ps) = ap Some (reduce_first ends p ps ∙ picked_better p (reduce pick ps)) ∙ ap (λ o. Some (better beats p o)) (reduce_is_best ps)

  -- the fold gives the extreme in words
  pub best_is : {X : Type 0} (counts : X → Bool) (price : X → Price) (d : X) (xs : List X) → At-or_none W counts price d xs (best beats (map price (filter counts xs)))
  best_is counts price d xs = subst (At-or_none W counts price d xs) (reduce_is_best (map price (filter counts xs))) (reduced ends counts price d xs)
