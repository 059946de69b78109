-- The lowest and the highest price of a list, as `min` and `max` pick them, in words. Assumes nothing.
use Rattle.std.proofs.Common.{◌≡◌, ℕ, zero, suc, ◌<◌, Bool, true, false, eqb, List, [], ◌∷◌, map, length, get_or, Some, None, filter, Option, ◌<ℤ◌, ◌⊎◌, Ordering, MatchOption, sym, refl, ap, ◌∙◌, subst, inl, inr, ⊎_elim, arith}
use Rattle.std.specs.Iterator.{Drains}
use Rattle.std.specs.Iterator.Runs.{Run, EachRunFrom}
use Rattle.std.specs.List.{fold, reduce, FoldsTo}
use Rattle.std.specs.Cmp.{int_ranks}
use Rattle.std.specs.Ordering.{int_cmp, min_by_ordering, max_by_ordering, MatchOrdering}
use Rattle.std.specs.declared.cmp.Ordering.TheVariants.{Less, Equal, Greater}
use Rattle.std.proofs.lemmas.Int.{ints}
use Rattle.std.proofs.lemmas.Iterator.{YieldsList}
use Rattle.std.proofs.lemmas.Iterator.Consumers.{reduce_from_yields_List}
use Rattle.std.proofs.lemmas.Bool.{both_ways, cond_both, eqb-true, eq-eqb, ne_eqb}
use Rattle.units.specs.declared.Position.{Position}
use Rattle.units.specs.declared.Price.{Price}
use Rattle.market.specs.declared.words.Bid.{Bid}
use Rattle.market.specs.Words.{no_bid}
use Rattle.ladder.specs.Standing.{Extreme, NoHigher, NoLower, OfHour}

abbrev pub lower : Price → Price → Price
lower p q = min_by_ordering (int_cmp p.0 q.0) p q

abbrev pub higher : Price → Price → Price
higher p q = max_by_ordering (int_cmp p.0 q.0) p q

-- the choice of two prices and the bound that belong together
pub record Ends (W : Price → Price → Type 0) (pick : Price → Price → Price) : Type 0 where
  pub level : (p : Price) → W p p
  pub chain : (p q r : Price) → W p q → W q r → W p r
  pub same : (p q : Price) → W p q → W q p → p ≡ q
  pub within : (p q : Price) → W (pick p q) p × W (pick p q) q
  pub either : (p q : Price) → (pick p q ≡ p) ⊎ (pick p q ≡ q)

same_cents : (p q : Price) → p.0 ≡ q.0 → p ≡ q
same_cents p q e = ap (λ z. record { 0 = z }) e

lower_within : (p q : Price) (o : Ordering) → MatchOrdering o (p.0 <ℤ q.0) (p.0 ≡ q.0) (q.0 <ℤ p.0) → NoLower (min_by_ordering o p q) p × NoLower (min_by_ordering o p q) q
lower_within p q Less h = (omega (arith, ints), omega (arith, ints))
lower_within p q Equal h = (omega (arith, ints), omega (arith, ints))
lower_within p q Greater h = (omega (arith, ints), omega (arith, ints))

lower_either : (p q : Price) (o : Ordering) → (min_by_ordering o p q ≡ p) ⊎ (min_by_ordering o p q ≡ q)
lower_either p q Less = inl refl
lower_either p q Equal = inl refl
lower_either p q Greater = inr refl

higher_within : (p q : Price) (o : Ordering) → MatchOrdering o (p.0 <ℤ q.0) (p.0 ≡ q.0) (q.0 <ℤ p.0) → NoHigher (max_by_ordering o p q) p × NoHigher (max_by_ordering o p q) q
higher_within p q Less h = (omega (arith, ints), omega (arith, ints))
higher_within p q Equal h = (omega (arith, ints), omega (arith, ints))
higher_within p q Greater h = (omega (arith, ints), omega (arith, ints))

higher_either : (p q : Price) (o : Ordering) → (max_by_ordering o p q ≡ p) ⊎ (max_by_ordering o p q ≡ q)
higher_either p q Less = inr refl
higher_either p q Equal = inr refl
higher_either p q Greater = inl refl

pub lowest : Ends NoLower lower
lowest =
    record {
      level = λ p. omega (arith, ints);
      chain = λ p q r x y. omega (arith, ints);
      same = λ p q x y. same_cents p q (omega (arith, ints));
      within = λ p q. lower_within p q _ (int_ranks p.0 q.0);
      either = λ p q. lower_either p q _;
    }

pub highest : Ends NoHigher higher
highest =
    record {
      level = λ p. omega (arith, ints);
      chain = λ p q r x y. omega (arith, ints);
      same = λ p q x y. same_cents p q (omega (arith, ints));
      within = λ p q. higher_within p q _ (int_ranks p.0 q.0);
      either = λ p q. higher_either p q _;
    }

-- p is the price of an element that counts, and none that counts has a price beyond it
pub record At {X : Type 0} (W : Price → Price → Type 0) (counts : X → Bool) (price : X → Price) (d : X) (xs : List X) (p : Price) : Type 0 where
  pub reached : (k : ℕ) × (k < length xs) × (counts (get_or xs k d) ≡ true) × (price (get_or xs k d) ≡ p)
  pub bound : (k : ℕ) → k < length xs → counts (get_or xs k d) ≡ true → W p (price (get_or xs k d))

abbrev pub None-counts : {X : Type 0} → (X → Bool) → X → List X → Type 0
None-counts counts d xs = (k : ℕ) → k < length xs → counts (get_or xs k d) ≡ false

abbrev pub At-or_none : {X : Type 0} → (Price → Price → Type 0) → (X → Bool) → (X → Price) → X → List X → Option Price → Type 0
At-or_none W counts price d xs r = MatchOption r (None-counts counts d xs) (At W counts price d xs)

-- p, or what is picked of it and q, if there is a q
abbrev pub picked : (Price → Price → Price) → Price → Option Price → Price
picked pick p None = p
picked pick p (Some q) = pick p q

module _ {W : Price → Price → Type 0} {pick : Price → Price → Price} (ends : Ends W pick) where
  both : (a p q : Price) → W a p → W a q → W a (pick p q)
  both a p q x y = ⊎_elim (λ e. subst (W a) (sym e) x) (λ e. subst (W a) (sym e) y) (ends.either p q)

  regroup : (p q r : Price) → pick (pick p q) r ≡ pick p (pick q r)
  regroup p q r =
      let pq = pick p q in
      let qr = pick q r in
      let a = pick pq r in
      let b = pick p qr in
      let ap-a = ends.within pq r in
      let in-b = ends.within p qr in
      let pq-in = ends.within p q in
      let qr-in = ends.within q r in
      ends.same a b
      (both a p qr (ends.chain a pq p ap-a.0 pq-in.0) (both a q r (ends.chain a pq q ap-a.0 pq-in.1) ap-a.1))
      (both b pq r (both b p q in-b.0 (ends.chain b qr q in-b.1 qr-in.0)) (ends.chain b qr r in-b.1 qr-in.1))

  regroup_some : (p q : Price) (o : Option Price) → picked pick (pick p q) o ≡ pick p (picked pick q o)
  regroup_some p q None = refl
  regroup_some p q (Some r) = regroup p q r

  -- what is picked from a list, from its first price on, is picked of that one and of the others
  pub reduce_first : (p : Price) (ps : List Price) → fold pick p ps ≡ picked pick p (reduce pick ps)
  reduce_first p [] = refl
  reduce_first p (q ∷ ps) = reduce_first (pick p q) ps ∙ regroup_some p q (reduce pick ps) ∙ sym (ap (pick p) (reduce_first q ps))

  module _ {X : Type 0} (counts : X → Bool) (price : X → Price) (d : X) where
    none_more : (x : X) (xs : List X) → counts x ≡ false → None-counts counts d xs → None-counts counts d (x ∷ xs)
    none_more x xs f none zero h = f
    none_more x xs f none (suc k) h = none k (omega arith)

    bound_more : (x : X) (xs : List X) (p : Price) → (counts x ≡ true → W p (price x)) → ((k : ℕ) → k < length xs → counts (get_or xs k d) ≡ true → W p (price (get_or xs k d)))
        → (k : ℕ) → k < length (x ∷ xs) → counts (get_or (x ∷ xs) k d) ≡ true → W p (price (get_or (x ∷ xs) k d))
    bound_more x xs p here there zero h = here
    bound_more x xs p here there (suc k) h = there k (omega arith)

    -- one more that does not count
    step_no : (x : X) (xs : List X) (r : Option Price) → counts x ≡ false → At-or_none W counts price d xs r → At-or_none W counts price d (x ∷ xs) r
    step_no x xs None f h = none_more x xs f h
    step_no x xs (Some p) f h =
        let r = h.reached in
        record { reached = (suc r.0, omega (arith, r.1), r.2, r.3); bound = bound_more x xs p (λ t. absurd (both_ways _ f t)) h.bound }

    -- one more that counts
    step_yes : (x : X) (xs : List X) (r : Option Price) → counts x ≡ true → At-or_none W counts price d xs r → At W counts price d (x ∷ xs) (picked pick (price x) r)
    step_yes x xs None t h =
        record {
          reached = (0, omega arith, t, refl);
          bound = bound_more x xs (price x) (λ _. ends.level (price x)) (λ k l t. absurd (both_ways _ (h k l) t));
        }
    step_yes x xs (Some p) t h =
        let r = h.reached in
        let w = ends.within (price x) p in
        record {
          reached = ⊎_elim (λ e. (0, omega arith, t, sym e)) (λ e. (suc r.0, omega (arith, r.1), r.2, r.3 ∙ sym e)) (ends.either (price x) p);
          bound = bound_more x xs (pick (price x) p) (λ _. w.0) (λ k l c. ends.chain (pick (price x) p) p _ w.1 (h.bound k l c));
        }

    -- what is picked of the prices of those that count is the extreme in words
    pub reduced : (xs : List X) → At-or_none W counts price d xs (reduce pick (map price (filter counts xs)))
    reduced [] = λ k h. absurd (omega arith)
    reduced (x ∷ xs) =
        let rest = map price (filter counts xs) in
        cond_both (counts x) (x ∷ filter counts xs) (filter counts xs) (λ ys. At-or_none W counts price d (x ∷ xs) (reduce pick (map price ys)))
        (λ t. subst (At W counts price d (x ∷ xs)) (sym (reduce_first (price x) rest)) (step_yes x xs (reduce pick rest) t (reduced xs)))
        (λ f. step_no x xs (reduce pick rest) f (reduced xs))

    no_closer : (xs : List X) (p q : Price) → At W counts price d xs p → At W counts price d xs q → W p q
    no_closer xs p q a b = let r = b.reached in subst (W p) r.3 (a.bound r.0 r.1 r.2)

    -- and there is no other
    unique : (xs : List X) (r s : Option Price) → At-or_none W counts price d xs r → At-or_none W counts price d xs s → r ≡ s
    unique xs None None a b = refl
    unique xs None (Some q) a b = absurd (both_ways _ (a b.reached.0 b.reached.1) b.reached.2)
    unique xs (Some p) None a b = absurd (both_ways _ (b a.reached.0 a.reached.1) a.reached.2)
    unique xs (Some p) (Some q) a b = ap Some (ends.same p q (no_closer xs p q a b) (no_closer xs q p b a))

-- ---- among standing bids
abbrev pub of_hour : Position → Bid → Bool
of_hour hour b = eqb b.hour.0 hour.0

of_the_hour : (hour : Position) (b : Bid) → of_hour hour b ≡ true → OfHour hour b
of_the_hour hour b e = ap (λ n. record { 0 = n }) (eqb-true b.hour.0 hour.0 e)

stands : (hour : Position) (b : Bid) → OfHour hour b → of_hour hour b ≡ true
stands hour b e = eq-eqb _ _ (ap (λ p. p.0) e)

in_words : (W : Price → Price → Type 0) (hour : Position) (bids : List Bid) (r : Option Price) → At-or_none W (of_hour hour) (λ b. b.price) no_bid bids r → Extreme W hour bids r
in_words W hour bids None h = λ k within e. both_ways _ (h k within) (stands hour (get_or bids k no_bid) e)
in_words W hour bids (Some p) h =
    let r = h.reached in
    record {
      reached = (r.0, r.1, of_the_hour hour (get_or bids r.0 no_bid) r.2, r.3);
      bound = λ k within e. h.bound k within (stands hour (get_or bids k no_bid) e);
    }

-- what a walk's `min` or `max` picks; `runs` tells which walk it was
pub picked_by : {S A : Type 0} {steps : S → Option A → S → Type 0} {P : Run steps → Type 0} {all : List A} (pick : A → A → A) (s : S) (r : Option A) → EachRunFrom steps s P
    → MatchOption r (Drains steps s []) (λ y. (x : A) × (xs : List A) × Drains steps s (x ∷ xs) × FoldsTo (λ p z c. c ≡ pick p z) x xs y)
    → YieldsList steps (λ x. x) s all → r ≡ reduce pick all
picked_by pick s r runs ran gives = reduce_from_yields_List pick s r ran gives

-- r is what is picked of the prices of the hour
pub standing_extreme : {W : Price → Price → Type 0} {pick : Price → Price → Price} → Ends W pick → (hour : Position) (bids : List Bid) (r : Option Price)
    → r ≡ reduce pick (map (λ b. b.price) (filter (of_hour hour) bids)) → Extreme W hour bids r
standing_extreme {W} ends hour bids r e =
    subst (Extreme W hour bids) (sym e) (in_words W hour bids _ (reduced ends (of_hour hour) (λ b. b.price) no_bid bids))

of_another : (hour : Position) (b : Bid) → (OfHour hour b → ⊥) → of_hour hour b ≡ false
of_another hour b other = ne_eqb _ _ (λ e. other (ap (λ n. record { 0 = n }) e))

from_words : (W : Price → Price → Type 0) (hour : Position) (bids : List Bid) (r : Option Price) → Extreme W hour bids r → At-or_none W (of_hour hour) (λ b. b.price) no_bid bids r
from_words W hour bids None h = λ k within. of_another hour (get_or bids k no_bid) (h k within)
from_words W hour bids (Some p) h =
    let r = h.reached in
    record {
      reached = (r.0, r.1, stands hour (get_or bids r.0 no_bid) r.2, r.3);
      bound = λ k within e. h.bound k within (of_the_hour hour (get_or bids k no_bid) e);
    }

-- the hour has no two extreme prices
pub standing_unique : {W : Price → Price → Type 0} {pick : Price → Price → Price} → Ends W pick → (hour : Position) (bids : List Bid) (r s : Option Price)
    → Extreme W hour bids r → Extreme W hour bids s → r ≡ s
standing_unique {W} ends hour bids r s a b =
    unique ends (of_hour hour) (λ b. b.price) no_bid bids r s (from_words W hour bids r a) (from_words W hour bids s b)
