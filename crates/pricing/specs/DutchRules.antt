-- The Dutch policy shows the rules. Assumes nothing.
use Rattle.std.specs.Prelude.{◌≡◌, Bool, true, false, cond, not, ◌&&◌, ◌||◌, refl}
use Rattle.std.proofs.Common.{arith}
use Rattle.std.proofs.lemmas.Int.{ints}
use Rattle.std.proofs.lemmas.Bool.{both_ways}
use Rattle.units.specs.declared.Price.{Price}
use Rattle.pricing.specs.declared.Facts.{Facts}
use Rattle.pricing.specs.declared.Prices.{Prices}
use Rattle.pricing.specs.Policies.{four, all_at, NotAbove, Bounded, NoSurplusAboveAShortfall, AroundTheOneWay, ShowsRules}
use Rattle.pricing.specs.Dutch.{dutch_prices}
use Rattle.pricing.specs.Shared.{bounded_four, bounded_all, ordered_all, around_all}

-- By the four tests: u and d for the listed directions, r and l for whether the delta rose and fell.
by_tests : (P : Prices → Type 0) (none up down split : Prices) (u d r l : Bool) → (u ≡ false → d ≡ false → P none) → (u ≡ true → P up) → (d ≡ true → P down) → (u ≡ true → d ≡ true → P split) → P (cond (not u && not d) none (cond ((u && not d) || ((u && d) && (r && not l))) up (cond ((d && not u) || ((u && d) && (l && not r))) down split)))
by_tests P n x y s false false r l hn hx hy hs = hn refl refl
by_tests P n x y s true false r l hn hx hy hs = hx refl
by_tests P n x y s false true r l hn hx hy hs = hy refl
by_tests P n x y s true true true false hn hx hy hs = hx refl
by_tests P n x y s true true false true hn hx hy hs = hy refl
by_tests P n x y s true true true true hn hx hy hs = hs refl refl
by_tests P n x y s true true false false hn hx hy hs = hs refl refl

-- What holds in each of the four cases holds of the policy's prices.
by_listing : (f : Facts) (P : Prices → Type 0) → (f.went_up ≡ false → f.went_down ≡ false → P (all_at f.middle)) → (f.went_up ≡ true → P (all_at f.up_price)) → (f.went_down ≡ true → P (all_at f.down_price)) → (f.went_up ≡ true → f.went_down ≡ true → P (four f.down_price f.up_price f.down_price f.up_price)) → P (dutch_prices f)
by_listing f P = by_tests P _ _ _ _ f.went_up f.went_down f.rose f.fell

across : (down spot up : Price) → NotAbove down spot → NotAbove spot up → NotAbove down up
across down spot up low high = omega (arith, ints)

pub dutch_rules : ShowsRules dutch_prices
dutch_rules = record {
  bounded = λ f r.
      by_listing f Bounded (λ _ _. bounded_all _ r.middle_within) (λ _. bounded_all _ r.up_within) (λ _. bounded_all _ r.down_within)
      (λ _ _. bounded_four _ _ _ _ r.down_within r.up_within r.down_within r.up_within);
  ordered = λ f r.
      let split = across _ _ _ r.down_not_above_spot r.spot_not_above_up in
      by_listing f NoSurplusAboveAShortfall (λ _ _. ordered_all _) (λ _. ordered_all _) (λ _. ordered_all _) (λ _ _. ((split, split), (split, split)));
  one_way = λ f r.
      by_listing f (AroundTheOneWay f)
      (λ no-up no-down. (λ upward. absurd (both_ways _ no-up upward.0), λ downward. absurd (both_ways _ no-down downward.1)))
      (λ up. (λ _. around_all _, λ downward. absurd (both_ways _ downward.0 up)))
      (λ down. (λ upward. absurd (both_ways _ upward.1 down), λ _. around_all _))
      (λ up down. (λ upward. absurd (both_ways _ upward.1 down), λ downward. absurd (both_ways _ downward.0 up)));
}
