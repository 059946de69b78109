-- The Nordic policy shows the rules. Assumes nothing.
use Rattle.std.specs.Prelude.{◌≡◌, ℤ, pos, ◌<ℤ◌}
use Rattle.std.proofs.Common.{arith}
use Rattle.std.proofs.lemmas.Int.{ints}
use Rattle.std.proofs.lemmas.Bool.{cond_both}
use Rattle.pricing.specs.declared.Facts.{Facts}
use Rattle.pricing.specs.declared.Prices.{Prices}
use Rattle.pricing.specs.Policies.{four, all_at, Bounded, NoSurplusAboveAShortfall, AroundTheOneWay, ShowsRules}
use Rattle.pricing.specs.Nordic.{nordic_prices, net_above, net_below}
use Rattle.pricing.specs.Shared.{level, bounded_four, bounded_all, ordered_all}

-- What holds in each of the three cases holds of the policy's prices.
by_net : (f : Facts) (P : Prices → Type 0) → (pos 0 <ℤ f.net_energy.0 → P (four f.spot f.up_price f.up_price f.up_price)) → (f.net_energy.0 <ℤ pos 0 → P (four f.down_price f.spot f.down_price f.down_price)) → (f.net_energy.0 ≡ pos 0 → P (all_at f.spot)) → P (nordic_prices f)
by_net f P above below zero =
    cond_both (net_above f) _ _ P (λ t. above (grind (arith, ints)))
    (λ e. cond_both (net_below f) _ _ P (λ t. below (grind (arith, ints))) (λ t. zero (grind (arith, ints))))

apart : (n : ℤ) → pos 0 <ℤ n → n <ℤ pos 0 → ⊥
apart n above below = omega (arith, ints)

-- At 0 the facts are not regular in an hour of one direction.
not_above : (n : ℤ) → n ≡ pos 0 → pos 0 <ℤ n → ⊥
not_above n zero above = omega (arith, ints)

not_below : (n : ℤ) → n ≡ pos 0 → n <ℤ pos 0 → ⊥
not_below n zero below = omega (arith, ints)

pub nordic_rules : ShowsRules nordic_prices
nordic_rules = record {
  bounded = λ f r.
      by_net f Bounded
      (λ _. bounded_four _ _ _ _ r.spot_within r.up_within r.up_within r.up_within)
      (λ _. bounded_four _ _ _ _ r.down_within r.spot_within r.down_within r.down_within)
      (λ _. bounded_all _ r.spot_within);
  ordered = λ f r.
      let low = r.down_not_above_spot in
      let high = r.spot_not_above_up in
      let up = level f.up_price in
      let down = level f.down_price in
      by_net f NoSurplusAboveAShortfall (λ _. ((high, high), (up, up))) (λ _. ((low, down), (low, down))) (λ _. ordered_all _);
  one_way = λ f r.
      let low = r.down_not_above_spot in
      let high = r.spot_not_above_up in
      let up = level f.up_price in
      let down = level f.down_price in
      by_net f (AroundTheOneWay f)
      (λ above. (λ _. ((high, up), (up, up)), λ downward. absurd (apart _ above (r.downward_net downward))))
      (λ below. (λ upward. absurd (apart _ (r.upward_net upward) below), λ _. ((down, down), (low, down))))
      (λ zero. (λ upward. absurd (not_above _ zero (r.upward_net upward)), λ downward. absurd (not_below _ zero (r.downward_net downward))));
}
