-- The Dutch policy. Assumes nothing.
use Rattle.std.specs.Prelude.{◌≡◌, Bool, false, cond, not, ◌&&◌, ◌||◌}
use Rattle.pricing.specs.declared.Facts.{Facts}
use Rattle.pricing.specs.declared.Prices.{Prices}
use Rattle.pricing.specs.Policies.{four, all_at}

abbrev pub nothing_listed : Facts → Bool
nothing_listed f = not f.went_up && not f.went_down

abbrev pub both_listed : Facts → Bool
both_listed f = f.went_up && f.went_down

-- Upward only, or both directions when the balance delta rose and never fell.
abbrev pub up_prevails : Facts → Bool
up_prevails f = (f.went_up && not f.went_down) || (both_listed f && (f.rose && not f.fell))

-- Downward only, or both directions when it fell and never rose.
abbrev pub down_prevails : Facts → Bool
down_prevails f = (f.went_down && not f.went_up) || (both_listed f && (f.fell && not f.rose))

-- Nothing listed: all four at the middle price. Where a direction prevails: all four at its price.
-- Else surplus at the down price and shortfall at the up price.
abbrev pub dutch_prices : Facts → Prices
dutch_prices f =
    let up = f.up_price in
    let down = f.down_price in
    cond (nothing_listed f) (all_at f.middle)
    (cond (up_prevails f) (all_at up)
    (cond (down_prevails f) (all_at down)
    (four down up down up)))

-- How the four prices stand to each other: both portfolios have the same pair, and a surplus has the price of a
-- shortfall unless both directions are listed.
pub record OnePair (f : Facts) (q : Prices) : Type 0 where
  pub same_pair : q.production ≡ q.consumption_and_trade
  pub one_price : both_listed f ≡ false → q.production.surplus ≡ q.production.shortfall
