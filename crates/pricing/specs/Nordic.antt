-- The Nordic policy. Assumes nothing.
use Rattle.std.specs.Prelude.{◌≡◌, Bool, true, cond, pos, int_lt}
use Rattle.std.specs.Int.{int_max, int_min}
use Rattle.pricing.specs.declared.Facts.{Facts}
use Rattle.pricing.specs.declared.Prices.{Prices}
use Rattle.pricing.specs.Policies.{four}

abbrev pub net_above : Facts → Bool
net_above f = int_lt (pos 0) f.net_energy.0

abbrev pub net_below : Facts → Bool
net_below f = int_lt f.net_energy.0 (pos 0)

-- The four prices: production surplus and shortfall, then surplus and shortfall of consumption and trade.
-- Net energy above 0: production surplus at spot, the other three at the up price.
-- Below 0: production shortfall at spot, the other three at the down price. At 0: all four at spot.
abbrev pub nordic_prices : Facts → Prices
nordic_prices f =
    let spot = f.spot in
    let up = f.up_price in
    let down = f.down_price in
    cond (net_above f) (four spot up up up)
    (cond (net_below f) (four down spot down down)
    (four spot spot spot spot))

-- How the four prices stand to each other on regular facts, with no word of a direction: consumption and trade have
-- one price, and production the lower of it and spot for a surplus, the higher of the two for a shortfall.
pub record OnePriceAndTwo (f : Facts) (q : Prices) : Type 0 where
  pub one_price : q.consumption_and_trade.surplus ≡ q.consumption_and_trade.shortfall
  pub surplus_lower : q.production.surplus.0 ≡ int_min f.spot.0 q.consumption_and_trade.surplus.0
  pub shortfall_higher : q.production.shortfall.0 ≡ int_max f.spot.0 q.consumption_and_trade.shortfall.0

-- Two hours with net energy on the same side of 0, the same spot, and the same price of that side. The other side's
-- price, however dear, and all else may differ.
pub record SameSide (f g : Facts) : Type 0 where
  pub same_above : net_above f ≡ net_above g
  pub same_below : net_below f ≡ net_below g
  pub same_spot : f.spot ≡ g.spot
  pub same_up : net_above f ≡ true → f.up_price ≡ g.up_price
  pub same_down : net_below f ≡ true → f.down_price ≡ g.down_price
