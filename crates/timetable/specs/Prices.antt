-- Prices, and how far they may lie from zero. Assumes nothing.
use Rattle.std.specs.Prelude.{Bool, ◌&&◌, List, map, ℤ, pos, neg_ℤ, ◌≤ℤ◌, int_le}
use Rattle.std.specs.List.{list_all}
use Rattle.units.specs.declared.Price.{Price}
use Rattle.market.specs.Figures.{price_limit}

abbrev pub price : ℤ → Price
price x = record { 0 = x }

abbrev pub priced : List ℤ → List Price
priced xs = map price xs

-- no further from zero than a price may lie
abbrev pub within_limit : Price → Bool
within_limit p = int_le (neg_ℤ (pos price_limit)) p.0 && int_le p.0 (pos price_limit)

abbrev pub each_within : List Price → Bool
each_within prices = list_all within_limit prices

-- the same as a fact
pub record Within (p : Price) : Type 0 where
  pub low : neg_ℤ (pos price_limit) ≤ℤ p.0
  pub high : p.0 ≤ℤ pos price_limit
