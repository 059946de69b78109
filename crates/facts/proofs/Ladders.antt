-- The extreme standing prices of an hour, in words and by the fold.
use Rattle.std.proofs.Common.{◌≡◌, List, Option, map, filter, sym}
use Rattle.units.specs.declared.Position.{Position}
use Rattle.units.specs.declared.Price.{Price}
use Rattle.market.specs.declared.words.Bid.{Bid}
use Rattle.ladder.specs.Standing.{Extreme, NoLower, NoHigher}
use Rattle.ladder.proofs.Extremes.{highest, lowest, standing_extreme, standing_unique}
use Rattle.facts.specs.Prices.{above, below}
use Rattle.facts.specs.Middle.{stands_in, lowest_standing, highest_standing}
use Rattle.facts.proofs.Extremes.{higher_is, lower_is, reduce_is_best}

module _ (hour : Position) (bids : List Bid) where
  pub lowest_is : Extreme NoLower hour bids (lowest_standing hour bids)
  lowest_is = standing_extreme lowest hour bids _ (sym (reduce_is_best lowest below lower_is (map (λ b. b.price) (filter (stands_in hour) bids))))

  pub highest_is : Extreme NoHigher hour bids (highest_standing hour bids)
  highest_is = standing_extreme highest hour bids _ (sym (reduce_is_best highest above higher_is (map (λ b. b.price) (filter (stands_in hour) bids))))

  pub is_lowest : (r : Option Price) → Extreme NoLower hour bids r → r ≡ lowest_standing hour bids
  is_lowest r h = standing_unique lowest hour bids r _ h lowest_is

  pub is_highest : (r : Option Price) → Extreme NoHigher hour bids r → r ≡ highest_standing hour bids
  is_highest r h = standing_unique highest hour bids r _ h highest_is
