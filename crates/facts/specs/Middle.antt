-- The middle of an hour: halfway between the lowest standing upward and the highest standing downward price.
use Rattle.std.specs.Prelude.{◌≡◌, ◌/◌, Bool, List, map, ℤ, pos, negsuc, ◌+ℤ◌, ◌≤ℤ◌, ◌<ℤ◌, Some, None, filter, Option, MatchOption, ◌==◌}
use Rattle.units.specs.declared.Position.{Position}
use Rattle.units.specs.declared.Price.{Price}
use Rattle.market.specs.declared.words.Bid.{Bid}
use Rattle.ladder.specs.Standing.{Extreme, NoLower, NoHigher}
use Rattle.facts.specs.Prices.{greatest, least}

abbrev pub stands_in : Position → Bid → Bool
stands_in hour bid = bid.hour.0 == hour.0

-- the prices of the hour's standing bids, held ones included
abbrev pub standing_prices : Position → List Bid → List Price
standing_prices hour bids = map (λ b. b.price) (filter (stands_in hour) bids)

abbrev pub lowest_standing : Position → List Bid → Option Price
lowest_standing hour bids = least (standing_prices hour bids)

abbrev pub highest_standing : Position → List Bid → Option Price
highest_standing hour bids = greatest (standing_prices hour bids)

-- half of a number, rounded down toward minus infinity: `negsuc n` is minus n and one
abbrev pub half : ℤ → ℤ
half (pos n) = pos (n / 2)
half (negsuc n) = negsuc (n / 2)

-- halfway between the upward and the downward price, or spot where one of them is missing
abbrev pub middle : Option Price → Option Price → Price → Price
middle (Some up) (Some down) spot = record { 0 = half (up.0 +ℤ down.0) }
middle (Some up) None spot = spot
middle None (Some down) spot = spot
middle None None spot = spot

-- twice m is not above the sum of p and q, and twice the next price is
pub record Midpoint (p q m : Price) : Type 0 where
  pub not_above : (m.0 +ℤ m.0) ≤ℤ (p.0 +ℤ q.0)
  pub no_next : (p.0 +ℤ q.0) <ℤ ((m.0 +ℤ pos 1) +ℤ (m.0 +ℤ pos 1))

-- m is the midpoint of the two, or it is spot where one of them is missing
abbrev pub MidpointOrSpot : Option Price → Option Price → Price → Price → Type 0
MidpointOrSpot up down spot m = MatchOption up (m ≡ spot) (λ p. MatchOption down (m ≡ spot) (λ q. Midpoint p q m))

-- the middle of the hour
abbrev pub standing_middle : Price → Position → List Bid → List Bid → Price
standing_middle spot hour ups downs = middle (lowest_standing hour ups) (highest_standing hour downs) spot

-- m is the midpoint of the lowest standing upward and the highest standing downward price of the hour, or it is spot
-- where there is no such upward or no such downward price
abbrev pub Halfway : Price → Position → List Bid → List Bid → Price → Type 0
Halfway spot hour ups downs m =
    (lowest : Option Price) × (highest : Option Price) × Extreme NoLower hour ups lowest × Extreme NoHigher hour downs highest
    × MidpointOrSpot lowest highest spot m
