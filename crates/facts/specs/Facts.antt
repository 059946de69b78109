-- The facts of an hour, from its spot price, the activations and the standing bids of either direction.
use Rattle.std.specs.Prelude.{◌≡◌, ℕ, List, length, ℤ, pos, ◌-ℤ◌, Decides, filter}
use Rattle.units.specs.declared.Position.{Position}
use Rattle.units.specs.declared.Price.{Price}
use Rattle.market.specs.declared.words.Activation.{Activation}
use Rattle.market.specs.declared.words.Bid.{Bid}
use Rattle.market.specs.declared.words.Direction.TheVariants.{Up, Down}
use Rattle.register.specs.Totals.{Few, Supplement, listed, listed_energy}
use Rattle.pricing.specs.declared.Facts.{Facts}
use Rattle.facts.specs.Listed.{listed_in, went_up_in, went_down_in, SomeOf}
use Rattle.facts.specs.Prices.{sets_price, up_price_of, down_price_of, GreatestOrSpot, LeastOrSpot}
use Rattle.facts.specs.Middle.{stands_in, standing_middle, Halfway}
use Rattle.facts.specs.Minutes.{rose, fell, Rose, Fell}

-- listed upward less listed downward energy of the hour, short activations included
abbrev pub net_energy_of : Position → List Activation → ℤ
net_energy_of hour activations = pos (listed_energy hour Up activations) -ℤ pos (listed_energy hour Down activations)

-- an activation of at least so many minutes sets a price
abbrev pub facts_of : ℕ → Price → Position → List Activation → List Bid → List Bid → Facts
facts_of minutes spot hour activations ups downs =
    record {
      spot = spot;
      up_price = up_price_of minutes spot hour activations;
      down_price = down_price_of minutes spot hour activations;
      middle = standing_middle spot hour ups downs;
      net_energy = record { 0 = net_energy_of hour activations };
      rose = rose hour activations;
      fell = fell hour activations;
      went_up = went_up_in hour activations;
      went_down = went_down_in hour activations;
    }

-- the facts from the hour's listed activations and its standing bids alone: no special activation, and no other hour
abbrev pub facts_alone : ℕ → Price → Position → List Activation → List Bid → List Bid → Facts
facts_alone minutes spot hour activations ups downs =
    facts_of minutes spot hour (filter (listed hour) activations) (filter (stands_in hour) ups) (filter (stands_in hour) downs)

-- the same facts in words
pub record Told (minutes : ℕ) (spot : Price) (hour : Position) (activations : List Activation) (ups downs : List Bid) (f : Facts) : Type 0 where
  pub same_spot : f.spot ≡ spot
  -- the greatest price among the upward activations that set one, and the least among the downward ones
  pub up_price_is : GreatestOrSpot (sets_price minutes hour Up) spot activations f.up_price
  pub down_price_is : LeastOrSpot (sets_price minutes hour Down) spot activations f.down_price
  pub middle_price : Halfway spot hour ups downs f.middle
  pub net : Supplement activations (listed_energy hour Up activations) (listed_energy hour Down activations) f.net_energy.0
  pub rises : Few activations → Decides f.rose (Rose hour activations)
  pub falls : Few activations → Decides f.fell (Fell hour activations)
  pub upward : Decides f.went_up (SomeOf (listed_in hour Up) activations (length activations))
  pub downward : Decides f.went_down (SomeOf (listed_in hour Down) activations (length activations))
