-- The hours that docs/facts.md works out by hand.
use Rattle.std.specs.Prelude.{ℕ, Bool, true, false, List, [], ◌∷◌, ℤ, pos, neg_ℤ}
use Rattle.units.specs.declared.Position.{Position}
use Rattle.units.specs.declared.Price.{Price}
use Rattle.market.specs.declared.words.Activation.{Activation}
use Rattle.market.specs.declared.words.Bid.{Bid}
use Rattle.market.specs.declared.words.Direction.{Direction}
use Rattle.market.specs.declared.words.Direction.TheVariants.{Up, Down}
use Rattle.market.specs.declared.words.Kind.{Kind}
use Rattle.market.specs.declared.words.Portfolio.TheVariants.{Production}
use Rattle.market.specs.Figures.{price_setting_minutes}
use Rattle.pricing.specs.declared.Facts.{Facts}
use Rattle.facts.specs.Facts.{facts_of}

abbrev cents : ℤ → Price
cents z = record { 0 = z }

abbrev seventh : Position
seventh = record { 0 = 7 }

-- the price of the example that goes that way
abbrev price_of : Direction → Price
price_of Up = cents (pos 3_500)
price_of Down = cents (pos 2_500)

-- 6,000 kW from the first minute to the last
abbrev pub example : Kind → Direction → ℕ → ℕ → Activation
example kind direction first last =
    record {
      hour = seventh;
      minutes = record { first = first; last = last };
      arrival = 0;
      party = record { 0 = 0 };
      portfolio = Production;
      direction = direction;
      volume = record { 0 = 6_000 };
      price = price_of direction;
      kind = kind;
    }

abbrev bid : ℕ → Direction → Price → Bid
bid receipt direction price =
    record {
      hour = seventh;
      receipt = record { 0 = receipt };
      party = record { 0 = 0 };
      portfolio = Production;
      direction = direction;
      volume = record { 0 = 6_000 };
      price = price;
      held = false;
    }

-- the facts with those activations and no bids
abbrev pub facts_with : List Activation → Facts
facts_with activations = facts_of price_setting_minutes (cents (pos 3_000)) seventh activations [] []

-- the facts with no activations, between an upward and a downward bid
abbrev pub facts_between : Price → Price → Price → Facts
facts_between spot up down = facts_of price_setting_minutes spot seventh [] (bid 1 Up up ∷ []) (bid 2 Down down ∷ [])

-- spot, up price, down price, middle; net energy; rose, fell; went up, went down
abbrev hour_at : ℤ → ℤ → ℤ → ℤ → ℤ → Bool → Bool → Bool → Bool → Facts
hour_at spot up down middle net rose fell up? down? =
    record {
      spot = cents spot;
      up_price = cents up;
      down_price = cents down;
      middle = cents middle;
      net_energy = record { 0 = net };
      rose = rose;
      fell = fell;
      went_up = up?;
      went_down = down?;
    }

abbrev hour : ℤ → ℤ → ℤ → ℤ → Bool → Bool → Bool → Bool → Facts
hour = hour_at (pos 3_000)

abbrev pub worked_hours : List Facts
worked_hours =
    -- spot is -1, and nothing is listed; an upward bid at -1 and a downward one at -2 stand
    hour_at (neg_ℤ (pos 1)) (neg_ℤ (pos 1)) (neg_ℤ (pos 1)) (neg_ℤ (pos 2)) (pos 0) false false false false
    -- upward in minutes 20 to 30
    ∷ hour (pos 3_500) (pos 3_000) (pos 3_000) (pos 1_000) true true true false
    -- upward in minutes 20 to 29, too short to set a price
    ∷ hour (pos 3_000) (pos 3_000) (pos 3_000) (pos 900) true true true false
    -- upward in minutes 0 to 30, downward in 30 to 60
    ∷ hour (pos 3_500) (pos 2_500) (pos 3_000) (pos 0) false true true true
    -- downward in minutes 0 to 30, upward in 30 to 60
    ∷ hour (pos 3_500) (pos 2_500) (pos 3_000) (pos 0) true false true true
    -- upward and downward alike over the whole hour
    ∷ hour (pos 3_500) (pos 2_500) (pos 3_000) (pos 0) false false true true
    -- a special upward activation alone
    ∷ hour (pos 3_000) (pos 3_000) (pos 3_000) (pos 0) false false false false
    ∷ []
