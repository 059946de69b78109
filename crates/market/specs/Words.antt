-- Words for single bids and activations.
use Rattle.std.specs.Prelude.{ℕ, ◌-◌, Bool, true, false, ◌&&◌, nat_le, nat_lt, pos}
use Rattle.market.specs.declared.words.Activation.{Activation}
use Rattle.market.specs.declared.words.Bid.{Bid}
use Rattle.market.specs.declared.words.Direction.{Direction}
use Rattle.market.specs.declared.words.Direction.TheVariants.{Up, Down}
use Rattle.market.specs.declared.words.Kind.TheVariants.{Listed}
use Rattle.market.specs.declared.words.Minutes.{Minutes}
use Rattle.market.specs.declared.words.Portfolio.TheVariants.{Production}
use Rattle.market.specs.Energy.{energy}

-- what `get_or` gives past the end of a list; nothing rests on it
abbrev pub no_bid : Bid
no_bid =
    record {
      hour = record { 0 = 0 };
      receipt = record { 0 = 0 };
      party = record { 0 = 0 };
      portfolio = Production;
      direction = Up;
      volume = record { 0 = 0 };
      price = record { 0 = pos 0 };
      held = false;
    }

abbrev pub no_activation : Activation
no_activation =
    record {
      hour = record { 0 = 0 };
      minutes = record { first = 0; last = 0 };
      arrival = 0;
      party = record { 0 = 0 };
      portfolio = Production;
      direction = Up;
      volume = record { 0 = 0 };
      price = record { 0 = pos 0 };
      kind = Listed;
    }

-- how many the minutes are: none where the last is not above the first
abbrev pub count_of : Minutes → ℕ
count_of m = m.last - m.first

-- from the first on, and no longer in the last
abbrev pub is_among : ℕ → Minutes → Bool
is_among minute m = nat_le m.first minute && nat_lt minute m.last

-- how many minutes the activation lasts
abbrev pub minutes_of : Activation → ℕ
minutes_of a = count_of a.minutes

-- its energy, rounded alone
abbrev pub energy_of : Activation → ℕ
energy_of a = energy a.volume.0 (minutes_of a)

abbrev pub same_direction : Direction → Direction → Bool
same_direction Up Up = true
same_direction Up Down = false
same_direction Down Up = false
same_direction Down Down = true
