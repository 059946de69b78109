-- The balance delta of an hour's minutes, and whether it rose or fell.
use Rattle.std.specs.Prelude.{ℕ, zero, suc, ◌-◌, ◌<◌, ◌≤◌, Bool, false, cond, ◌&&◌, ◌||◌, List, ℤ, pos, ◌-ℤ◌, ◌<ℤ◌, sum_by, int_lt, nat_le}
use Rattle.units.specs.declared.Position.{Position}
use Rattle.market.specs.declared.words.Activation.{Activation}
use Rattle.market.specs.declared.words.Direction.{Direction}
use Rattle.market.specs.declared.words.Direction.TheVariants.{Up, Down}
use Rattle.market.specs.Figures.{minutes_in_hour}
use Rattle.market.specs.Words.{is_among}
use Rattle.facts.specs.Listed.{listed_in}

abbrev pub active_in : ℕ → Activation → Bool
active_in minute a = is_among minute a.minutes

-- the power of one activation in that minute, where it is listed in the hour and the direction
abbrev pub power_of : Position → Direction → ℕ → Activation → ℕ
power_of hour direction minute a = cond (listed_in hour direction a && active_in minute a) a.volume.0 0

abbrev pub power : Position → Direction → ℕ → List Activation → ℕ
power hour direction minute activations = sum_by (power_of hour direction minute) activations

-- the listed upward less the listed downward power that is active in the minute
abbrev pub delta : Position → List Activation → ℕ → ℤ
delta hour activations minute = pos (power hour Up minute activations) -ℤ pos (power hour Down minute activations)

-- the minute's delta is above, or below, that of the minute before; minute 0 is compared with nothing
abbrev pub rises : Position → List Activation → ℕ → Bool
rises hour activations minute = nat_le 1 minute && int_lt (delta hour activations (minute - 1)) (delta hour activations minute)

abbrev pub falls : Position → List Activation → ℕ → Bool
falls hour activations minute = nat_le 1 minute && int_lt (delta hour activations minute) (delta hour activations (minute - 1))

-- some number below n passes
abbrev pub any_below : (ℕ → Bool) → ℕ → Bool
any_below passes zero = false
any_below passes (suc n) = passes n || any_below passes n

unfoldable pub rose : Position → List Activation → Bool
rose hour activations = any_below (rises hour activations) minutes_in_hour

unfoldable pub fell : Position → List Activation → Bool
fell hour activations = any_below (falls hour activations) minutes_in_hour

-- there is a minute of the hour, not the first, whose delta is above that of the minute before
abbrev pub Rose : Position → List Activation → Type 0
Rose hour activations =
    (m : ℕ) × (1 ≤ m) × (m < minutes_in_hour) × (delta hour activations (m - 1) <ℤ delta hour activations m)

-- there is one whose delta is below that of the minute before
abbrev pub Fell : Position → List Activation → Type 0
Fell hour activations =
    (m : ℕ) × (1 ≤ m) × (m < minutes_in_hour) × (delta hour activations m <ℤ delta hour activations (m - 1))
