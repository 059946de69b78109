-- Totals of energy over a list of activations.
use Rattle.std.specs.Prelude.{◌≡◌, ℕ, ◌-◌, ◌^◌, ◌≤◌, min, Bool, true, false, cond, ◌&&◌, List, length, ℤ, pos, ◌-ℤ◌, sum_by, ◌==◌}
use Rattle.std.specs.Borrow.{Bor}
use Rattle.std.specs.Fn.{FnReturnsAt, Shared}
use Rattle.units.specs.declared.Position.{Position}
use Rattle.units.specs.declared.Party.{Party}
use Rattle.market.specs.declared.words.Activation.{Activation}
use Rattle.market.specs.declared.words.Direction.{Direction}
use Rattle.market.specs.declared.words.Kind.{Kind}
use Rattle.market.specs.declared.words.Kind.TheVariants.{Listed, Special}
use Rattle.market.specs.declared.words.Portfolio.{Portfolio}
use Rattle.market.specs.declared.words.Portfolio.TheVariants.{Production, ConsumptionAndTrade}
use Rattle.market.specs.Words.{energy_of, same_direction}

abbrev pub of_hour : Position → Activation → Bool
of_hour hour a = a.hour.0 == hour.0

abbrev pub is_listed : Kind → Bool
is_listed Listed = true
is_listed Special = false

abbrev pub same_portfolio : Portfolio → Portfolio → Bool
same_portfolio Production Production = true
same_portfolio Production ConsumptionAndTrade = false
same_portfolio ConsumptionAndTrade Production = false
same_portfolio ConsumptionAndTrade ConsumptionAndTrade = true

-- a listed activation of the hour
abbrev pub listed : Position → Activation → Bool
listed hour a = of_hour hour a && is_listed a.kind

-- an activation of either kind of that party's portfolio in the hour
abbrev pub of_account : Position → Party → Portfolio → Activation → Bool
of_account hour party portfolio a =
    of_hour hour a && (a.party.0 == party.0 && same_portfolio a.portfolio portfolio)

-- what an activation adds to the total of a direction: its energy, where it counts and goes that way
abbrev pub adds : (Activation → Bool) → Direction → Activation → ℕ
adds counts direction a = cond (counts a && same_direction direction a.direction) (energy_of a) 0

-- the sum over the list of what each activation adds
abbrev pub total_of : (Activation → Bool) → Direction → List Activation → ℕ
total_of counts direction activations = sum_by (adds counts direction) activations

-- the listed energy of the hour in one direction
abbrev pub listed_energy : Position → Direction → List Activation → ℕ
listed_energy hour direction activations = total_of (listed hour) direction activations

-- the energy of both kinds of that party's portfolio in the hour, in one direction
abbrev pub account_energy : Position → Party → Portfolio → Direction → List Activation → ℕ
account_energy hour party portfolio direction activations =
    total_of (of_account hour party portfolio) direction activations

-- the greatest total that a number of 64 bits holds: a sum beyond it reads as this
abbrev pub greatest_total : ℕ
greatest_total = 2 ^ 63 - 1

-- so few activations that no sum over them comes near the greatest total
abbrev pub Few : List Activation → Type 0
Few activations = length activations ≤ 2 ^ 28

-- z is the sum n over the activations
pub record Total (activations : List Activation) (n : ℕ) (z : ℤ) : Type 0 where
  pub capped : z ≡ pos (min n greatest_total)
  pub exact : Few activations → z ≡ pos n

-- z is the upward sum less the downward sum over the activations
pub record Supplement (activations : List Activation) (up down : ℕ) (z : ℤ) : Type 0 where
  pub capped : z ≡ pos (min up greatest_total) -ℤ pos (min down greatest_total)
  pub exact : Few activations → z ≡ pos up -ℤ pos down

-- the closure tells of each activation whether it counts
abbrev pub Tells : {F : Type 0} → Shared F (Bor Activation × Unit {0}) Bool → F → (Activation → Bool) → Type 0
Tells g f counts = (a : Activation) (r : Bool) → FnReturnsAt g f a r → r ≡ counts a
