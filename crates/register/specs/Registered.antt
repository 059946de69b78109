-- What a clause reads of a register of activations.
use Rattle.std.specs.Prelude.{ℕ, cond, List, length, Some, None, Option, nat_lt}
use Rattle.ordered.specs.Listed.{items}
use Rattle.ordered.specs.Order.{placed}
use Rattle.refusal.specs.declared.Refusal.{Refusal}
use Rattle.refusal.specs.declared.Refusal.TheVariants.{NoRoom}
use Rattle.market.specs.declared.words.Activation.{Activation}
use Rattle.market.specs.Figures.{most_activations}
use Rattle.register.specs.declared.register.Register.{Register}
use Rattle.market.specs.Order.{activation_before}

-- its activations, first to last
abbrev pub registered : Register → List Activation
registered register = items register.activations

-- the activation under its number of arrival
abbrev pub arrived : ℕ → Activation → Activation
arrived n a =
    record {
      hour = a.hour;
      minutes = a.minutes;
      arrival = n;
      party = a.party;
      portfolio = a.portfolio;
      direction = a.direction;
      volume = a.volume;
      price = a.price;
      kind = a.kind;
    }

-- the activations with one more at its place, numbered by how many came before it
unfoldable pub with_activation : Activation → List Activation → List Activation
with_activation a activations = placed activation_before (arrived (length activations) a) activations

-- one more is refused where there is no room for it
abbrev pub register_row : List Activation → Option Refusal
register_row activations = cond (nat_lt (length activations) most_activations) None (Some NoRoom)
