-- The listed activations of an hour.
use Rattle.std.specs.Prelude.{◌≡◌, ℕ, ◌<◌, Bool, true, false, ◌&&◌, ◌||◌, List, [], ◌∷◌, slice_index_or}
use Rattle.units.specs.declared.Position.{Position}
use Rattle.market.specs.declared.words.Activation.{Activation}
use Rattle.market.specs.declared.words.Direction.{Direction}
use Rattle.market.specs.declared.words.Direction.TheVariants.{Up, Down}
use Rattle.market.specs.Words.{no_activation}
use Rattle.register.specs.Totals.{listed}
use Rattle.market.specs.Words.{same_direction}

-- listed, of the hour, and of that direction
abbrev pub listed_in : Position → Direction → Activation → Bool
listed_in hour direction a = listed hour a && same_direction direction a.direction

-- some element of the list passes
abbrev pub any_of : (Activation → Bool) → List Activation → Bool
any_of counts [] = false
any_of counts (a ∷ activations) = counts a || any_of counts activations

-- some listed activation of the hour has that direction
abbrev pub went : Position → Direction → List Activation → Bool
went hour direction activations = any_of (listed_in hour direction) activations

abbrev pub went_up_in : Position → List Activation → Bool
went_up_in hour activations = went hour Up activations

abbrev pub went_down_in : Position → List Activation → Bool
went_down_in hour activations = went hour Down activations

-- at some place below n stands an activation that counts
abbrev pub SomeOf : (Activation → Bool) → List Activation → ℕ → Type 0
SomeOf counts activations n = (k : ℕ) × (k < n) × (counts (slice_index_or activations k no_activation) ≡ true)

-- at none of them
abbrev pub NoneOf : (Activation → Bool) → List Activation → ℕ → Type 0
NoneOf counts activations n = (k : ℕ) → k < n → counts (slice_index_or activations k no_activation) ≡ false
