-- The balancing prices of an hour: the greatest of those that upward activations set, the least of those that downward ones set.
use Rattle.std.specs.Prelude.{◌≡◌, ℕ, ◌<◌, Bool, true, cond, ◌&&◌, ◌⊎◌, List, [], ◌∷◌, map, length, get_or, Some, None, filter, Option, int_lt, nat_le, slice_index_or}
use Rattle.std.specs.Option.{unwrap_or}
use Rattle.units.specs.declared.Position.{Position}
use Rattle.units.specs.declared.Price.{Price}
use Rattle.market.specs.declared.words.Activation.{Activation}
use Rattle.market.specs.declared.words.Direction.{Direction}
use Rattle.market.specs.declared.words.Direction.TheVariants.{Up, Down}
use Rattle.market.specs.Words.{minutes_of, no_activation}
use Rattle.ladder.specs.Standing.{NoLower, NoHigher}
use Rattle.facts.specs.Listed.{listed_in, NoneOf}

-- the first price lies above, or below, the second
abbrev pub above : Price → Price → Bool
above p q = int_lt q.0 p.0

abbrev pub below : Price → Price → Bool
below p q = int_lt p.0 q.0

-- the price, unless the other, if there is one, beats it
abbrev pub better : (Price → Price → Bool) → Price → Option Price → Price
better beats p None = p
better beats p (Some q) = cond (beats q p) q p

-- the price that no other of the list beats; none of none
abbrev pub best : (Price → Price → Bool) → List Price → Option Price
best beats [] = None
best beats (p ∷ ps) = Some (better beats p (best beats ps))

abbrev pub greatest : List Price → Option Price
greatest prices = best above prices

abbrev pub least : List Price → Option Price
least prices = best below prices

-- a listed activation of the hour in that direction that lasts at least so many minutes
abbrev pub sets_price : ℕ → Position → Direction → Activation → Bool
sets_price minutes hour direction a = listed_in hour direction a && nat_le minutes (minutes_of a)

-- the prices of those activations
abbrev pub prices_set : ℕ → Position → Direction → List Activation → List Price
prices_set minutes hour direction activations =
    map (λ a. a.price) (filter (sets_price minutes hour direction) activations)

-- the greatest of the upward ones, or spot where there is none
abbrev pub up_price_of : ℕ → Price → Position → List Activation → Price
up_price_of minutes spot hour activations = unwrap_or (greatest (prices_set minutes hour Up activations)) spot

-- the least of the downward ones, or spot where there is none
abbrev pub down_price_of : ℕ → Price → Position → List Activation → Price
down_price_of minutes spot hour activations = unwrap_or (least (prices_set minutes hour Down activations)) spot

-- the price of either direction
abbrev pub balancing_price : Direction → ℕ → Price → Position → List Activation → Price
balancing_price Up = up_price_of
balancing_price Down = down_price_of

-- q lies no further that way than p: it is not higher upward, not lower downward
abbrev pub NoFurther : Direction → Price → Price → Type 0
NoFurther Up = NoHigher
NoFurther Down = NoLower

-- among the first n activations, one that counts has the price p, and none that counts has a price beyond it
pub record ExtremeAt (W : Price → Price → Type 0) (counts : Activation → Bool) (activations : List Activation) (n : ℕ) (p : Price) : Type 0 where
  pub reached : (k : ℕ) × (k < n) × (counts (slice_index_or activations k no_activation) ≡ true) × ((get_or activations k no_activation).price ≡ p)
  pub bound : (k : ℕ) → k < n → counts (slice_index_or activations k no_activation) ≡ true → W p (get_or activations k no_activation).price

-- p is the extreme price among all the activations, or it is spot where none of them counts
abbrev pub ExtremeOrSpot : (Price → Price → Type 0) → (Activation → Bool) → Price → List Activation → Price → Type 0
ExtremeOrSpot W counts spot activations p =
    ExtremeAt W counts activations (length activations) p ⊎ (NoneOf counts activations (length activations) × (p ≡ spot))

-- p is the price of some activation that counts and none that counts has a greater one, or none counts and p is spot
abbrev pub GreatestOrSpot : (Activation → Bool) → Price → List Activation → Price → Type 0
GreatestOrSpot = ExtremeOrSpot NoHigher

-- the same with the least
abbrev pub LeastOrSpot : (Activation → Bool) → Price → List Activation → Price → Type 0
LeastOrSpot = ExtremeOrSpot NoLower
