-- The price that activations set: the furthest that way, or spot.
use Rattle.std.proofs.Common.{◌≡◌, ℕ, Bool, List, map, Some, None, filter, Option, unwrap_or, sym, refl, ap, ◌∙◌, subst, inl, inr}
use Rattle.std.specs.List.{reduce}
use Rattle.units.specs.declared.Position.{Position}
use Rattle.units.specs.declared.Price.{Price}
use Rattle.market.specs.declared.words.Activation.{Activation}
use Rattle.market.specs.declared.words.Direction.{Direction}
use Rattle.market.specs.declared.words.Direction.TheVariants.{Up, Down}
use Rattle.market.specs.Words.{no_activation}
use Rattle.ladder.proofs.Extremes.{At-or_none, Ends, higher, highest, lower, lowest, reduced}
use Rattle.facts.specs.Prices.{above, below, sets_price, balancing_price, NoFurther, ExtremeOrSpot}
use Rattle.facts.proofs.Extremes.{higher_is, lower_is, reduce_is_best}

-- in the words of the specs, with spot where none counts
pub or_spot : (W : Price → Price → Type 0) (counts : Activation → Bool) (spot : Price) (activations : List Activation) (r : Option Price) → At-or_none W counts (λ a. a.price) no_activation activations r → ExtremeOrSpot W counts spot activations (unwrap_or r spot)
or_spot W counts spot activations None h = inr (h, refl)
or_spot W counts spot activations (Some p) h = inl (record { reached = h.reached; bound = h.bound })

-- the further of two prices that way
abbrev pub further : Direction → Price → Price → Price
further Up = higher
further Down = lower

pub ends : (direction : Direction) → Ends (NoFurther direction) (further direction)
ends Up = highest
ends Down = lowest

module _ (direction : Direction) (minutes : ℕ) (spot : Price) (hour : Position) (activations : List Activation) where
  abbrev pub Furthest : Option Price → Type 0
  Furthest r = r ≡ reduce (further direction) (map (λ a. a.price) (filter (sets_price minutes hour direction) activations))

  -- r is s, which is picked that way
  pub furthest_by : (way : Direction) (r s : Option Price) → direction ≡ way → r ≡ s → s ≡ reduce (further way) (map (λ a. a.price) (filter (sets_price minutes hour direction) activations)) → Furthest r
  furthest_by way r s is e h = e ∙ h ∙ sym (ap (λ w. reduce (further w) (map (λ a. a.price) (filter (sets_price minutes hour direction) activations))) is)

  pub reads_balancing : (r : Option Price) → Furthest r → ExtremeOrSpot (NoFurther direction) (sets_price minutes hour direction) spot activations (unwrap_or r spot)
  reads_balancing r e =
      or_spot (NoFurther direction) (sets_price minutes hour direction) spot activations r
      (subst (At-or_none (NoFurther direction) (sets_price minutes hour direction) (λ a. a.price) no_activation activations) (sym e)
      (reduced (ends direction) (sets_price minutes hour direction) (λ a. a.price) no_activation activations))

pub is_balancing : (direction : Direction) (minutes : ℕ) (spot : Price) (hour : Position) (activations : List Activation) (r : Option Price)
    → Furthest direction minutes spot hour activations r → unwrap_or r spot ≡ balancing_price direction minutes spot hour activations
is_balancing Up minutes spot hour activations r e = ap (λ o. unwrap_or o spot) (e ∙ reduce_is_best highest above higher_is (map (λ a. a.price) (filter (sets_price minutes hour Up) activations)))
is_balancing Down minutes spot hour activations r e = ap (λ o. unwrap_or o spot) (e ∙ reduce_is_best lowest below lower_is (map (λ a. a.price) (filter (sets_price minutes hour Down) activations)))
