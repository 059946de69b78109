-- The facts of a sound hour as they are defined are regular, however many its activations.
use Rattle.std.proofs.Common.{ℕ, List, refl}
use Rattle.units.specs.declared.Position.{Position}
use Rattle.units.specs.declared.Price.{Price}
use Rattle.market.specs.declared.words.Activation.{Activation}
use Rattle.market.specs.declared.words.Bid.{Bid}
use Rattle.market.specs.declared.words.Direction.TheVariants.{Up, Down}
use Rattle.market.specs.Words.{no_activation}
use Rattle.ladder.specs.Standing.{NoLower, NoHigher}
use Rattle.pricing.specs.Policies.{Regular}
use Rattle.facts.specs.Listed.{listed_in}
use Rattle.facts.specs.Prices.{above, below, sets_price}
use Rattle.facts.specs.Middle.{lowest_standing, highest_standing}
use Rattle.facts.specs.Facts.{facts_of}
use Rattle.facts.specs.Sound.{Sound}
use Rattle.ladder.proofs.Extremes.{highest, lowest}
use Rattle.facts.proofs.Extremes.{best_is, higher_is, lower_is}
use Rattle.facts.proofs.Setting.{or_spot}
use Rattle.facts.proofs.Ladders.{lowest_is, highest_is}
use Rattle.facts.proofs.Halves.{middle_is}
use Rattle.facts.proofs.Members.{any_is_some}
use Rattle.facts.proofs.Regularity.{difference_sign, regular_by}

pub regular_reckoned : (minutes : ℕ) (spot : Price) (hour : Position) (activations : List Activation) (ups downs : List Bid)
    → Sound spot hour activations ups downs → Regular (facts_of minutes spot hour activations ups downs)
regular_reckoned minutes spot hour activations ups downs sound =
    let low = lowest_standing hour ups in
    let high = highest_standing hour downs in
    regular_by spot hour activations ups downs sound minutes (facts_of minutes spot hour activations ups downs) refl
    (or_spot NoHigher (sets_price minutes hour Up) spot activations _ (best_is highest above higher_is (sets_price minutes hour Up) (λ a. a.price) no_activation activations))
    (or_spot NoLower (sets_price minutes hour Down) spot activations _ (best_is lowest below lower_is (sets_price minutes hour Down) (λ a. a.price) no_activation activations))
    (low, high, lowest_is hour ups, highest_is hour downs, middle_is low high spot)
    (difference_sign _ _ _ _ _ refl refl refl)
    (any_is_some (listed_in hour Up) activations) (any_is_some (listed_in hour Down) activations)
