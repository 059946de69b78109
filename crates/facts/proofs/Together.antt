-- The facts from their parts.
use Rattle.std.proofs.Common.{◌≡◌, ℕ, Bool, List, ap}
use Rattle.units.specs.declared.KilowattHours.{KilowattHours}
use Rattle.units.specs.declared.Position.{Position}
use Rattle.units.specs.declared.Price.{Price}
use Rattle.market.specs.declared.words.Activation.{Activation}
use Rattle.market.specs.declared.words.Bid.{Bid}
use Rattle.pricing.specs.declared.Facts.{Facts}
use Rattle.facts.specs.Listed.{went_up_in, went_down_in}
use Rattle.facts.specs.Prices.{up_price_of, down_price_of}
use Rattle.facts.specs.Middle.{standing_middle}
use Rattle.facts.specs.Minutes.{rose, fell}
use Rattle.facts.specs.Facts.{net_energy_of, facts_of}

same_parts : {spot up up' down down' middle middle' : Price} {net net' : KilowattHours} {r r' f f' u u' d d' : Bool}
    → up ≡ up' → down ≡ down' → middle ≡ middle' → net ≡ net' → r ≡ r' → f ≡ f' → u ≡ u' → d ≡ d'
    → ◌≡◌ {A = Facts}
    (record { spot = spot; up_price = up; down_price = down; middle = middle; net_energy = net; rose = r; fell = f; went_up = u; went_down = d })
    (record { spot = spot; up_price = up'; down_price = down'; middle = middle'; net_energy = net'; rose = r'; fell = f'; went_up = u'; went_down = d' })
same_parts a b c d e f g h = cc

module _ (minutes : ℕ) (spot : Price) (hour : Position) (activations : List Activation) (ups downs : List Bid) where
  pub together : (up down middle : Price) (net : KilowattHours) (course : Bool × Bool) (u d : Bool)
      → up ≡ up_price_of minutes spot hour activations → down ≡ down_price_of minutes spot hour activations → middle ≡ standing_middle spot hour ups downs
      → net.0 ≡ net_energy_of hour activations → course ≡ (rose hour activations, fell hour activations)
      → u ≡ went_up_in hour activations → d ≡ went_down_in hour activations
      → record { spot = spot; up_price = up; down_price = down; middle = middle; net_energy = net; rose = course.0; fell = course.1; went_up = u; went_down = d }
      ≡ facts_of minutes spot hour activations ups downs
  together up down middle net course u d a b c n r g h =
      same_parts a b c (ap (λ z. record { 0 = z }) n) (ap (λ p. p.0) r) (ap (λ p. p.1) r) g h
