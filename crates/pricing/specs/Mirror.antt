-- An hour seen in a mirror: up and down exchanged throughout. Assumes nothing.
use Rattle.std.specs.Prelude.{neg_ℤ}
use Rattle.pricing.specs.declared.Facts.{Facts}
use Rattle.pricing.specs.declared.Prices.{Prices}
use Rattle.pricing.specs.Policies.{four}

-- The directions of everything that has one: prices, energy, the balance delta's course and the listed activations.
abbrev pub mirrored : Facts → Facts
mirrored f = record { spot = f.spot; up_price = f.down_price; down_price = f.up_price; middle = f.middle; net_energy = record { 0 = neg_ℤ f.net_energy.0 }; rose = f.fell; fell = f.rose; went_up = f.went_down; went_down = f.went_up }

-- Surplus and shortfall exchanged.
abbrev pub exchanged : Prices → Prices
exchanged q = four q.production.shortfall q.production.surplus q.consumption_and_trade.shortfall q.consumption_and_trade.surplus
