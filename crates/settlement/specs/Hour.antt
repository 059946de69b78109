-- One hour of a day: what is known of it, and the imbalances that follow.
use Rattle.std.specs.Prelude.{◌≡◌, ℕ, ◌+◌, ◌<◌, true, cond, List, ℤ, pos, ◌+ℤ◌, ◌-ℤ◌, neg_ℤ, ◌==◌, unsigned_abs}
use Rattle.std.specs.List.{AllByRecursion}
use Rattle.units.specs.declared.Position.{Position}
use Rattle.market.specs.declared.words.Activation.{Activation}
use Rattle.market.specs.declared.words.Direction.{Direction}
use Rattle.market.specs.declared.words.Direction.TheVariants.{Up, Down}
use Rattle.market.specs.declared.words.Portfolio.{Portfolio}
use Rattle.market.specs.declared.words.Portfolio.TheVariants.{Production, ConsumptionAndTrade}
use Rattle.market.specs.Figures.{first_outside, outside_parties}
use Rattle.register.specs.Totals.{of_hour, total_of, account_energy}
use Rattle.integers.specs.Sums.{sum_to}

-- the parties are numbered from 0; a notice is by its sender, then its counterparty, 0 where none is kept
pub record Hour : Type 0 where
  pub position : Position
  pub parties : ℕ
  pub plan : ℕ → ℤ
  pub notice : ℕ → ℕ → ℤ
  pub produced : ℕ → ℤ
  pub consumed : ℕ → ℤ
  -- of the whole day
  pub activations : List Activation

-- what counts of a notice, given what the other of the two sent back: all of it where that is its exact negative, else nothing
unfoldable pub counted : ℤ → ℤ → ℤ
counted sent back = cond (unsigned_abs (sent +ℤ back) == 0) sent (pos 0)

-- an outside notice counts alone, negated for the party
abbrev pub from_outside : Hour → ℕ → ℤ
from_outside hour p = sum_to outside_parties (λ k. neg_ℤ (hour.notice (first_outside + k) p))

-- what counts for a party
abbrev pub trade : Hour → ℕ → ℤ
trade hour p = sum_to hour.parties (λ q. counted (hour.notice p q) (hour.notice q p)) +ℤ from_outside hour p

-- upward less downward energy of all the party's activations in that portfolio
abbrev pub supplement : Hour → Portfolio → ℕ → ℤ
supplement hour portfolio p =
    pos (account_energy hour.position (record { 0 = p }) portfolio Up hour.activations) -ℤ pos (account_energy hour.position (record { 0 = p }) portfolio Down hour.activations)

abbrev pub production_imbalance : Hour → ℕ → ℤ
production_imbalance hour p = (hour.produced p -ℤ hour.plan p) -ℤ supplement hour Production p

abbrev pub consumption_imbalance : Hour → ℕ → ℤ
consumption_imbalance hour p = ((hour.plan p -ℤ hour.consumed p) +ℤ trade hour p) -ℤ supplement hour ConsumptionAndTrade p

abbrev pub imbalance : Hour → Portfolio → ℕ → ℤ
imbalance hour Production p = production_imbalance hour p
imbalance hour ConsumptionAndTrade p = consumption_imbalance hour p

-- of the area

abbrev pub metered_production : Hour → ℤ
metered_production hour = sum_to hour.parties hour.produced

abbrev pub metered_consumption : Hour → ℤ
metered_consumption hour = sum_to hour.parties hour.consumed

-- the hour's outside notices, negated: what the outside buys, the area sells
abbrev pub net_outside_purchases : Hour → ℤ
net_outside_purchases hour = neg_ℤ (sum_to outside_parties (λ k. sum_to hour.parties (λ p. hour.notice (first_outside + k) p)))

-- of both kinds
abbrev pub activated_energy : Hour → Direction → ℕ
activated_energy hour direction = total_of (of_hour hour.position) direction hour.activations

abbrev pub net_activated : Hour → ℤ
net_activated hour = pos (activated_energy hour Up) -ℤ pos (activated_energy hour Down)

-- each activation of the hour is an entered party's
abbrev pub OwnActivations : Hour → Type 0
OwnActivations hour = AllByRecursion (λ a. of_hour hour.position a ≡ true → a.party.0 < hour.parties) hour.activations
