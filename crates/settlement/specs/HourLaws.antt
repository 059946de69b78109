-- The three sums of one hour.
use Rattle.std.specs.Prelude.{◌≡◌, ℕ, true, pos, ◌+ℤ◌, ◌-ℤ◌, neg_ℤ, ◌≤ℤ◌}
use Rattle.std.specs.List.{AllByRecursion}
use Rattle.market.specs.declared.words.Direction.{Direction}
use Rattle.market.specs.declared.words.Kind.TheVariants.{Listed}
use Rattle.pricing.specs.declared.Facts.{Facts}
use Rattle.pricing.specs.declared.Prices.{Prices}
use Rattle.register.specs.Totals.{of_hour}
use Rattle.integers.specs.Sums.{sum_to}
use Rattle.settlement.specs.Hour.{Hour, production_imbalance, consumption_imbalance, metered_production, metered_consumption, net_outside_purchases, net_activated}
use Rattle.settlement.specs.Payments.{due_to, operator_takes, gain}

-- (a) the imbalances sum to metered production less consumption, plus net outside purchases, less net activated energy
abbrev pub EnergySums : Hour → Type 0
EnergySums hour =
    sum_to hour.parties (λ p. production_imbalance hour p +ℤ consumption_imbalance hour p)
    ≡ ((metered_production hour -ℤ metered_consumption hour) +ℤ net_outside_purchases hour) -ℤ net_activated hour

-- (b) what is due to the parties sums to minus what the operator takes
abbrev pub MoneySums : ℕ → Facts → Prices → Hour → Type 0
MoneySums minutes facts prices hour = sum_to hour.parties (due_to minutes facts prices hour) ≡ neg_ℤ (operator_takes minutes facts prices hour)

-- metered production plus net outside purchases equals metered consumption
abbrev pub Balanced : Hour → Type 0
Balanced hour = metered_production hour +ℤ net_outside_purchases hour ≡ metered_consumption hour

-- the hour has no special activation
abbrev pub NoneSpecial : Hour → Type 0
NoneSpecial hour = AllByRecursion (λ a. of_hour hour.position a ≡ true → a.kind ≡ Listed) hour.activations

-- all listed activations of the hour go in that direction
abbrev pub ListedOneWay : Direction → Hour → Type 0
ListedOneWay direction hour = AllByRecursion (λ a. of_hour hour.position a ≡ true → a.kind ≡ Listed → a.direction ≡ direction) hour.activations

-- (c) a balanced hour regulated one way never costs the operator, but for what short activations gain
abbrev pub NeverCosts : ℕ → Facts → Prices → Hour → Type 0
NeverCosts minutes facts prices hour = pos 0 ≤ℤ (operator_takes minutes facts prices hour +ℤ gain minutes facts hour)
