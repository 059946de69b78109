-- What a settled hour's imbalances and activations are paid, in mills: kilowatt-hours times price.
use Rattle.std.specs.Prelude.{ℕ, ◌+◌, Bool, cond, ◌&&◌, ℤ, pos, ◌+ℤ◌, ◌-ℤ◌, ◌*ℤ◌, neg_ℤ, ◌==◌, int_lt, nat_le}
use Rattle.market.specs.declared.words.Activation.{Activation}
use Rattle.market.specs.declared.words.Direction.{Direction}
use Rattle.market.specs.declared.words.Direction.TheVariants.{Up, Down}
use Rattle.market.specs.Words.{minutes_of, energy_of}
use Rattle.pricing.specs.declared.Facts.{Facts}
use Rattle.pricing.specs.declared.PricePair.{PricePair}
use Rattle.pricing.specs.declared.Prices.{Prices}
use Rattle.register.specs.Totals.{of_hour, is_listed}
use Rattle.integers.specs.Sums.{sum_to, sum_over}
use Rattle.settlement.specs.Hour.{Hour, production_imbalance, consumption_imbalance}

-- an imbalance above 0 is a surplus, one below 0 a shortfall
abbrev pub surplus : ℤ → ℤ
surplus x = cond (int_lt x (pos 0)) (pos 0) x

abbrev pub shortfall : ℤ → ℤ
shortfall x = cond (int_lt x (pos 0)) (neg_ℤ x) (pos 0)

-- a surplus is paid at its surplus price, a shortfall charged at its shortfall price
unfoldable pub priced : PricePair → ℤ → ℤ
priced pair x = (surplus x *ℤ pair.surplus.0) -ℤ (shortfall x *ℤ pair.shortfall.0)

-- upward energy is paid, downward energy charged
abbrev pub signed : Direction → ℤ → ℤ
signed Up x = x
signed Down x = neg_ℤ x

abbrev pub direction_price : Facts → Direction → ℤ
direction_price facts Up = facts.up_price.0
direction_price facts Down = facts.down_price.0

-- listed, and too short to set a price
abbrev pub is_short : ℕ → Activation → Bool
is_short minutes a = is_listed a.kind && nat_le (minutes_of a + 1) minutes

-- listed and long enough to set a price
abbrev pub is_long : ℕ → Activation → Bool
is_long minutes a = is_listed a.kind && nat_le minutes (minutes_of a)

-- a listed activation of at least so many minutes has the price of its direction, a short or a special one its own
unfoldable pub payment : ℕ → Facts → Activation → ℤ
payment minutes facts a =
    signed a.direction (pos (energy_of a) *ℤ cond (is_long minutes a) (direction_price facts a.direction) a.price.0)

-- what the hour's activations are paid, less what they are charged: all of them, and a party's
abbrev pub regulation : ℕ → Facts → Hour → ℤ
regulation minutes facts hour = sum_over (λ a. cond (of_hour hour.position a) (payment minutes facts a) (pos 0)) hour.activations

abbrev pub regulation_to : ℕ → Facts → Hour → ℕ → ℤ
regulation_to minutes facts hour p =
    sum_over (λ a. cond (of_hour hour.position a && a.party.0 == p) (payment minutes facts a) (pos 0)) hour.activations

-- what a settlement books for a party
abbrev pub due_to : ℕ → Facts → Prices → Hour → ℕ → ℤ
due_to minutes facts prices hour p =
    (priced prices.production (production_imbalance hour p) +ℤ priced prices.consumption_and_trade (consumption_imbalance hour p))
    +ℤ regulation_to minutes facts hour p

-- each surplus and each shortfall priced alone
abbrev pub priced_surplus : Prices → Hour → ℤ
priced_surplus prices hour =
    sum_to hour.parties (λ p. (surplus (production_imbalance hour p) *ℤ prices.production.surplus.0) +ℤ (surplus (consumption_imbalance hour p) *ℤ prices.consumption_and_trade.surplus.0))

abbrev pub priced_shortfall : Prices → Hour → ℤ
priced_shortfall prices hour =
    sum_to hour.parties (λ p. (shortfall (production_imbalance hour p) *ℤ prices.production.shortfall.0) +ℤ (shortfall (consumption_imbalance hour p) *ℤ prices.consumption_and_trade.shortfall.0))

-- what the operator takes in the hour
abbrev pub operator_takes : ℕ → Facts → Prices → Hour → ℤ
operator_takes minutes facts prices hour = (priced_shortfall prices hour -ℤ priced_surplus prices hour) -ℤ regulation minutes facts hour

-- what short activations gain over the price of their direction
abbrev pub gain_of : ℕ → Facts → Activation → ℤ
gain_of minutes facts a =
    cond (is_short minutes a) (signed a.direction (pos (energy_of a) *ℤ (a.price.0 -ℤ direction_price facts a.direction))) (pos 0)

abbrev pub gain : ℕ → Facts → Hour → ℤ
gain minutes facts hour = sum_over (λ a. cond (of_hour hour.position a) (gain_of minutes facts a) (pos 0)) hour.activations
