-- How large an hour's figures may be, and what follows from them.
use Rattle.std.specs.Prelude.{ℕ, ◌^◌, ◌≤◌, max, length, ℤ, pos, ◌≤ℤ◌}
use Rattle.std.specs.List.{AllByRecursion}
use Rattle.market.specs.declared.words.Activation.{Activation}
use Rattle.market.specs.declared.words.Portfolio.{Portfolio}
use Rattle.market.specs.Figures.{greatest_bid_volume, greatest_special_volume, price_limit, plan_limit, reading_limit, notice_limit, minutes_in_hour, most_parties, most_activations}
use Rattle.market.specs.Words.{minutes_of}
use Rattle.pricing.specs.declared.Facts.{Facts}
use Rattle.pricing.specs.declared.Prices.{Prices}
use Rattle.pricing.specs.Policies.{Within, Bounded}
use Rattle.integers.specs.Near.{Near}
use Rattle.settlement.specs.Hour.{Hour, imbalance}
use Rattle.settlement.specs.Payments.{due_to}

-- from 0 to n
pub record FromZero (n : ℕ) (z : ℤ) : Type 0 where
  pub low : pos 0 ≤ℤ z
  pub high : z ≤ℤ pos n

-- what acceptance guarantees of an activation, of either kind
pub record ActivationFits (a : Activation) : Type 0 where
  pub volume : a.volume.0 ≤ max greatest_bid_volume greatest_special_volume
  pub minutes : minutes_of a ≤ minutes_in_hour
  pub price : Within price_limit a.price

-- and of all the figures of an hour
pub record HourFits (hour : Hour) : Type 0 where
  pub parties : hour.parties ≤ most_parties
  pub plan : (p : ℕ) → FromZero plan_limit (hour.plan p)
  pub produced : (p : ℕ) → FromZero reading_limit (hour.produced p)
  pub consumed : (p : ℕ) → FromZero reading_limit (hour.consumed p)
  pub notice : (p q : ℕ) → Near notice_limit (hour.notice p q)
  pub few : length hour.activations ≤ most_activations
  pub activations : AllByRecursion ActivationFits hour.activations

-- what is known of the prices that an hour is settled at
pub record PricesFit (facts : Facts) (prices : Prices) : Type 0 where
  pub up : Within price_limit facts.up_price
  pub down : Within price_limit facts.down_price
  pub bounded : Bounded prices

-- no imbalance is farther from 0 than 2^30
abbrev pub ImbalancesSmall : Hour → Type 0
ImbalancesSmall hour = (portfolio : Portfolio) (p : ℕ) → Near (2 ^ 30) (imbalance hour portfolio p)

-- and nothing that is due farther than 2^48
abbrev pub DuesSmall : ℕ → Facts → Prices → Hour → Type 0
DuesSmall minutes facts prices hour = (p : ℕ) → Near (2 ^ 48) (due_to minutes facts prices hour p)
