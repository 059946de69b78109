-- What a pricing policy owes: three rules on the regular facts of an hour. Assumes nothing.
use Rattle.std.specs.Prelude.{◌≡◌, ℕ, true, false, pos, neg_ℤ, ◌≤ℤ◌, ◌<ℤ◌}
use Rattle.units.specs.declared.Price.{Price}
use Rattle.pricing.specs.declared.Facts.{Facts}
use Rattle.pricing.specs.declared.PricePair.{PricePair}
use Rattle.pricing.specs.declared.PricedHour.{PricedHour}
use Rattle.pricing.specs.declared.Prices.{Prices}

-- The four prices in order: production's surplus and shortfall, then those of consumption and trade.
abbrev pub four : Price → Price → Price → Price → Prices
four a b c d = record { production = record { surplus = a; shortfall = b }; consumption_and_trade = record { surplus = c; shortfall = d } }

abbrev pub pair_at : Price → PricePair
pair_at p = record { surplus = p; shortfall = p }

abbrev pub pair_for_all : PricePair → Prices
pair_for_all p = record { production = p; consumption_and_trade = p }

abbrev pub all_at : Price → Prices
all_at p = four p p p p

-- The facts beside what the function makes of them.
abbrev pub priced_by : (Facts → Prices) → Facts → PricedHour
priced_by m f = record { facts = f; prices = m f }

abbrev pub EachSurplus : (Price → Type 0) → Prices → Type 0
EachSurplus P q = P q.production.surplus × P q.consumption_and_trade.surplus

abbrev pub EachShortfall : (Price → Type 0) → Prices → Type 0
EachShortfall P q = P q.production.shortfall × P q.consumption_and_trade.shortfall

abbrev pub NotAbove : Price → Price → Type 0
NotAbove p q = p.0 ≤ℤ q.0

pub record Within (n : ℕ) (p : Price) : Type 0 where
  pub low : neg_ℤ (pos n) ≤ℤ p.0
  pub high : p.0 ≤ℤ pos n

-- The listed activations of the hour.
abbrev pub UpwardOnly : Facts → Type 0
UpwardOnly f = (f.went_up ≡ true) × (f.went_down ≡ false)

abbrev pub DownwardOnly : Facts → Type 0
DownwardOnly f = (f.went_up ≡ false) × (f.went_down ≡ true)

-- The facts on which the rules are owed.
pub record Regular (f : Facts) : Type 0 where
  pub down_not_above_spot : NotAbove f.down_price f.spot
  pub spot_not_above_up : NotAbove f.spot f.up_price
  pub spot_within : Within 1000000 f.spot
  pub up_within : Within 1000000 f.up_price
  pub down_within : Within 1000000 f.down_price
  pub middle_within : Within 1000000 f.middle
  pub upward_net : UpwardOnly f → pos 0 <ℤ f.net_energy.0
  pub downward_net : DownwardOnly f → f.net_energy.0 <ℤ pos 0

-- Rule 1: every price is within 1,100,000 of 0.
abbrev pub Bounded : Prices → Type 0
Bounded q = EachSurplus (Within 1100000) q × EachShortfall (Within 1100000) q

-- Rule 2: no surplus price is above any shortfall price, across portfolios too.
abbrev pub NoSurplusAboveAShortfall : Prices → Type 0
NoSurplusAboveAShortfall q = EachSurplus (λ s. EachShortfall (NotAbove s) q) q

-- No surplus price is above p, and no shortfall price below it.
abbrev pub AroundPrice : Price → Prices → Type 0
AroundPrice p q = EachSurplus (λ s. NotAbove s p) q × EachShortfall (NotAbove p) q

-- Rule 3: where activations are listed in one direction only, the prices lie around the price of that direction.
abbrev pub AroundTheOneWay : Facts → Prices → Type 0
AroundTheOneWay f q = (UpwardOnly f → AroundPrice f.up_price q) × (DownwardOnly f → AroundPrice f.down_price q)

pub record ShowsRules (m : Facts → Prices) : Type 0 where
  pub bounded : (f : Facts) → Regular f → Bounded (m f)
  pub ordered : (f : Facts) → Regular f → NoSurplusAboveAShortfall (m f)
  pub one_way : (f : Facts) → Regular f → AroundTheOneWay f (m f)
