-- How far from 0 an hour's imbalances lie, and what is due for them.
use Rattle.std.proofs.Common.{ℕ, ◌+◌, ◌*◌, ◌^◌, ◌≤◌, Bool, true, false, cond, ◌&&◌, eqb, List, length, ℤ, pos, ◌+ℤ◌, ◌-ℤ◌, ◌*ℤ◌, neg_ℤ, nat_abs, arith}
use lib.Signed.{lt_z}
use Rattle.std.specs.List.{AllByRecursion}
use Rattle.std.proofs.ByRecursion.{All-weaker, sum_by_le}
use Rattle.std.proofs.lemmas.Int.{ints}
use Rattle.units.specs.declared.Price.{Price}
use Rattle.market.specs.declared.words.Activation.{Activation}
use Rattle.market.specs.declared.words.Direction.{Direction}
use Rattle.market.specs.declared.words.Direction.TheVariants.{Up, Down}
use Rattle.market.specs.declared.words.Portfolio.{Portfolio}
use Rattle.market.specs.declared.words.Portfolio.TheVariants.{Production, ConsumptionAndTrade}
use Rattle.market.specs.Figures.{first_outside, outside_parties, notice_limit, most_activations}
use Rattle.market.specs.Words.{energy_of, minutes_of}
use Rattle.market.proofs.EnergyLaws.{lawful}
use Rattle.pricing.specs.declared.Facts.{Facts}
use Rattle.pricing.specs.declared.PricePair.{PricePair}
use Rattle.pricing.specs.declared.Prices.{Prices}
use Rattle.pricing.specs.Policies.{Within}
use Rattle.register.specs.Totals.{of_hour, of_account, adds, total_of}
use Rattle.integers.specs.Near.{Near}
use Rattle.integers.proofs.Distances.{near_zero, near_weaker, near_neg, near_add, near_sub, near_cond, near_mul, near-sum_to, near-sum_over, abs_near}
use Rattle.settlement.specs.Hour.{Hour, counted, trade, from_outside, supplement, imbalance}
use Rattle.settlement.specs.Payments.{priced, signed, direction_price, is_long, payment, regulation_to, due_to}
use Rattle.settlement.specs.Bounds.{FromZero, ActivationFits, HourFits, PricesFit, ImbalancesSmall, DuesSmall}

near_from_within : (n : ℕ) (p : Price) → Within n p → Near n p.0
near_from_within n p w = record { low = w.low; high = w.high }

near_pos : (n m : ℕ) → m ≤ n → Near n (pos m)
near_pos n m h = abs_near n (pos m) h

-- two figures from 0 to n are at most n apart
apart : (n : ℕ) (x y : ℤ) → FromZero n x → FromZero n y → Near n (x -ℤ y)
apart n x y a b =
    record { low = omega (arith, ints, a.low, b.high); high = omega (arith, ints, a.high, b.low) }

-- what counts of a notice is no farther from 0 than the notice
pub near_counted : (n : ℕ) (sent back : ℤ) → Near n sent → Near n (counted sent back)
unfolding counted
near_counted n sent back a = near_cond n (eqb (nat_abs (sent +ℤ back)) 0) sent (pos 0) a (near_zero n)

energy_small : (a : Activation) → ActivationFits a → energy_of a ≤ 50_000
energy_small a f = omega (arith, (lawful a.volume.0 (minutes_of a)).bounded f.minutes, f.volume)

adds_small : (counts : Activation → Bool) (d : Direction) (a : Activation) → ActivationFits a → adds counts d a ≤ 50_000
adds_small counts d a f = grind (arith, energy_small a f)

total_small : (counts : Activation → Bool) (d : Direction) (xs : List Activation) → length xs ≤ most_activations → AllByRecursion ActivationFits xs → total_of counts d xs ≤ 25_600_000
total_small counts d xs few fit =
    omega (arith, sum_by_le (adds counts d) 50_000 xs (All-weaker ActivationFits (λ a. adds counts d a ≤ 50_000) (adds_small counts d) xs fit))

-- both are no farther from 0 than n
less : (n a b : ℕ) → a ≤ n → b ≤ n → Near n (pos a -ℤ pos b)
less n a b h k = record { low = omega (arith, ints); high = omega (arith, ints) }

module _ (hour : Hour) (fits : HourFits hour) where
  trade_near : (p : ℕ) → Near 40_000_000 (trade hour p)
  trade_near p =
      near_weaker (hour.parties * notice_limit + outside_parties * notice_limit) 40_000_000 (trade hour p) (omega (arith, fits.parties))
      (near_add (hour.parties * notice_limit) (outside_parties * notice_limit) _ (from_outside hour p)
      (near-sum_to hour.parties notice_limit (λ q. counted (hour.notice p q) (hour.notice q p)) (λ q l. near_counted notice_limit _ _ (fits.notice p q)))
      (near-sum_to outside_parties notice_limit (λ k. neg_ℤ (hour.notice (first_outside + k) p)) (λ k l. near_neg notice_limit _ (fits.notice (first_outside + k) p))))

  supplement_near : (portfolio : Portfolio) (p : ℕ) → Near 25_600_000 (supplement hour portfolio p)
  supplement_near portfolio p =
      let counts = of_account hour.position (record { 0 = p }) portfolio in
      less 25_600_000 _ _ (total_small counts Up hour.activations fits.few fits.activations) (total_small counts Down hour.activations fits.few fits.activations)

  pub imbalance_near : (portfolio : Portfolio) (p : ℕ) → Near 76_000_000 (imbalance hour portfolio p)
  imbalance_near Production p =
      near_weaker (5_000_000 + 25_600_000) 76_000_000 _ (omega arith)
      (near_sub 5_000_000 25_600_000 _ (supplement hour Production p) (apart 5_000_000 _ _ (fits.produced p) (fits.plan p)) (supplement_near Production p))
  imbalance_near ConsumptionAndTrade p =
      near_weaker (5_000_000 + 40_000_000 + 25_600_000) 76_000_000 _ (omega arith)
      (near_sub (5_000_000 + 40_000_000) 25_600_000 _ (supplement hour ConsumptionAndTrade p)
      (near_add 5_000_000 40_000_000 _ (trade hour p) (apart 5_000_000 _ _ (fits.plan p) (fits.consumed p)) (trade_near p))
      (supplement_near ConsumptionAndTrade p))

  pub imbalance_small : ImbalancesSmall hour
  imbalance_small portfolio p = near_weaker 76_000_000 (2 ^ 30) (imbalance hour portfolio p) (omega arith) (imbalance_near portfolio p)

-- one of the two is nothing
pub near_priced : (n m : ℕ) (pair : PricePair) (x : ℤ) → Near n x → Within m pair.surplus → Within m pair.shortfall → Near (n * m) (priced pair x)
unfolding priced
near_priced n m pair x a s t =
    by_sign (lt_z x (pos 0))
  where
    by_sign : (b : Bool) → Near (n * m) ((cond b (pos 0) x *ℤ pair.surplus.0) -ℤ (cond b (neg_ℤ x) (pos 0) *ℤ pair.shortfall.0))
    by_sign true = near_weaker (0 * m + n * m) (n * m) _ (omega arith) (near_sub (0 * m) (n * m) _ _ (near_mul 0 m (pos 0) _ (near_zero 0) (near_from_within m _ s)) (near_mul n m (neg_ℤ x) _ (near_neg n x a) (near_from_within m _ t)))
    by_sign false = near_weaker (n * m + 0 * m) (n * m) _ (omega arith) (near_sub (n * m) (0 * m) _ _ (near_mul n m x _ a (near_from_within m _ s)) (near_mul 0 m (pos 0) _ (near_zero 0) (near_from_within m _ t)))

near_signed : (n : ℕ) (d : Direction) (x : ℤ) → Near n x → Near n (signed d x)
near_signed n Up x a = a
near_signed n Down x a = near_neg n x a

-- an activation is paid its energy at one of three prices
pub near_payment : (n e minutes : ℕ) (facts : Facts) (a : Activation) → energy_of a ≤ e → Near n facts.up_price.0 → Near n facts.down_price.0 → Near n a.price.0 → Near (e * n) (payment minutes facts a)
unfolding payment
near_payment n e minutes facts a small up down own =
    near_signed (e * n) a.direction _
    (near_mul e n (pos (energy_of a)) _ (near_pos e (energy_of a) small) (near_cond n (is_long minutes a) _ _ (of_direction a.direction) own))
  where
    of_direction : (d : Direction) → Near n (direction_price facts d)
    of_direction Up = up
    of_direction Down = down

module _ (minutes : ℕ) (facts : Facts) (prices : Prices) (hour : Hour) (fits : HourFits hour) (known : PricesFit facts prices) where
  regulation_near : (p : ℕ) → Near (512 * 50_000_000_000) (regulation_to minutes facts hour p)
  regulation_near p =
      near_weaker (length hour.activations * 50_000_000_000) (512 * 50_000_000_000) _ (omega (arith, fits.few))
      (near-sum_over 50_000_000_000 _ hour.activations
      (All-weaker ActivationFits _ (λ a f.
      near_cond 50_000_000_000 (of_hour hour.position a && eqb a.party.0 p) (payment minutes facts a) (pos 0)
      (near_payment 1_000_000 50_000 minutes facts a (energy_small a f) (near_from_within _ _ known.up) (near_from_within _ _ known.down) (near_from_within _ _ f.price))
      (near_zero 50_000_000_000)) hour.activations fits.activations))

  pub due_small : DuesSmall minutes facts prices hour
  due_small p =
      near_weaker (76_000_000 * 1_100_000 + 76_000_000 * 1_100_000 + 512 * 50_000_000_000) (2 ^ 48) (due_to minutes facts prices hour p) (omega arith)
      (near_add (76_000_000 * 1_100_000 + 76_000_000 * 1_100_000) (512 * 50_000_000_000) _ _
      (near_add (76_000_000 * 1_100_000) (76_000_000 * 1_100_000) _ _
      (near_priced 76_000_000 1_100_000 prices.production _ (imbalance_near hour fits Production p) known.bounded.0.0 known.bounded.1.0)
      (near_priced 76_000_000 1_100_000 prices.consumption_and_trade _ (imbalance_near hour fits ConsumptionAndTrade p) known.bounded.0.1 known.bounded.1.1))
      (regulation_near p))
