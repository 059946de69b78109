-- What is due to the parties sums to minus what the operator takes.
use Rattle.std.proofs.Common.{◌≡◌, ℕ, ◌<◌, Bool, true, false, cond, ◌&&◌, eqb, ℤ, pos, ◌+ℤ◌, ◌-ℤ◌, ◌*ℤ◌, neg_ℤ, refl, ap, ◌∙◌, ⊎_elim, arith}
use Rattle.std.proofs.lemmas.Int.{ints}
use Rattle.std.proofs.ByRecursion.{All-weaker}
use Rattle.std.proofs.lemmas.Bool.{cases_Bool}
use Rattle.market.specs.declared.words.Activation.{Activation}
use Rattle.pricing.specs.declared.Facts.{Facts}
use Rattle.pricing.specs.declared.Prices.{Prices}
use Rattle.register.specs.Totals.{of_hour}
use Rattle.integers.specs.Sums.{sum_to}
use Rattle.integers.proofs.Sums.{sum_to-same, sum_to-none, sum_to-add, sum_to-sub, sum_to-only, sum_over-same, sum_over-swap}
use Rattle.settlement.specs.Hour.{Hour, production_imbalance, consumption_imbalance, OwnActivations}
use Rattle.settlement.specs.Payments.{surplus, shortfall, priced, payment, regulation, regulation_to, priced_surplus, priced_shortfall}
use Rattle.settlement.specs.HourLaws.{MoneySums}

regroup : (a b c d : ℤ) → (a -ℤ b) +ℤ (c -ℤ d) ≡ (a +ℤ c) -ℤ (b +ℤ d)
regroup a b c d = omega (arith, ints)

turned : (a b c : ℤ) → (a -ℤ b) +ℤ c ≡ neg_ℤ ((b -ℤ a) -ℤ c)
turned a b c = omega (arith, ints)

nowhere : (o b : Bool) (x : ℤ) → o ≡ false → cond (o && b) x (pos 0) ≡ pos 0
nowhere true b x e = absurd (let z : ◌≡◌ {A = ℕ} 0 1 = cc in omega arith)
nowhere false b x e = refl

somewhere : (o b : Bool) (x : ℤ) → o ≡ true → cond (o && b) x (pos 0) ≡ cond b x (pos 0)
somewhere true b x e = refl
somewhere false b x e = absurd (let z : ◌≡◌ {A = ℕ} 0 1 = cc in omega arith)

if_so : (o : Bool) (x : ℤ) → o ≡ true → x ≡ cond o x (pos 0)
if_so true x e = refl
if_so false x e = absurd (let z : ◌≡◌ {A = ℕ} 0 1 = cc in omega arith)

if_not : (o : Bool) (x : ℤ) → o ≡ false → pos 0 ≡ cond o x (pos 0)
if_not true x e = absurd (let z : ◌≡◌ {A = ℕ} 0 1 = cc in omega arith)
if_not false x e = refl

module _ (minutes : ℕ) (facts : Facts) (hour : Hour) where
  paid : Activation → ℤ
  paid a = payment minutes facts a

  -- each activation is paid to one party
  each : (a : Activation) → (of_hour hour.position a ≡ true → a.party.0 < hour.parties)
      → sum_to hour.parties (λ p. cond (of_hour hour.position a && eqb a.party.0 p) (payment minutes facts a) (pos 0)) ≡ cond (of_hour hour.position a) (payment minutes facts a) (pos 0)
  each a entered =
      let n : ℕ = hour.parties in
      let o : Bool = of_hour hour.position a in
      let x : ℤ = payment minutes facts a in
      ⊎_elim
      (λ t. sum_to-same n _ (λ p. cond (eqb a.party.0 p) x (pos 0)) (λ p h. somewhere o (eqb a.party.0 p) x t) ∙ sum_to-only n a.party.0 x (entered t) ∙ if_so o x t)
      (λ f. sum_to-none n _ (λ p h. nowhere o (eqb a.party.0 p) x f) ∙ if_not o x f)
      (cases_Bool o)

  pub regulation_sums : OwnActivations hour → sum_to hour.parties (regulation_to minutes facts hour) ≡ regulation minutes facts hour
  regulation_sums owned =
      let n : ℕ = hour.parties in
      sum_over-swap n (λ p a. cond (of_hour hour.position a && eqb a.party.0 p) (payment minutes facts a) (pos 0)) hour.activations
      ∙ sum_over-same _ _ hour.activations
      (All-weaker (λ a. of_hour hour.position a ≡ true → a.party.0 < n) _ each hour.activations owned)

  pub imbalances_priced : (prices : Prices) → sum_to hour.parties (λ p. priced prices.production (production_imbalance hour p) +ℤ priced prices.consumption_and_trade (consumption_imbalance hour p)) ≡ priced_surplus prices hour -ℤ priced_shortfall prices hour
  unfolding priced
  imbalances_priced prices =
      let n : ℕ = hour.parties in
      sum_to-same n _ _ (λ p h. regroup (surplus (production_imbalance hour p) *ℤ prices.production.surplus.0) (shortfall (production_imbalance hour p) *ℤ prices.production.shortfall.0) (surplus (consumption_imbalance hour p) *ℤ prices.consumption_and_trade.surplus.0) (shortfall (consumption_imbalance hour p) *ℤ prices.consumption_and_trade.shortfall.0))
      ∙ sum_to-sub n (λ p. (surplus (production_imbalance hour p) *ℤ prices.production.surplus.0) +ℤ (surplus (consumption_imbalance hour p) *ℤ prices.consumption_and_trade.surplus.0)) (λ p. (shortfall (production_imbalance hour p) *ℤ prices.production.shortfall.0) +ℤ (shortfall (consumption_imbalance hour p) *ℤ prices.consumption_and_trade.shortfall.0))

  pub money_sums : (prices : Prices) → OwnActivations hour → MoneySums minutes facts prices hour
  money_sums prices owned =
      let n : ℕ = hour.parties in
      sum_to-add n (λ p. priced prices.production (production_imbalance hour p) +ℤ priced prices.consumption_and_trade (consumption_imbalance hour p)) (regulation_to minutes facts hour)
      ∙ ap (λ z. z +ℤ sum_to n (regulation_to minutes facts hour)) (imbalances_priced prices)
      ∙ ap (λ z. (priced_surplus prices hour -ℤ priced_shortfall prices hour) +ℤ z) (regulation_sums owned)
      ∙ turned (priced_surplus prices hour) (priced_shortfall prices hour) (regulation minutes facts hour)
