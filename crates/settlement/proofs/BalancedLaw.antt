-- A balanced hour regulated one way never costs the operator, but for what short activations gain.
use Rattle.std.proofs.Common.{◌≡◌, ℕ, ◌+◌, Bool, true, false, cond, not, ◌&&◌, leb, List, [], ◌∷◌, ℤ, pos, ◌+ℤ◌, ◌-ℤ◌, ◌*ℤ◌, neg_ℤ, ◌≤ℤ◌, sym, refl, ap, ◌∙◌, subst, arith}
use Rattle.std.specs.List.{AllByRecursion}
use lib.IntN.{*ℤ_comm, *ℤ-zero}
use Rattle.std.proofs.lemmas.Int.{ints}
use Rattle.std.proofs.ByRecursion.{All-weaker}
use Rattle.std.proofs.lemmas.Bool.Decides.{nat_tests}
use Rattle.market.specs.declared.words.Activation.{Activation}
use Rattle.market.specs.declared.words.Direction.{Direction}
use Rattle.market.specs.declared.words.Direction.TheVariants.{Up, Down}
use Rattle.market.specs.declared.words.Kind.{Kind}
use Rattle.market.specs.declared.words.Kind.TheVariants.{Listed, Special}
use Rattle.market.specs.Words.{minutes_of, energy_of}
use Rattle.units.specs.declared.Price.{Price}
use Rattle.pricing.specs.declared.Facts.{Facts}
use Rattle.pricing.specs.declared.Prices.{Prices}
use Rattle.pricing.specs.Policies.{AroundPrice}
use Rattle.register.specs.Totals.{of_hour, is_listed, adds}
use Rattle.market.specs.Words.{same_direction}
use Rattle.integers.specs.Sums.{sum_to}
use Rattle.integers.proofs.Products.{mul_add, mul_sub, mul_neg, mul_keeps}
use Rattle.integers.proofs.Sums.{sum_to-same, sum_to-sub, sum_to-scale, sum_to-keeps, sum_over-same, sum_over-sub, sum_over-scale}
use Rattle.settlement.specs.Hour.{Hour, production_imbalance, consumption_imbalance, metered_production, metered_consumption, net_outside_purchases, net_activated, OwnActivations}
use Rattle.settlement.specs.Payments.{surplus, shortfall, signed, direction_price, payment, gain_of, gain, regulation, priced_surplus, priced_shortfall}
use Rattle.settlement.specs.HourLaws.{Balanced, NoneSpecial, ListedOneWay, NeverCosts}
use Rattle.settlement.proofs.Supplements.{difference}
use Rattle.settlement.proofs.EnergyLaw.{energy_sums}

surplus_less_shortfall : (x : ℤ) → surplus x -ℤ shortfall x ≡ x
surplus_less_shortfall x = grind (arith, ints)

surplus_some : (x : ℤ) → pos 0 ≤ℤ surplus x
surplus_some x = grind (arith, ints)

shortfall_some : (x : ℤ) → pos 0 ≤ℤ shortfall x
shortfall_some x = grind (arith, ints)

times_same : (u e : ℤ) → e *ℤ u ≡ u *ℤ e
times_same u e = *ℤ_comm e u

take_none : (x y : ℤ) → x ≡ y → x -ℤ pos 0 ≡ y
take_none x y h = omega (arith, ints)

take_rest : (x g y z : ℤ) → g ≡ x -ℤ y → y ≡ z → x -ℤ g ≡ z
take_rest x g y z h k = omega (arith, ints)

take_rest_down : (x g y z : ℤ) → g ≡ x -ℤ y → neg_ℤ y ≡ z → neg_ℤ x -ℤ neg_ℤ g ≡ z
take_rest_down x g y z h k = omega (arith, ints)

-- what a listed activation is paid, less what it gains by being short, is its energy at the price u of its direction
pay_less_gain : (d : Direction) (e own u : ℤ) (long : Bool) → signed d (e *ℤ cond long u own) -ℤ cond (not long) (signed d (e *ℤ (own -ℤ u))) (pos 0) ≡ u *ℤ signed d e
pay_less_gain Up e own u true = take_none (e *ℤ u) (u *ℤ e) (times_same u e)
pay_less_gain Up e own u false = take_rest (e *ℤ own) (e *ℤ (own -ℤ u)) (e *ℤ u) (u *ℤ e) (mul_sub e own u) (times_same u e)
pay_less_gain Down e own u true = take_none (neg_ℤ (e *ℤ u)) (u *ℤ neg_ℤ e) (ap neg_ℤ (times_same u e) ∙ sym (mul_neg u e))
pay_less_gain Down e own u false =
    take_rest_down (e *ℤ own) (e *ℤ (own -ℤ u)) (e *ℤ u) (u *ℤ neg_ℤ e) (mul_sub e own u) (ap neg_ℤ (times_same u e) ∙ sym (mul_neg u e))

short_or_long : (m minutes : ℕ) → leb (m + 1) minutes ≡ not (leb minutes m)
short_or_long m minutes = grind (arith, nat_tests)

net_signed : (d : Direction) (n : ℕ) → pos (cond (true && same_direction Up d) n 0) -ℤ pos (cond (true && same_direction Down d) n 0) ≡ signed d (pos n)
net_signed Up n = omega (arith, ints)
net_signed Down n = omega (arith, ints)

product_sum : (a b x y u : ℤ) → a *ℤ u ≡ x → b *ℤ u ≡ y → u *ℤ (a +ℤ b) ≡ x +ℤ y
product_sum a b x y u e f = mul_add u a b ∙ ap (λ z. z +ℤ (u *ℤ b)) (*ℤ_comm u a ∙ e) ∙ ap (λ z. x +ℤ z) (*ℤ_comm u b ∙ f)

two_below : (x y v w z : ℤ) → x ≤ℤ v → y ≤ℤ w → z ≡ v +ℤ w → (x +ℤ y) ≤ℤ z
two_below x y v w z a b e = omega (arith, ints)

two_above : (x y v w z : ℤ) → v ≤ℤ x → w ≤ℤ y → z ≡ v +ℤ w → z ≤ℤ (x +ℤ y)
two_above x y v w z a b e = omega (arith, ints)

at_most : (a b p q u : ℤ) → pos 0 ≤ℤ a → pos 0 ≤ℤ b → p ≤ℤ u → q ≤ℤ u → ((a *ℤ p) +ℤ (b *ℤ q)) ≤ℤ (u *ℤ (a +ℤ b))
at_most a b p q u ha hb hp hq =
    two_below (a *ℤ p) (b *ℤ q) (a *ℤ u) (b *ℤ u) (u *ℤ (a +ℤ b)) (mul_keeps a p u ha hp) (mul_keeps b q u hb hq) (product_sum a b (a *ℤ u) (b *ℤ u) u refl refl)

at_least : (a b p q u : ℤ) → pos 0 ≤ℤ a → pos 0 ≤ℤ b → u ≤ℤ p → u ≤ℤ q → (u *ℤ (a +ℤ b)) ≤ℤ ((a *ℤ p) +ℤ (b *ℤ q))
at_least a b p q u ha hb hp hq =
    two_above (a *ℤ p) (b *ℤ q) (a *ℤ u) (b *ℤ u) (u *ℤ (a +ℤ b)) (mul_keeps a u p ha hp) (mul_keeps b u q hb hq) (product_sum a b (a *ℤ u) (b *ℤ u) u refl refl)

joined : (a b c d x y : ℤ) → a -ℤ b ≡ x → c -ℤ d ≡ y → (a +ℤ c) -ℤ (b +ℤ d) ≡ x +ℤ y
joined a b c d x y e f = omega (arith, ints)

left_over : (made used outside activated : ℤ) → made +ℤ outside ≡ used → ((made -ℤ used) +ℤ outside) -ℤ activated ≡ neg_ℤ activated
left_over made used outside activated e = omega (arith, ints)

bound : (short long paid gained v w x : ℤ) → v ≤ℤ short → long ≤ℤ w → w -ℤ v ≡ neg_ℤ x → paid -ℤ gained ≡ x → pos 0 ≤ℤ (((short -ℤ long) -ℤ paid) +ℤ gained)
bound short long paid gained v w x a b e f = omega (arith, ints)

-- all activations of the hour are listed, and in that direction
abbrev pub AllOneWay : Direction → Hour → Type 0
AllOneWay d hour = AllByRecursion (λ a. of_hour hour.position a ≡ true → (a.kind ≡ Listed) × (a.direction ≡ d)) hour.activations

pub all_one_way : (d : Direction) (hour : Hour) → NoneSpecial hour → ListedOneWay d hour → AllOneWay d hour
all_one_way d hour none one = both hour.activations none one
  where
    both : (xs : List Activation) → AllByRecursion (λ a. of_hour hour.position a ≡ true → a.kind ≡ Listed) xs → AllByRecursion (λ a. of_hour hour.position a ≡ true → a.kind ≡ Listed → a.direction ≡ d) xs → AllByRecursion (λ a. of_hour hour.position a ≡ true → (a.kind ≡ Listed) × (a.direction ≡ d)) xs
    both [] n o = tt
    both (x ∷ xs) n o = (λ h. (n.0 h, o.0 h (n.0 h)), both xs n.1 o.1)

module _ (minutes : ℕ) (facts : Facts) (hour : Hour) (d : Direction) where
  net : Activation → ℤ
  net a = pos (adds (of_hour hour.position) Up a) -ℤ pos (adds (of_hour hour.position) Down a)

  each : (a : Activation) → (of_hour hour.position a ≡ true → (a.kind ≡ Listed) × (a.direction ≡ d))
      → cond (of_hour hour.position a) (payment minutes facts a) (pos 0) -ℤ cond (of_hour hour.position a) (gain_of minutes facts a) (pos 0) ≡ direction_price facts d *ℤ net a
  unfolding payment net
  each a one = by (of_hour hour.position a) a.kind a.direction one
    where
      by : (o : Bool) (k : Kind) (e : Direction) → (o ≡ true → (k ≡ Listed) × (e ≡ d))
          → cond o (signed e (pos (energy_of a) *ℤ cond (is_listed k && leb minutes (minutes_of a)) (direction_price facts e) a.price.0)) (pos 0)
          -ℤ cond o (cond (is_listed k && leb (minutes_of a + 1) minutes) (signed e (pos (energy_of a) *ℤ (a.price.0 -ℤ direction_price facts e))) (pos 0)) (pos 0)
          ≡ direction_price facts d *ℤ (pos (cond (o && same_direction Up e) (energy_of a) 0) -ℤ pos (cond (o && same_direction Down e) (energy_of a) 0))
      by false k e h = sym (*ℤ-zero (direction_price facts d))
      by true Listed e h =
          let n : ℕ = energy_of a in
          let m : ℕ = minutes_of a in
          ap (λ b. signed e (pos n *ℤ cond (leb minutes m) (direction_price facts e) a.price.0) -ℤ cond b (signed e (pos n *ℤ (a.price.0 -ℤ direction_price facts e))) (pos 0)) (short_or_long m minutes)
          ∙ pay_less_gain e (pos n) a.price.0 (direction_price facts e) (leb minutes m)
          ∙ ap (λ z. direction_price facts e *ℤ z) (sym (net_signed e n))
          ∙ ap (λ x. direction_price facts x *ℤ (pos (cond (same_direction Up e) n 0) -ℤ pos (cond (same_direction Down e) n 0))) (h refl).1
      by true Special e h = absurd (let z : ◌≡◌ {A = ℕ} 0 1 = cc (h refl).0 in omega arith)

  regulation_less_gain : AllOneWay d hour → regulation minutes facts hour -ℤ gain minutes facts hour ≡ direction_price facts d *ℤ net_activated hour
  unfolding net
  regulation_less_gain one =
      let as₁ = hour.activations in
      sym (sum_over-sub (λ a. cond (of_hour hour.position a) (payment minutes facts a) (pos 0)) (λ a. cond (of_hour hour.position a) (gain_of minutes facts a) (pos 0)) as₁)
      ∙ sum_over-same _ (λ a. direction_price facts d *ℤ net a) as₁
      (All-weaker (λ a. of_hour hour.position a ≡ true → (a.kind ≡ Listed) × (a.direction ≡ d)) _ each as₁ one)
      ∙ sum_over-scale (direction_price facts d) net as₁
      ∙ ap (λ z. direction_price facts d *ℤ z) (sym (difference (adds (of_hour hour.position) Up) (adds (of_hour hour.position) Down) as₁))

  surplus_of : ℕ → ℤ
  surplus_of p = surplus (production_imbalance hour p) +ℤ surplus (consumption_imbalance hour p)

  shortfall_of : ℕ → ℤ
  shortfall_of p = shortfall (production_imbalance hour p) +ℤ shortfall (consumption_imbalance hour p)

  module _ (prices : Prices) (price : Price) (is : price.0 ≡ direction_price facts d) (around : AroundPrice price prices) where
    surplus_at_most : priced_surplus prices hour ≤ℤ (price.0 *ℤ sum_to hour.parties surplus_of)
    unfolding surplus_of
    surplus_at_most =
        let n : ℕ = hour.parties in
        subst (λ z. priced_surplus prices hour ≤ℤ z) (sum_to-scale n price.0 surplus_of)
        (sum_to-keeps n _ (λ p. price.0 *ℤ surplus_of p)
        (λ p h.
        at_most (surplus (production_imbalance hour p)) (surplus (consumption_imbalance hour p)) prices.production.surplus.0 prices.consumption_and_trade.surplus.0 price.0 (surplus_some (production_imbalance hour p)) (surplus_some (consumption_imbalance hour p)) around.0.0 around.0.1))

    shortfall_at_least : (price.0 *ℤ sum_to hour.parties shortfall_of) ≤ℤ priced_shortfall prices hour
    unfolding shortfall_of
    shortfall_at_least =
        let n : ℕ = hour.parties in
        subst (λ z. z ≤ℤ priced_shortfall prices hour) (sum_to-scale n price.0 shortfall_of)
        (sum_to-keeps n (λ p. price.0 *ℤ shortfall_of p) _
        (λ p h.
        at_least (shortfall (production_imbalance hour p)) (shortfall (consumption_imbalance hour p)) prices.production.shortfall.0 prices.consumption_and_trade.shortfall.0 price.0 (shortfall_some (production_imbalance hour p)) (shortfall_some (consumption_imbalance hour p)) around.1.0 around.1.1))

    -- surplus less shortfall is the imbalance, and those of a balanced hour sum to minus the net activated energy
    imbalance_left : OwnActivations hour → Balanced hour → sum_to hour.parties surplus_of -ℤ sum_to hour.parties shortfall_of ≡ neg_ℤ (net_activated hour)
    unfolding surplus_of shortfall_of
    imbalance_left owned balanced =
        let n : ℕ = hour.parties in
        sym (sum_to-sub n surplus_of shortfall_of)
        ∙ sum_to-same n _ (λ p. production_imbalance hour p +ℤ consumption_imbalance hour p)
        (λ p h. joined (surplus (production_imbalance hour p)) (shortfall (production_imbalance hour p)) (surplus (consumption_imbalance hour p)) (shortfall (consumption_imbalance hour p)) _ _ (surplus_less_shortfall (production_imbalance hour p)) (surplus_less_shortfall (consumption_imbalance hour p)))
        ∙ energy_sums hour owned
        ∙ left_over (metered_production hour) (metered_consumption hour) (net_outside_purchases hour) (net_activated hour) balanced

    pub never_costs : OwnActivations hour → Balanced hour → AllOneWay d hour → NeverCosts minutes facts prices hour
    never_costs owned balanced one =
        let n : ℕ = hour.parties in
        let s : ℤ = sum_to n surplus_of in
        let t : ℤ = sum_to n shortfall_of in
        let net-at = mul_sub price.0 s t in
        let turned = ap (λ z. price.0 *ℤ z) (imbalance_left owned balanced) ∙ mul_neg price.0 (net_activated hour) in
        let paid = regulation_less_gain one ∙ ap (λ z. z *ℤ net_activated hour) (sym is) in
        bound (priced_shortfall prices hour) (priced_surplus prices hour) (regulation minutes facts hour) (gain minutes facts hour) (price.0 *ℤ t) (price.0 *ℤ s) (price.0 *ℤ net_activated hour) shortfall_at_least surplus_at_most (sym net-at ∙ turned) paid
