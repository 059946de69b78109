-- Where what is booked is what is due.
use Rattle.std.proofs.Common.{◌≡◌, ℕ, ◌^◌, List, ℤ, pos, negsuc, ◌+ℤ◌, ◌-ℤ◌, sym, ap, ◌∙◌, subst, arith}
use Rattle.std.proofs.lemmas.Int.{ints}
use Rattle.units.specs.declared.Position.{Position}
use Rattle.market.specs.declared.words.Activation.{Activation}
use Rattle.market.specs.declared.words.Portfolio.{Portfolio}
use Rattle.market.specs.declared.words.Portfolio.TheVariants.{Production, ConsumptionAndTrade}
use Rattle.market.specs.Figures.{plan_limit, reading_limit}
use Rattle.notices.specs.declared.notice.Notice.{Notice}
use Rattle.pricing.specs.declared.Facts.{Facts}
use Rattle.pricing.specs.declared.PricePair.{PricePair}
use Rattle.pricing.specs.declared.Prices.{Prices}
use Rattle.integers.specs.Near.{Near}
use Rattle.integers.proofs.Distances.{near_weaker}
use Rattle.settlement.specs.Bounds.{FromZero, HourFits, PricesFit}
use Rattle.settlement.specs.Hour.{Hour, trade, supplement, imbalance, production_imbalance, consumption_imbalance}
use Rattle.settlement.specs.Payments.{priced, regulation_to, due_to}
use Rattle.settlement.proofs.Bounds.{imbalance_small, due_small}
use Rattle.billing.specs.declared.book.Metered.{Metered}
use Rattle.billing.specs.Booked.{booked, hour_of, hour_for}
use Rattle.billing.specs.Capped.{Fits, capped}

pub capped_fits : (z : ℤ) → Fits z → capped z ≡ z
capped_fits (pos n) f = ap pos (omega (arith, ints, f.high))
capped_fits (negsuc n) f = ap negsuc (omega (arith, ints, f.low))

pub near_fits : (z : ℤ) → Near (2 ^ 48) z → Fits z
near_fits z a = record { low = omega (arith, ints, a.low); high = omega (arith, ints, a.high) }

-- what is worked out, from what the calls answer
pub sums : (p q : PricePair) (a b e x y x' y' e' : ℤ) → a ≡ priced p x → b ≡ priced q y → x ≡ capped x' → y ≡ capped y' → e ≡ e' → (a +ℤ b) +ℤ e ≡ (priced p (capped x') +ℤ priced q (capped y')) +ℤ e'
sums p q a b e x y x' y' e' is-a is_b is_x is_y is-e =
    ap (λ z. (z +ℤ b) +ℤ e) (is-a ∙ ap (priced p) is_x) ∙ ap (λ z. (priced p (capped x') +ℤ z) +ℤ e) (is_b ∙ ap (priced q) is_y)
    ∙ ap (λ z. (priced p (capped x') +ℤ priced q (capped y')) +ℤ z) is-e

module _ (minutes : ℕ) (facts : Facts) (prices : Prices) (hour : Hour) (p : ℕ) where
  pub booked_exact : Fits (production_imbalance hour p) → Fits (consumption_imbalance hour p) → Fits (due_to minutes facts prices hour p) → booked minutes facts prices hour p ≡ due_to minutes facts prices hour p
  booked_exact one other all =
      ap (λ z. capped ((priced prices.production z +ℤ priced prices.consumption_and_trade (capped (consumption_imbalance hour p))) +ℤ regulation_to minutes facts hour p)) (capped_fits _ one)
      ∙ ap (λ z. capped ((priced prices.production (production_imbalance hour p) +ℤ priced prices.consumption_and_trade z) +ℤ regulation_to minutes facts hour p)) (capped_fits _ other)
      ∙ capped_fits (due_to minutes facts prices hour p) all

  module _ (fits : HourFits hour) (known : PricesFit facts prices) where
    small : (z : ℤ) → Near (2 ^ 30) z → Fits z
    small z a = near_fits z (near_weaker (2 ^ 30) (2 ^ 48) z (omega arith) a)

    pub booked_accepted : booked minutes facts prices hour p ≡ due_to minutes facts prices hour p
    booked_accepted =
        booked_exact (small _ (imbalance_small hour fits Production p)) (small _ (imbalance_small hour fits ConsumptionAndTrade p))
        (near_fits _ (due_small minutes facts prices hour fits known p))

    pub booked_small : (z : ℤ) → z ≡ booked minutes facts prices hour p → Near (2 ^ 48) z
    booked_small z e = subst (λ v. Near (2 ^ 48) v) (sym (e ∙ booked_accepted)) (due_small minutes facts prices hour fits known p)

-- what is due to a party looks at no other party's own figures
module _ (position : Position) (parties : ℕ) (plan produced consumed : ℕ → ℤ) (notices : List Notice) (activations : List Activation) (p : ℕ) (metered : Metered) (is-plan : metered.plan.0 ≡ plan p) (is-produced : metered.produced.0 ≡ produced p) (is-consumed : metered.consumed.0 ≡ consumed p) where
  whole : Hour
  whole = hour_of position parties plan produced consumed notices activations

  own : Hour
  own = hour_for position parties metered notices activations

  pub own_imbalance : (portfolio : Portfolio) → imbalance (hour_for position parties metered notices activations) portfolio p ≡ imbalance (hour_of position parties plan produced consumed notices activations) portfolio p
  unfolding whole own
  own_imbalance Production =
      ap (λ z. (z -ℤ metered.plan.0) -ℤ supplement own Production p) is-produced ∙ ap (λ z. (produced p -ℤ z) -ℤ supplement own Production p) is-plan
  own_imbalance ConsumptionAndTrade =
      ap (λ z. ((z -ℤ metered.consumed.0) +ℤ trade own p) -ℤ supplement own ConsumptionAndTrade p) is-plan
      ∙ ap (λ z. ((plan p -ℤ z) +ℤ trade own p) -ℤ supplement own ConsumptionAndTrade p) is-consumed

  pub own_due : (minutes : ℕ) (facts : Facts) (prices : Prices) → due_to minutes facts prices (hour_for position parties metered notices activations) p ≡ due_to minutes facts prices (hour_of position parties plan produced consumed notices activations) p
  unfolding whole own
  own_due minutes facts prices =
      ap (λ z. (priced prices.production z +ℤ priced prices.consumption_and_trade (consumption_imbalance own p)) +ℤ regulation_to minutes facts own p) (own_imbalance Production)
      ∙ ap (λ z. (priced prices.production (production_imbalance whole p) +ℤ priced prices.consumption_and_trade z) +ℤ regulation_to minutes facts own p) (own_imbalance ConsumptionAndTrade)

  pub own_fits : HourFits (hour_of position parties plan produced consumed notices activations) → HourFits (hour_for position parties metered notices activations)
  own_fits fits = record {
    parties = fits.parties;
    plan = λ _. subst (λ z. FromZero plan_limit z) (sym is-plan) (fits.plan p);
    produced = λ _. subst (λ z. FromZero reading_limit z) (sym is-produced) (fits.produced p);
    consumed = λ _. subst (λ z. FromZero reading_limit z) (sym is-consumed) (fits.consumed p);
    notice = fits.notice;
    few = fits.few;
    activations = fits.activations;
  }
