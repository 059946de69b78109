-- The imbalances of an hour sum to what the meters, the outside and the activations leave.
use Rattle.std.proofs.Common.{◌≡◌, ℕ, ℤ, ◌+ℤ◌, ◌-ℤ◌, ap, ◌∙◌, arith}
use Rattle.std.proofs.lemmas.Int.{ints}
use Rattle.market.specs.declared.words.Portfolio.TheVariants.{Production, ConsumptionAndTrade}
use Rattle.integers.specs.Sums.{sum_to}
use Rattle.integers.proofs.Sums.{sum_to-same, sum_to-add, sum_to-sub}
use Rattle.settlement.specs.Hour.{Hour, trade, supplement, net_outside_purchases, OwnActivations}
use Rattle.settlement.specs.HourLaws.{EnergySums}
use Rattle.settlement.proofs.Trade.{trades_cancel}
use Rattle.settlement.proofs.Supplements.{supplements_sum}

-- the plan drops out of the two imbalances of a party
plan_drops_out : (made planned used traded a b : ℤ) → ((made -ℤ planned) -ℤ a) +ℤ (((planned -ℤ used) +ℤ traded) -ℤ b) ≡ ((made -ℤ used) +ℤ traded) -ℤ (a +ℤ b)
plan_drops_out made planned used traded a b = omega (arith, ints)

pub energy_sums : (hour : Hour) → OwnActivations hour → EnergySums hour
energy_sums hour owned =
    let n : ℕ = hour.parties in
    let made : ℕ → ℤ = hour.produced in
    let used : ℕ → ℤ = hour.consumed in
    let traded : ℕ → ℤ = trade hour in
    let supplied : ℕ → ℤ = λ p. supplement hour Production p +ℤ supplement hour ConsumptionAndTrade p in
    sum_to-same n _ (λ p. ((made p -ℤ used p) +ℤ traded p) -ℤ supplied p)
    (λ p h. plan_drops_out (made p) (hour.plan p) (used p) (traded p) (supplement hour Production p) (supplement hour ConsumptionAndTrade p))
    ∙ sum_to-sub n (λ p. (made p -ℤ used p) +ℤ traded p) supplied
    ∙ ap (λ z. z -ℤ sum_to n supplied) (sum_to-add n (λ p. made p -ℤ used p) traded ∙ ap (λ z. z +ℤ sum_to n traded) (sum_to-sub n made used))
    ∙ ap (λ z. ((sum_to n made -ℤ sum_to n used) +ℤ z) -ℤ sum_to n supplied) (trades_cancel hour)
    ∙ ap (λ z. ((sum_to n made -ℤ sum_to n used) +ℤ net_outside_purchases hour) -ℤ z) (supplements_sum hour owned)
