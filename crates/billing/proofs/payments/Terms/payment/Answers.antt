use Rattle.std.proofs.Common.{◌≡◌, ◌^◌, pos, sym, refl, ◌∙◌, arith, w32, w64, SFits, rules}
use Rattle.market.specs.Words.{energy_of}
use Rattle.settlement.specs.Payments.{signed}
use Rattle.billing.proofs.Paid.{payment_is, signed_up, signed_down}
use Rattle.billing.proofs.Wide.{Reads, from32, from64, back, fits, reads_mul, reads_near}
use Rattle.billing.proofs.payments.Terms.payment.Goals as goal
use Rattle.billing.proofs.payments.Terms.payment.Goals.{in-Up, in-Down}

price : (c : goal.After-from) → Reads (2 ^ 31) c.from.result c.price_of-price.result.0
price c = let f : SFits w32 c.price_of-price.result.0 = search rules in from32 _ _ f c.from.ensures

energy : (c : goal.After-from) → c.from-energy.result ≡ pos (energy_of c.args.activation.now)
energy c =
    let f : SFits w64 c.energy.result.0 = search rules in (from64 _ _ f c.from-energy.ensures).is ∙ c.energy.ensures.value

turned : (c : goal.After-from) → Reads (2 ^ 35) c.match-activation.signed (signed c.args.activation.now.direction (pos (energy_of c.args.activation.now)))
turned c =
    elim c.match-activation.branch [
      | in-Up w ↦ signed_up _ _ _ _ w.in-Up.is (sym c.match-activation.signed-is ∙ w.signed-is) (energy c) c.energy.ensures.bound
      | in-Down w ↦ signed_down _ _ _ _ w.in-Down.is (sym c.match-activation.signed-is ∙ w.signed-is) (energy c) c.energy.ensures.bound
    ]

pub overflow_mul-result : goal.overflow_mul-result
overflow_mul-result c =
    fits (2 ^ 66) _ _ (omega arith)
    (reads_mul (2 ^ 35) (2 ^ 31) _ _ _ _ (record { is = c.match-activation.signed-is ∙ (turned c).is; near = (turned c).near }) (back (2 ^ 31) _ _ (omega arith) (price c)))

pub returns : goal.returns
returns c =
    let product =
    back (2 ^ 66) _ _ (omega arith)
    (reads_mul (2 ^ 35) (2 ^ 31) _ _ _ _ (record { is = c.match-activation.signed-is ∙ (turned c).is; near = (turned c).near }) (back (2 ^ 31) _ _ (omega arith) (price c))) in
    record {
      value = product.is ∙ payment_is c.args.self.now.minutes c.args.self.now.facts c.args.activation.now c.price_of-price.result _ _ c.price_of-price.ensures refl refl;
      bound = reads_near _ _ _ product;
    }
