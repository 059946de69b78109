use Rattle.std.proofs.Common.{◌^◌, pos, sym, ap, ◌∙◌, arith, w32, w64, SFits, rules}
use Rattle.billing.proofs.Paid.{lower, priced_is, short_price, surplus_price}
use Rattle.billing.proofs.Wide.{from32, from64, back, reads_mul, reads_near}
use Rattle.billing.proofs.payments.priced.Goals as goal
use Rattle.billing.proofs.payments.priced.Goals.{then-lt, else-lt}

pub returns : goal.returns
returns c =
    let x = c.args.imbalance.0 in
    let f : SFits w64 c.args.imbalance.0 = search rules in
    let g : SFits w32 c.if-lt.price.0 = search rules in
    let energy = back (2 ^ 63) _ _ (omega arith) (from64 c.from.result x f c.from.ensures) in
    let price = back (2 ^ 31) _ _ (omega arith) (from32 c.from-2.result c.if-lt.price.0 g c.from-2.ensures) in
    let side = sym (c.lt.ensures ∙ lower x (pos 0)) in
    let product = back (2 ^ 94) _ _ (omega arith) (reads_mul (2 ^ 63) (2 ^ 31) _ _ _ _ energy price) in
    record {
      value =
          product.is
          ∙ elim c.if-lt.branch [
            | then-lt w ↦ priced_is c.args.pair x _ (short_price c.args.pair x _ (side ∙ w.if-lt.true) (ap (λ p. p.0) w.price-is))
            | else-lt w ↦ priced_is c.args.pair x _ (surplus_price c.args.pair x _ (side ∙ w.if-lt.false) (ap (λ p. p.0) w.price-is))
          ];
      bound = reads_near _ _ _ product;
    }
