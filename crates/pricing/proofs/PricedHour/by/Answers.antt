use Rattle.pricing.proofs.PricedHour.by.Goals as goal

-- The rules of the policy's function, at its value here.
pub returns : goal.returns
returns g c =
    let rules = g.met.P.Policy.rules c.args.policy.now in
    let e = c.prices.ensures in
    record {
      hour = simp e;
      bounded = λ regular. simp e (rules.bounded c.args.facts regular);
      ordered = λ regular. simp e (rules.ordered c.args.facts regular);
      one_way = λ regular. simp e (rules.one_way c.args.facts regular);
    }
