use Rattle.std.proofs.Common.{rules, tests}
use Rattle.register.specs.Totals.{of_account}
use Rattle.register.proofs.totals.supplement.Goals as goal
use Rattle.register.proofs.totals.supplement.Goals.{After-totals}

pub overflow_sub-result : goal.overflow_sub-result
overflow_sub-result c =
    let counts = of_account c.args.hour c.args.party c.args.portfolio in
    let up = (c.totals.ensures.up counts (λ a r q. search (rules, tests))).capped in
    let down = (c.totals.ensures.down counts (λ a r q. search (rules, tests))).capped in
    search rules

pub returns : goal.returns
returns c =
    let counts = of_account c.args.hour c.args.party c.args.portfolio in
    let up = c.totals.ensures.up counts (λ a r q. search (rules, tests)) in
    let down = c.totals.ensures.down counts (λ a r q. search (rules, tests)) in
    search rules
