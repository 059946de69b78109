use Rattle.std.proofs.Common.{rules, arith}
use Rattle.ordered.proofs.Sought.{searched}
use Rattle.ordered.proofs.list.seek.seek.Goals as goal

pub returns : goal.returns
returns g c =
    let found = c.binary_search_by.ensures in
    grind (arith, searched g.met.T.Ranked.order c.args.like.now c.args.records.now c.binary_search_by.result found.bound found.position (λ a r f' called. search rules))
