use Rattle.std.proofs.Common.{rules}
use Rattle.facts.specs.Listed.{listed_in}
use Rattle.facts.proofs.Members.{some_counts}
use Rattle.facts.proofs.listed.HourActivations.went.Goals as goal

pub returns-clause-value : goal.returns-clause-value
returns-clause-value c =
    let of_hour = c.args.self.now in
    some_counts (listed_in of_hour.hour c.args.direction) of_hour.activations.now _ (search rules)
