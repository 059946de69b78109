use Rattle.day.proofs.Reckoning.{finished}
use Rattle.day.proofs.running_calls.RunningDay.finish.Goals as goal

pub invariant_of-result : goal.invariant_of-result
invariant_of-result c = record { reckoned = finished c.args.self.book c.new.result c.new.ensures }
