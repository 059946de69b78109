use Rattle.std.proofs.Common.{refl}
use Rattle.journal.specs.Figures.{Running}
use Rattle.journal.specs.Journal.{Hold}
use Rattle.journal.specs.Refused.{hold_refused}
use Rattle.day.proofs.Stages.{made_at}
use Rattle.day.proofs.running_calls.RunningDay.hold.Goals as goal

pub returns : goal.returns
returns c = made_at {X = Unit} (λ f. hold_refused f c.args.receipt.0) (λ _. Hold c.args.receipt.0 c.args.held) c.hold.result c.args.self.now.book c.hold.new.self Running (λ _. refl) c.hold.ensures
