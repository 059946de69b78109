use Rattle.std.proofs.Common.{refl}
use Rattle.journal.specs.Figures.{Running}
use Rattle.journal.specs.Journal.{Withdrawn}
use Rattle.journal.specs.Refused.{withdraw_refused}
use Rattle.day.proofs.Stages.{made_at}
use Rattle.day.proofs.running_calls.RunningDay.withdraw.Goals as goal

pub returns : goal.returns
returns c = made_at {X = Unit} (λ f. withdraw_refused f c.args.receipt.0) (λ _. Withdrawn c.args.receipt.0) c.withdraw.result c.args.self.now.book c.withdraw.new.self Running (λ _. refl) c.withdraw.ensures
