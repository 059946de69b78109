use Rattle.journal.specs.Journal.{Clock}
use Rattle.journal.specs.Refused.{clock_refused}
use Rattle.day.proofs.Stages.{made_at}
use Rattle.day.proofs.open_day.OpenDay.set_clock.Goals as goal

pub returns : goal.returns
returns g c = made_at {X = Unit} (λ f. clock_refused f c.args.instant.0) (λ _. Clock c.args.instant.0) c.set_clock.result c.args.self.now.book c.set_clock.new.self g.S.Stage.stage (λ _. g.S.Stage.early) c.set_clock.ensures
