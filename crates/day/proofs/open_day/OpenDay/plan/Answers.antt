use Rattle.journal.specs.Journal.{Plan}
use Rattle.journal.specs.Refused.{plan_refused}
use Rattle.day.proofs.Stages.{made_at}
use Rattle.day.proofs.open_day.OpenDay.plan.Goals as goal

pub returns : goal.returns
returns g c =
    made_at {X = Unit} (λ f. plan_refused f c.args.hour.0 c.args.party.0 c.args.energy.0) (λ _. Plan c.args.hour.0 c.args.party.0 c.args.energy.0) c.plan.result c.args.self.now.book c.plan.new.self g.S.Stage.stage (λ _. g.S.Stage.early) c.plan.ensures
