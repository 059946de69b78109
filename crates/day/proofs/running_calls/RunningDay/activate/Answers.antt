use Rattle.std.proofs.Common.{refl}
use Rattle.units.specs.declared.KilowattHours.{KilowattHours}
use Rattle.units.specs.declared.Receipt.{Receipt}
use Rattle.journal.specs.Figures.{Running}
use Rattle.journal.specs.Journal.{Activated}
use Rattle.journal.specs.Refused.{activate_refused}
use Rattle.day.proofs.Stages.{made_at}
use Rattle.day.proofs.running_calls.RunningDay.activate.Goals as goal

pub returns : goal.returns
returns c =
    let a = c.args in
    made_at {X = (Receipt × KilowattHours)} (λ f. activate_refused f a.hour.0 a.direction a.minutes.first a.minutes.last) (λ x. Activated a.hour a.direction a.minutes.first a.minutes.last x.0.0 x.1.0) c.activate.result c.args.self.now.book c.activate.new.self Running (λ _. refl) c.activate.ensures
