use Rattle.std.proofs.Common.{refl}
use Rattle.units.specs.declared.KilowattHours.{KilowattHours}
use Rattle.journal.specs.Figures.{Running}
use Rattle.journal.specs.Journal.{Special, special_of}
use Rattle.journal.specs.Refused.{special_refused}
use Rattle.day.proofs.Stages.{made_at}
use Rattle.day.proofs.running_calls.RunningDay.special.Goals as goal

pub returns : goal.returns
returns c =
    let a = special_of c.args.offer c.args.minutes.first c.args.minutes.last in
    made_at {X = KilowattHours} (λ f. special_refused f a) (λ energy. Special a energy.0) c.special.result c.args.self.now.book c.special.new.self Running (λ _. refl) c.special.ensures
