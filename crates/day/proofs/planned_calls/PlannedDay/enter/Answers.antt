use Rattle.std.proofs.Common.{refl}
use Rattle.units.specs.declared.Party.{Party}
use Rattle.journal.specs.Figures.{Planned}
use Rattle.journal.specs.Journal.{Entered}
use Rattle.journal.specs.Refused.{enter_refused}
use Rattle.day.proofs.Stages.{made_at}
use Rattle.day.proofs.planned_calls.PlannedDay.enter.Goals as goal

pub returns : goal.returns
returns c = made_at {X = Party} enter_refused (λ party. Entered party.0) c.enter.result c.args.self.now.book c.enter.new.self Planned (λ _. refl) c.enter.ensures
