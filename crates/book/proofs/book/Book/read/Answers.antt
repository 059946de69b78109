use Rattle.std.proofs.Common.{sym, ap, refl, Ok, ◌∙◌}
use Rattle.timetable.specs.View.{times}
use Rattle.rows.specs.Rows.{reading_row}
use Rattle.rows.proofs.Accepted.{reading_accepted}
use Rattle.rows.proofs.Checked.{lets_through}
use Rattle.journal.specs.Figures.{Metered}
use Rattle.journal.specs.Journal.{Reading}
use Rattle.book.proofs.Calls.{metered}
use Rattle.book.proofs.Through.{still_sound, unsettled}
use Rattle.book.proofs.book.Book.read.Goals as goal

pub invariant_of-self : goal.invariant_of-self
invariant_of-self c =
    let b = c.args.self.now in
    let row = reading_row (times b.timetable) c.args.hour.0 c.args.party.0 c.args.energy.0 in
    let none = lets_through _ _ c.in_ok-check_reading.ensures in
    let open_still = (reading_accepted (times b.timetable) c.args.hour.0 c.args.party.0 c.args.energy.0 c.args.settled none).unsettled in
    record {
      sound = still_sound b.sound {X = Unit} Metered _ (λ _. Reading c.args.hour.0 c.args.party.0 c.args.meter c.args.energy.0) (Ok tt) (λ _. refl)
          (metered b.sound Metered unsettled c.set_reading.new.self c.args.meter c.args.hour.0 c.args.party.0 c.args.energy.0 (ap row (sym open_still) ∙ none) c.set_reading.ensures);
    }

pub returns : goal.returns
returns c stage prices is =
    let b = c.args.self.now in
    let row = reading_row (times b.timetable) c.args.hour.0 c.args.party.0 c.args.energy.0 in
    metered b.sound stage prices c.set_reading.new.self c.args.meter c.args.hour.0 c.args.party.0 c.args.energy.0 (ap row is ∙ lets_through _ _ c.in_ok-check_reading.ensures) c.set_reading.ensures
