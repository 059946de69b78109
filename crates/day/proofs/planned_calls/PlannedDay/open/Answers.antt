use Rattle.book.proofs.Opened.{lawful_opening}
use Rattle.day.proofs.planned_calls.PlannedDay.open.Goals as goal

pub returns : goal.returns
returns c = record { value = c.in_ok-book.ensures; lawful = lawful_opening c.in_ok-book.book.timetable }
