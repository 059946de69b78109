use Rattle.std.proofs.Common.{length, vec_items}
use Rattle.timetable.proofs.Days.{turns}
use Rattle.timetable.proofs.timetable.Timetable.position.Goals as goal

pub returns-in_err-hour-clause-turns : goal.returns-in_err-hour-clause-turns
returns-in_err-hour-clause-turns c = let t = c.args.self.now in turns t.date (length (vec_items t.spot)) t.hours
