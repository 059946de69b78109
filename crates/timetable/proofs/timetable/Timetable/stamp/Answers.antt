use Rattle.std.proofs.Common.{length, vec_items}
use Rattle.timetable.proofs.Days.{turns}
use Rattle.timetable.proofs.timetable.Timetable.stamp.Goals as goal

pub returns-then-not-has_hour-clause-turns : goal.returns-then-not-has_hour-clause-turns
returns-then-not-has_hour-clause-turns c = let t = c.args.self.now in turns t.date (length (vec_items t.spot)) t.hours

pub returns-clause-turns : goal.returns-clause-turns
returns-clause-turns c = let t = c.args.self.now in turns t.date (length (vec_items t.spot)) t.hours
