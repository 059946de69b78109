use Rattle.std.proofs.Common.{length, vec_items, arith}
use Rattle.timetable.proofs.Bounded.{hours_most}
use Rattle.timetable.proofs.timetable.Timetable.hours.Goals as goal

pub returns-clause-most : goal.returns-clause-most
returns-clause-most c = let t = c.args.self.now in let most = hours_most t.date (length (vec_items t.spot)) t.hours in omega arith
