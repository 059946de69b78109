use Rattle.std.proofs.Common.{arith}
use Rattle.calendar.specs.Dates.{leap_year}
use Rattle.calendar.proofs.Months.{month_least, month_most}
use Rattle.calendar.proofs.counting.Month.days.Goals as goal

pub returns-clause-least : goal.returns-clause-least
returns-clause-least c = omega (arith, month_least (leap_year c.args.self.year) c.args.self.number c.args.self.in_year.0 c.args.self.in_year.1)

pub returns-clause-most : goal.returns-clause-most
returns-clause-most c = omega (arith, month_most (leap_year c.args.self.year) c.args.self.number)
