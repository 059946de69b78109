use Rattle.std.proofs.Common.{arith}
use Rattle.std.proofs.lemmas.Grind.{common_steps}
use Rattle.calendar.proofs.DayTests.{ruled}
use Rattle.calendar.proofs.Date.hours.Goals as goal

pub returns-clause-rule : goal.returns-clause-rule
returns-clause-rule c = ruled c.args.self c.map_or.result (grind (arith, common_steps))
