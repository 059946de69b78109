use Rattle.calendar.proofs.ClockLaw.{ahead_law}
use Rattle.calendar.proofs.Date.minutes_ahead.Goals as goal

pub returns-clause-rule : goal.returns-clause-rule
returns-clause-rule c = ahead_law c.args.self c.args.position.0
