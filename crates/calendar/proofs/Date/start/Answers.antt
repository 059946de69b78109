use Rattle.calendar.proofs.Turns.{starts_in_turn}
use Rattle.calendar.proofs.Date.start.Goals as goal

pub returns-clause-turns : goal.returns-clause-turns
returns-clause-turns c = starts_in_turn c.args.self

pub returns-in_err-day-clause-turns : goal.returns-in_err-day-clause-turns
returns-in_err-day-clause-turns c = starts_in_turn c.args.self
