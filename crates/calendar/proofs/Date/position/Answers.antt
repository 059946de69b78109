use Rattle.calendar.proofs.StampLaw.{there_and_back}
use Rattle.calendar.proofs.Date.position.Goals as goal

pub returns-clause-turns : goal.returns-clause-turns
returns-clause-turns c = there_and_back c.args.self
