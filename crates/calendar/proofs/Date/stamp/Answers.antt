use Rattle.calendar.proofs.StampLaw.{shows_law, marked_law}
use Rattle.calendar.proofs.Date.stamp.Goals as goal

pub returns-clause-clock : goal.returns-clause-clock
returns-clause-clock c = shows_law c.args.self c.args.position.0

pub returns-clause-marks : goal.returns-clause-marks
returns-clause-marks c = marked_law c.args.self c.args.position.0
