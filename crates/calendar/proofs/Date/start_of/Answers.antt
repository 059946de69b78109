use Rattle.std.proofs.Common.{ap, arith}
use Rattle.std.proofs.lemmas.Int.{ints}
use Rattle.refusal.specs.declared.Refusal.TheVariants.{NotInDay}
use Rattle.calendar.specs.Clock.{hours_of, start_of, start_at}
use Rattle.calendar.proofs.DayTests.{hours_most}
use Rattle.calendar.proofs.Replies.{within, instant}
use Rattle.calendar.proofs.Date.start_of.Goals as goal

pub returns-clause-value : goal.returns-clause-value
returns-clause-value c =
    let day = c.in_ok-day.ensures in
    let most = hours_most c.args.self in
    let same = ap start_of day.0 in
    within c.args.position.0 (hours_of c.args.self) _ (instant (start_at c.args.self c.args.position.0)) NotInDay (omega arith) (ap instant (omega (arith, ints)))
