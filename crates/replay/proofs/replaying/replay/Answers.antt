use Rattle.std.proofs.Common.{[], ◌∷◌, ap, ◌∙◌, subst}
use Rattle.journal.specs.Journal.{Start, Finish, after}
use Rattle.journal.specs.Lawful.{Lawful}
use Rattle.day.specs.View.{planned}
use Rattle.replay.specs.declared.run.Replay.{Replay}
use Rattle.replay.specs.Law.{opening_for, planned_journal, running_journal}
use Rattle.replay.proofs.Whole.{just_opened, whole}
use Rattle.replay.proofs.replaying.replay.Goals as goal

pub returns : goal.returns
returns g c =
    let prices = c.args.prices.now in
    let o = opening_for c.args.date prices in
    let first = c.args.planned.now in
    let second = c.args.running.now in
    let run : Replay =
    record {
      day = c.make_all-3.new.day;
      planned = c.in_ok-planned_answers.planned_answers;
      running = c.in_ok-running_answers.running_answers;
      metered = c.in_ok-metered_answers.metered_answers;
    } in
    let opening = c.in_ok-day.ensures in
    let one = c.in_ok-planned_answers.ensures.ran o [] opening.value (just_opened o (planned c.in_ok-day.day) opening.value opening.lawful) in
    let start = c.start-day.ensures in
    let two = c.in_ok-running_answers.ensures.ran o (Start ∷ planned_journal first run) (start.1 ∙ ap (after Start) one.reckoned) (one.lawful, subst (Lawful Start) one.reckoned start.0) in
    let finish = c.finish-day.ensures in
    let three = c.in_ok-metered_answers.ensures.ran o (Finish ∷ running_journal first second run) (finish.1 ∙ ap (after Finish) two.reckoned) (two.lawful, subst (Lawful Finish) two.reckoned finish.0) in
    whole g.P.Policy.meaning c.args.date prices first second c.args.metered.now run _ _ c.in_ok-planned_answers.ensures.all c.in_ok-running_answers.ensures.all c.in_ok-metered_answers.ensures.all one two three
