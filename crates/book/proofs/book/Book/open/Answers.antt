use Rattle.timetable.specs.Opening.{opening_row, opening_with}
use Rattle.book.proofs.Opened.{opened_sound, opened_shown}
use Rattle.book.proofs.book.Book.open.Goals as goal

pub invariant_of-result : goal.invariant_of-result
invariant_of-result c = record {
  sound = ∣ opened_sound c.in_ok-timetable.timetable c.in_ok-positions.positions c.in_ok-notices.notices c.in_ok-ladder.ladder c.in_ok-register.register
      c.in_ok-positions.ensures c.in_ok-notices.ensures c.in_ok-ladder.ensures c.in_ok-register.ensures ∣₁;
}

pub returns : goal.returns
returns c =
    opened_shown c.in_ok-timetable.timetable c.in_ok-positions.positions c.in_ok-notices.notices c.in_ok-ladder.ladder c.in_ok-register.register
    (opening_row c.args.date c.args.prices.now) (opening_with c.args.date c.args.prices.now) c.in_ok-timetable.ensures
    c.in_ok-positions.ensures c.in_ok-notices.ensures c.in_ok-ladder.ensures c.in_ok-register.ensures
