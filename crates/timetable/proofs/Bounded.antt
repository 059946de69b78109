-- The bounds of a timetable.
use Rattle.std.proofs.Common.{ℕ, zero, suc, ◌≤◌, length, vec_items, arith, lit≤}
use Rattle.calendar.specs.declared.Date.{Date}
use Rattle.calendar.proofs.DayTests as days
use Rattle.timetable.specs.declared.timetable.Timetable.{Timetable}
use Rattle.timetable.specs.Bounds.{Bounded}
use Rattle.timetable.specs.View.{times}
use Rattle.timetable.proofs.Days.{Whole, spot_of_within}

pub hours_most : (date : Date) (n : ℕ) → Whole date n → n ≤ 25
hours_most date zero whole = lit≤ tt
hours_most date (suc n) whole = let e = whole (omega arith) in let m = days.hours_most date in omega arith

pub bounded : (t : Timetable) → Bounded (times t)
bounded t =
    let ps = vec_items t.spot in
    record {
      hours_most = hours_most t.date (length ps) t.hours;
      parties_most = t.entered;
      spot_within = λ h. spot_of_within ps h t.prices;
      start_spanned = t.started;
      clock_spanned = t.reached;
    }
