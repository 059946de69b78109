-- The stamps of a day's positions: what the clock shows, there and back, and the marks.
use Rattle.std.proofs.Common.{◌≡◌, ℕ, ◌+◌, ◌*◌, ◌<◌, pos, ◌+ℤ◌, ◌-ℤ◌, Some, ap, arith}
use Rattle.std.proofs.lemmas.Int.{ints}
use Rattle.std.proofs.lemmas.Bool.Decides.{nat_tests}
use Rattle.calendar.specs.declared.Date.{Date}
use Rattle.calendar.specs.declared.Mark.{Mark}
use Rattle.calendar.specs.declared.Mark.TheVariants.{Unmarked, A, B}
use Rattle.calendar.specs.Dates.{day_of}
use Rattle.calendar.specs.Clock.{march_change, october_change, hours_of, start_ahead, ahead_in}
use Rattle.calendar.specs.Stamps.{stamp_of, position_of, ThereAndBack, ClockShows, Marked}
use Rattle.calendar.proofs.DayTests.{has_hours, Length, length_of}
use Rattle.calendar.proofs.ClockLaw.{Kind, early, march, summer, october, late, kind_of, ahead_law}

shows_by : (d m o h s p : ℕ) → Kind d m o h s → p < h → ((pos (1440 * d) -ℤ pos s) +ℤ pos (60 * p)) +ℤ pos (ahead_in h s p) ≡ pos (1440 * d + 60 * (stamp_of h p).0)
shows_by d m o h s p (early k) within = grind (arith, ints, nat_tests)
shows_by d m o h s p (march k) within = grind (arith, ints, nat_tests)
shows_by d m o h s p (summer k l) within = grind (arith, ints, nat_tests)
shows_by d m o h s p (october k) within = grind (arith, ints, nat_tests)
shows_by d m o h s p (late k) within = grind (arith, ints, nat_tests)

pub shows_law : (date : Date) (p : ℕ) → p < hours_of date → ClockShows date p (stamp_of (hours_of date) p).0
shows_law date p h =
    record {
      ahead = ahead_law date p h;
      shows = shows_by (day_of date) (march_change date.year) (october_change date.year) (hours_of date) (start_ahead date) p (kind_of date (has_hours date (omega arith))) h;
    }

module _ (h : ℕ) (l : Length h) where
  back : (p : ℕ) → p < h → position_of h (stamp_of h p).0 (stamp_of h p).1 ≡ Some p
  back p within = grind (arith, nat_tests)

  there : (n : ℕ) (m : Mark) (p : ℕ) → position_of h n m ≡ Some p → (p < h) × (stamp_of h p ≡ (n, m))
  there n Unmarked p e = grind (arith, nat_tests)
  there n A p e = grind (arith, nat_tests)
  there n B p e = grind (arith, nat_tests)

  all_differ : (p q : ℕ) → p < h → q < h → stamp_of h p ≡ stamp_of h q → p ≡ q
  all_differ p q a b e =
      let x = back p a in
      let y = back q b in
      let z = ap (λ (s : ℕ × Mark). position_of h s.0 s.1) e in
      cc

  -- where an hour stands twice, it stands at positions 2 and 3
  marked : (p : ℕ) → p < h → Marked h p (stamp_of h p).1
  marked p within =
      record {
        a = λ e. (3, grind (arith, nat_tests));
        later = λ (q, r). grind (arith, nat_tests);
        b = λ e. (2, grind (arith, nat_tests));
        before = λ (q, r). grind (arith, nat_tests);
      }

pub there_and_back : (date : Date) → ThereAndBack (hours_of date)
there_and_back date =
    let l = length_of date in
    record { from_position = back (hours_of date) l; from_stamp = there (hours_of date) l; all_differ = all_differ (hours_of date) l }

pub marked_law : (date : Date) (p : ℕ) → p < hours_of date → Marked (hours_of date) p (stamp_of (hours_of date) p).1
marked_law date p h = marked (hours_of date) (length_of date) p h
