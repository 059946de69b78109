-- Where the days of the calendar start.
use Rattle.std.proofs.Common.{ℕ, zero, suc, ◌+◌, ◌-◌, ◌*◌, ◌<◌, ◌≤◌, pos, ◌-ℤ◌, arith, lit≤}
use Rattle.std.proofs.lemmas.Int.{ints}
use Rattle.std.proofs.lemmas.Bool.{cond_both}
use Rattle.calendar.specs.declared.Date.{Date}
use Rattle.calendar.specs.Dates.{days_to_year, day_of}
use Rattle.calendar.specs.Clock.{hours_of, start_ahead, start_of, starts_in_summer}
use Rattle.calendar.proofs.DayTests.{has_hours}
use Rattle.calendar.proofs.Months.{year_most}
use Rattle.calendar.proofs.Years.{in_year}
use Rattle.timetable.specs.Span.{Spanned}

years_most : (k : ℕ) → days_to_year k ≤ 366 * k
unfolding days_to_year
years_most zero = lit≤ tt
years_most (suc k) = let r = years_most k in let m = year_most (2000 + k) in omega arith

day_most : (date : Date) → 0 < hours_of date → day_of date ≤ 40000
day_most date h =
    let c = has_hours date h in
    let within = in_year date c in
    let most = years_most (date.year + 1 - 2000) in
    let last = c.to in
    omega arith

ahead_most : (date : Date) → start_ahead date ≤ 120
ahead_most date = cond_both (starts_in_summer date) 120 60 (λ n. n ≤ 120) (λ _. lit≤ tt) (λ _. lit≤ tt)

-- a day starts, and its clock before it, within the span
pub starts_within : (date : Date) → 0 < hours_of date → Spanned (start_of date) × Spanned (start_of date -ℤ pos 2_880)
starts_within date h =
    let d = day_most date h in
    let a = ahead_most date in
    ((omega (arith, ints), omega (arith, ints)), (omega (arith, ints), omega (arith, ints)))
