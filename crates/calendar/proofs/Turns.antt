-- Each day starts where the one before ended.
use Rattle.std.proofs.Common.{◌≡◌, ℕ, ◌+◌, ◌-◌, ◌*◌, ◌<◌, ◌≤◌, Bool, pos, ◌+ℤ◌, ◌-ℤ◌, refl, ap, ◌∙◌, ⊎_elim, arith}
use Rattle.std.proofs.lemmas.Int.{ints}
use Rattle.calendar.specs.declared.Date.{Date}
use Rattle.calendar.specs.Dates.{leap_year, days_to_year, days_to_month, day_of, Covered, NextDay, NextMonth, NextYear}
use Rattle.calendar.specs.Clock.{march_change, october_change, hours_of, start_ahead, start_of, StartsInTurn}
use Rattle.calendar.proofs.Months.{to_month_more, to_year_more}
use Rattle.calendar.proofs.Years.{year_least, changes, whole_year}
use Rattle.calendar.proofs.ClockLaw.{Kind, early, march, summer, october, late, kind_of, start_summer, start_early, start_late}

-- s is how far ahead the clock is as the day d starts, t as the next one does
turn_by : (d m o h s t : ℕ) → m + 150 ≤ o → (d + 1 ≤ m → t ≡ 60) → (m < d + 1 → d + 1 ≤ o → t ≡ 120) → (o < d + 1 → t ≡ 60) → Kind d m o h s → (pos (1440 * (d + 1)) -ℤ pos t) ≡ ((pos (1440 * d) -ℤ pos s) +ℤ pos (60 * h))
turn_by d m o h s t apart a b c (early k) = let e = a (omega arith) in omega (arith, ints)
turn_by d m o h s t apart a b c (march k) = let e = b (omega arith) (omega arith) in omega (arith, ints)
turn_by d m o h s t apart a b c (summer k l) = let e = b (omega arith) (omega arith) in omega (arith, ints)
turn_by d m o h s t apart a b c (october k) = let e = c (omega arith) in omega (arith, ints)
turn_by d m o h s t apart a b c (late k) = let e = c (omega arith) in omega (arith, ints)

turn : (date next : Date) → Covered date → day_of next ≡ day_of date + 1 → (day_of date + 1 ≤ march_change date.year → start_ahead next ≡ 60) → (march_change date.year < day_of date + 1 → day_of date + 1 ≤ october_change date.year → start_ahead next ≡ 120) → (october_change date.year < day_of date + 1 → start_ahead next ≡ 60) → start_of next ≡ start_of date +ℤ pos (60 * hours_of date)
turn date next cov e a b c =
    ap (λ n. pos (1440 * n) -ℤ pos (start_ahead next)) e ∙ turn_by (day_of date) (march_change date.year) (october_change date.year) (hours_of date) (start_ahead date) (start_ahead next) (changes date.year).apart a b c (kind_of date cov)

turn_within : (date next : Date) → Covered date → next.year ≡ date.year → day_of next ≡ day_of date + 1 → start_of next ≡ start_of date +ℤ pos (60 * hours_of date)
turn_within date next cov y e =
    let m = ap march_change y in
    let o = ap october_change y in
    turn date next cov e (λ h. start_early next (omega arith)) (λ h k. start_summer next (omega arith) (omega arith)) (λ h. start_late next (omega arith))

next_day : (date next : Date) → Covered date → NextDay date next → start_of next ≡ start_of date +ℤ pos (60 * hours_of date)
next_day date next cov (y, m, d) = turn_within date next cov y (rw (y, m, d) (let f = cov.first in omega arith))

next_month : (date next : Date) → Covered date → NextMonth date next → start_of next ≡ start_of date +ℤ pos (60 * hours_of date)
next_month date next cov (l, y, m, d) =
    turn_within date next cov y (rw (y, m, d) (let f = cov.first in let more = to_month_more (leap_year date.year) date.month in omega arith))

none_before : (b : Bool) → days_to_month b 1 ≡ 0
unfolding days_to_month
none_before b = refl

december : (b : Bool) → days_to_month b 13 ≡ days_to_month b 12 + 31
unfolding days_to_month
december b = refl

next_year : (date next : Date) → Covered date → NextYear date next → start_of next ≡ start_of date +ℤ pos (60 * hours_of date)
next_year date next cov (m, l, y, n, d) =
    let first : days_to_month (leap_year next.year) 1 ≡ 0 = none_before (leap_year next.year) in
    let begin : day_of next ≡ days_to_year (date.year + 1 - 2000) = rw (n, d, first) (rw y (omega arith)) in
    let more = to_year_more date.year cov.from in
    let least = year_least date.year in
    let whole = whole_year (leap_year date.year) in
    let end : day_of date ≡ days_to_year (date.year - 2000) + days_to_month (leap_year date.year) 12 + 30 = rw (m, l) (omega arith) in
    let last = december (leap_year date.year) in
    let g = changes date.year in
    let g' = changes next.year in
    let y' = ap (λ z. days_to_year (z - 2000)) y in
    let early-start : start_ahead next ≡ 60 = start_early next (omega arith) in
    turn date next cov (omega arith) (λ h. early-start) (λ h k. absurd (omega arith)) (λ h. early-start)

pub starts_in_turn : (date : Date) → StartsInTurn date
starts_in_turn date next n cov cov' = ⊎_elim (next_day date next cov) (⊎_elim (next_month date next cov) (next_year date next cov)) n
