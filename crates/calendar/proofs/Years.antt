-- Where months, years and the changes of the clock lie in the count of days.
use Rattle.std.proofs.Common.{◌≡◌, ℕ, zero, suc, ◌+◌, ◌-◌, ◌<◌, ◌≤◌, Bool, true, false, cond, refl, ap, ⊎_elim, le_refl, add-zero, add-suc, arith}
use Rattle.std.proofs.lemmas.Bool.{cases_order}
use Rattle.calendar.specs.declared.Date.{Date}
use Rattle.calendar.specs.Dates.{leap_year, year_days, month_length, days_to_year, days_to_month, day_of, Covered}
use Rattle.calendar.specs.Clock.{march_change, october_change}
use Rattle.calendar.proofs.Months.{to_month_more, to_year_more}
use Rattle.calendar.proofs.DayTests.{covered_from, some_hours, bounds, last_sunday_is}

months_later : (b : Bool) (m k : ℕ) → days_to_month b m ≤ days_to_month b (m + k)
unfolding days_to_month
months_later b m zero = rw add-zero (le_refl _)
months_later b m (suc k) = rw add-suc (let r = months_later b m k in omega arith)

months_rise : (b : Bool) (m n : ℕ) → m ≤ n → days_to_month b m ≤ days_to_month b n
months_rise b m n h = let e : m + (n - m) ≡ n = omega arith in rw e at (months_later b m (n - m))

years_later : (y k : ℕ) → days_to_year y ≤ days_to_year (y + k)
unfolding days_to_year
years_later y zero = rw add-zero (le_refl _)
years_later y (suc k) = rw add-suc (let r = years_later y k in omega arith)

years_rise : (y z : ℕ) → y ≤ z → days_to_year y ≤ days_to_year z
years_rise y z h = let e : y + (z - y) ≡ z = omega arith in rw e at (years_later y (z - y))

pub year_least : (y : ℕ) → 365 ≤ year_days y
year_least y = least (leap_year y)
  where
    least : (b : Bool) → 365 ≤ cond b 366 365
    least true = omega arith
    least false = omega arith

before_march : (b : Bool) → (59 ≤ days_to_month b 3) × (days_to_month b 3 ≤ 60)
unfolding days_to_month
before_march true = omega arith
before_march false = omega arith

before_october : (b : Bool) → (273 ≤ days_to_month b 10) × (days_to_month b 10 ≤ 274)
unfolding days_to_month
before_october true = omega arith
before_october false = omega arith

pub whole_year : (b : Bool) → days_to_month b 13 ≡ cond b 366 365
unfolding days_to_month
whole_year true = refl
whole_year false = refl

-- where the two changes of a year lie
pub record Changes (y : ℕ) : Type 0 where
  pub march_from : days_to_year (y - 2000) + 59 ≤ march_change y
  pub apart : march_change y + 150 ≤ october_change y
  pub october_to : october_change y + 60 ≤ days_to_year (y - 2000) + 365

pub changes : (y : ℕ) → Changes y
changes y =
    let m = last_sunday_is y 3 (omega arith) (omega arith) in
    let o = last_sunday_is y 10 (omega arith) (omega arith) in
    let a = before_march (leap_year y) in
    let b = before_october (leap_year y) in
    record { march_from = omega arith; apart = omega arith; october_to = omega arith }

-- a later year begins at least a year later
pub year_gap : (y z : ℕ) → 2000 ≤ y → y < z → days_to_year (y - 2000) + 365 ≤ days_to_year (z - 2000)
year_gap y z from h =
    let more = to_year_more y from in
    let least = year_least y in
    let rise = years_rise (y + 1 - 2000) (z - 2000) (omega arith) in
    omega arith

-- a date lies in its year
pub in_year : (date : Date) → Covered date → (days_to_year (date.year - 2000) ≤ day_of date) × (day_of date < days_to_year (date.year + 1 - 2000))
in_year date c =
    let k = bounds date (some_hours date (covered_from date c)) in
    let more = to_year_more date.year c.from in
    let month = to_month_more (leap_year date.year) date.month in
    let rise = months_rise (leap_year date.year) (date.month + 1) 13 (omega arith) in
    let whole = whole_year (leap_year date.year) in
    (omega arith, omega arith)

-- a day of the year is a day of one month only
pub same_day : (b : Bool) (m n d e : ℕ) → 1 ≤ d → d ≤ month_length b m → 1 ≤ e → e ≤ month_length b n → days_to_month b m + (d - 1) ≡ days_to_month b n + (e - 1) → (m ≡ n) × (d ≡ e)
same_day b m n d e d1 dm e1 en same =
    ⊎_elim (λ h. (h, (let f = ap (days_to_month b) h in omega arith))) (⊎_elim (λ h. absurd (let more = to_month_more b m in let rise = months_rise b (m + 1) n (omega arith) in omega arith)) (λ h. absurd (let more = to_month_more b n in let rise = months_rise b (n + 1) m (omega arith) in omega arith))) (cases_order m n)
