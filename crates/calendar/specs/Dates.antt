-- The calendar: leap years, the days of a month, days counted from 2000-01-01, and Sundays.
use Rattle.std.specs.Prelude.{◌≡◌, ℕ, zero, suc, ◌+◌, ◌-◌, ◌%◌, ◌<◌, ◌≤◌, Bool, cond, not, ◌&&◌, ◌||◌, ◌⊎◌, List, [], ◌∷◌, ◌==◌, slice_index}
use Rattle.calendar.specs.declared.Date.{Date}

-- every fourth year is a leap year, but of the full hundreds only every fourth
unfoldable pub leap_year : ℕ → Bool
leap_year y = y % 4 == 0 && (not (y % 100 == 0) || y % 400 == 0)

abbrev pub year_days : ℕ → ℕ
year_days y = cond (leap_year y) 366 365

-- the lengths of the months, of a leap year or not; January is month 1, and there is no month 0
abbrev pub month_lengths : Bool → List ℕ
month_lengths leap = 0 ∷ 31 ∷ cond leap 29 28 ∷ 31 ∷ 30 ∷ 31 ∷ 30 ∷ 31 ∷ 31 ∷ 30 ∷ 31 ∷ 30 ∷ 31 ∷ []

-- what is no month has no days
abbrev pub month_length : Bool → ℕ → ℕ
month_length leap m = slice_index (month_lengths leap) m

abbrev pub month_days : ℕ → ℕ → ℕ
month_days y m = month_length (leap_year y) m

-- the days of the first k years from 2000 on
unfoldable pub days_to_year : ℕ → ℕ
days_to_year zero = 0
days_to_year (suc k) = days_to_year k + year_days (2000 + k)

-- the days of a year, leap or not, before month m
unfoldable pub days_to_month : Bool → ℕ → ℕ
days_to_month leap zero = 0
days_to_month leap (suc m) = days_to_month leap m + month_length leap m

-- the days from 2000-01-01 to a date, for years from 2000 on
abbrev pub day_number : ℕ → ℕ → ℕ → ℕ
day_number y m d = days_to_year (y - 2000) + days_to_month (leap_year y) m + (d - 1)

abbrev pub day_of : Date → ℕ
day_of date = day_number date.year date.month date.day

-- day 0 is a Saturday, so the first Sunday is day 1
abbrev pub Sunday : ℕ → Type 0
Sunday n = n % 7 ≡ 1

-- the last Sunday of a month: a Sunday after which its month has no other
pub record LastSunday (y m d : ℕ) : Type 0 where
  pub first : 1 ≤ d
  pub within : d ≤ month_days y m
  pub sunday : Sunday (day_number y m d)
  pub none_later : (e : ℕ) → d < e → e ≤ month_days y m → Sunday (day_number y m e) → ⊥

-- a date of the calendar, in the hundred years that are covered
pub record Covered (date : Date) : Type 0 where
  pub from : 2000 ≤ date.year
  pub to : date.year ≤ 2099
  pub first : 1 ≤ date.day
  pub within : date.day ≤ month_days date.year date.month

-- the next date is the next day of the month, the first of the next month, or the first of the next year
abbrev pub NextDay : Date → Date → Type 0
NextDay date next = (next.year ≡ date.year) × (next.month ≡ date.month) × (next.day ≡ date.day + 1)

abbrev pub NextMonth : Date → Date → Type 0
NextMonth date next = (date.day ≡ month_days date.year date.month) × (next.year ≡ date.year) × (next.month ≡ date.month + 1) × (next.day ≡ 1)

abbrev pub NextYear : Date → Date → Type 0
NextYear date next = (date.month ≡ 12) × (date.day ≡ 31) × (next.year ≡ date.year + 1) × (next.month ≡ 1) × (next.day ≡ 1)

abbrev pub Next : Date → Date → Type 0
Next date next = NextDay date next ⊎ (NextMonth date next ⊎ NextYear date next)
