-- The local clock: summer time, the hours of a day, and the instants at which days and hours start.
-- An instant counts minutes from 2000-01-01 00:00 UTC.
use Rattle.std.specs.Prelude.{◌≡◌, ℕ, ◌+◌, ◌-◌, ◌*◌, ◌%◌, ◌≤◌, Bool, cond, ◌&&◌, ℤ, pos, ◌+ℤ◌, ◌-ℤ◌, ◌≤ℤ◌, ◌<ℤ◌, ◌==◌, nat_le, nat_lt}
use Rattle.calendar.specs.declared.Date.{Date}
use Rattle.calendar.specs.Dates.{month_days, day_number, day_of, LastSunday, Covered, Next}

-- The rules.

-- summer time of the year y: from 01:00 UTC of the last Sunday of March, day a, to 01:00 UTC of the last Sunday of October, day b
pub record SummerOf (y a b : ℕ) (t : ℤ) : Type 0 where
  pub year : 2000 ≤ y
  pub march : LastSunday y 3 a
  pub october : LastSunday y 10 b
  pub from : pos (1440 * day_number y 3 a + 60) ≤ℤ t
  pub to : t <ℤ pos (1440 * day_number y 10 b + 60)

abbrev pub SummerTime : ℤ → Type 0
SummerTime t = (y : ℕ) × ((a : ℕ) × ((b : ℕ) × SummerOf y a b t))

-- at the instant t the local clock is o minutes ahead of UTC: two hours in summer time, else one
pub record Ahead (t : ℤ) (o : ℕ) : Type 0 where
  pub summer : SummerTime t → o ≡ 120
  pub winter : (SummerTime t → ⊥) → o ≡ 60

-- the hours of a local day
pub record DayHours (date : Date) (h : ℕ) : Type 0 where
  pub outside : (Covered date → ⊥) → h ≡ 0
  pub march : Covered date → date.month ≡ 3 → LastSunday date.year 3 date.day → h ≡ 23
  pub october : Covered date → date.month ≡ 10 → LastSunday date.year 10 date.day → h ≡ 25
  pub other : Covered date → (date.month ≡ 3 → LastSunday date.year 3 date.day → ⊥) → (date.month ≡ 10 → LastSunday date.year 10 date.day → ⊥) → h ≡ 24

-- The same as functions, to compute with.

-- the day of the month on which its last Sunday falls
abbrev pub last_sunday : ℕ → ℕ → ℕ
last_sunday y m = month_days y m - (day_number y m (month_days y m) + 6) % 7

-- the days on which the clock is changed
abbrev pub march_change : ℕ → ℕ
march_change y = day_number y 3 (last_sunday y 3)

abbrev pub october_change : ℕ → ℕ
october_change y = day_number y 10 (last_sunday y 10)

abbrev pub covered : Date → Bool
covered date = nat_le 2000 date.year && (nat_le date.year 2099 && (nat_le 1 date.day && nat_le date.day (month_days date.year date.month)))

abbrev pub on_last_sunday : ℕ → Date → Bool
on_last_sunday m date = date.month == m && date.day == last_sunday date.year m

unfoldable pub hours_of : Date → ℕ
hours_of date = cond (covered date) (cond (on_last_sunday 3 date) 23 (cond (on_last_sunday 10 date) 25 24)) 0

-- the day starts in summer time: from the day after the March change through the day of the October change
unfoldable pub starts_in_summer : Date → Bool
starts_in_summer date = nat_lt (march_change date.year) (day_of date) && nat_le (day_of date) (october_change date.year)

-- how many minutes the local clock is ahead of UTC at the day's start, and at the start of a position
abbrev pub start_ahead : Date → ℕ
start_ahead date = cond (starts_in_summer date) 120 60

-- in a day of h hours that starts s minutes ahead
abbrev pub ahead_in : ℕ → ℕ → ℕ → ℕ
ahead_in h s p = cond (h == 23) (cond (nat_lt p 2) 60 120) (cond (h == 25) (cond (nat_lt p 3) 120 60) s)

abbrev pub ahead_at : Date → ℕ → ℕ
ahead_at date p = ahead_in (hours_of date) (start_ahead date) p

abbrev pub start_of : Date → ℤ
start_of date = pos (1440 * day_of date) -ℤ pos (start_ahead date)

abbrev pub start_at : Date → ℕ → ℤ
start_at date p = start_of date +ℤ pos (60 * p)

-- each day starts where the one before ended
abbrev pub StartsInTurn : Date → Type 0
StartsInTurn date = (next : Date) → Next date next → Covered date → Covered next → start_of next ≡ start_of date +ℤ pos (60 * hours_of date)
