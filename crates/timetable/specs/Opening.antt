-- What a day is opened with, the clock and the parties, and the words of the rows that speak of them. Assumes nothing.
--     in_day t h           the day has an hour at that position
--     entered t p         a party of that number is entered
--     hour_start t h       when the hour starts
--     gate_closed t h      the hour starts less than 45 minutes after the clock
--     is_past t h m        minute m of the hour is before the clock
use Rattle.std.specs.Prelude.{ℕ, ◌+◌, ◌*◌, Bool, cond, not, ◌||◌, List, [], length, ℤ, pos, ◌+ℤ◌, ◌-ℤ◌, neg_ℤ, Some, None, Ok, Err, Option, Result, ◌==◌, int_lt, nat_lt, slice_index_or}
use Rattle.units.specs.declared.Position.{Position}
use Rattle.units.specs.declared.Price.{Price}
use Rattle.refusal.specs.declared.Refusal.{Refusal}
use Rattle.refusal.specs.declared.Refusal.TheVariants.{NotInDay, OutOfRange, ClockBack, NoRoom}
use Rattle.refusal.specs.Rows.{row}
use Rattle.calendar.specs.declared.Date.{Date}
use Rattle.calendar.specs.declared.Mark.{Mark}
use Rattle.calendar.specs.Clock.{hours_of, start_of}
use Rattle.calendar.specs.Stamps.{stamp_of, position_of}
use Rattle.calendar.specs.Stamps as stamps
use Rattle.market.specs.Figures.{gate_minutes, opening_lead_minutes, latest_clock, most_parties}
use Rattle.timetable.specs.Prices.{price, priced, each_within}

-- what a day is opened with
pub record Opening : Type 0 where
  pub date : Date
  pub hours : ℕ
  pub start : ℤ
  -- 0 past the day's hours
  pub spot : ℕ → Price

pub record Times : Type 0 where
  pub opening : Opening
  pub clock : ℤ
  -- how many are entered
  pub parties : ℕ

-- the prices of the hours in turn
abbrev pub spot_of : List Price → ℕ → Price
spot_of prices h = slice_index_or prices h (price (pos 0))

-- a run of prices that is not as long as the day has hours, a date without hours, a price too far from zero
abbrev pub opening_row : Date → List ℤ → Option Refusal
opening_row date prices =
    row (not (length prices == hours_of date)) NotInDay
    (row (hours_of date == 0 || not (each_within (priced prices))) OutOfRange None)

-- the day of that date with these prices
abbrev pub opening_with : Date → List ℤ → Opening
opening_with date prices = record { date = date; hours = hours_of date; start = start_of date; spot = spot_of (priced prices) }

-- a day without hours, at the local midnight of 2000-01-01
abbrev pub empty_opening : Opening
empty_opening = record { date = record { year = 2000; month = 1; day = 1 }; hours = 0; start = neg_ℤ (pos 60); spot = spot_of [] }

-- a day just opened
abbrev pub times_at : Opening → Times
times_at o = record { opening = o; clock = o.start -ℤ pos opening_lead_minutes; parties = 0 }

-- where a row refuses, the day without hours
abbrev pub opened_by : Option Refusal → Opening → Times
opened_by None o = times_at o
opened_by (Some refusal) o = times_at empty_opening

abbrev pub opened_times : Date → List ℤ → Times
opened_times date prices = opened_by (opening_row date prices) (opening_with date prices)

abbrev pub in_day : Times → ℕ → Bool
in_day t h = nat_lt h t.opening.hours

abbrev pub entered : Times → ℕ → Bool
entered t p = nat_lt p t.parties

abbrev pub hour_start : Times → ℕ → ℤ
hour_start t h = t.opening.start +ℤ pos (60 * h)

abbrev pub gate_closed : Times → ℕ → Bool
gate_closed t h = int_lt (hour_start t h -ℤ t.clock) (pos gate_minutes)

abbrev pub is_past : Times → ℕ → ℕ → Bool
is_past t h minute = int_lt (hour_start t h +ℤ pos minute) t.clock

-- the stamp of a position of the day
abbrev pub stamp_in : Times → ℕ → Result (ℕ × Mark) Refusal
stamp_in t h = cond (in_day t h) (Ok (stamp_of t.opening.hours h)) (Err NotInDay)

-- and back
abbrev pub position_in : Times → ℕ → Mark → Result Position Refusal
position_in t number mark = stamps.in_day (position_of t.opening.hours number mark)

-- one more party
abbrev pub enter_row : Times → Option Refusal
enter_row t = row (not (nat_lt t.parties most_parties)) NoRoom None

abbrev pub with_party : Times → Times
with_party t = record { opening = t.opening; clock = t.clock; parties = t.parties + 1 }

-- the clock is set no later than the latest instant, and never back
abbrev pub clock_row : Times → ℤ → Option Refusal
clock_row t x = row (int_lt (pos latest_clock) x) OutOfRange (row (int_lt x t.clock) ClockBack None)

abbrev pub with_clock : ℤ → Times → Times
with_clock x t = record { opening = t.opening; clock = x; parties = t.parties }
