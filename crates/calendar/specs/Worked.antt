-- The worked cases: the two days on which the clock is changed in 2017, and an ordinary day.
use Rattle.std.specs.Prelude.{◌≡◌, ℕ, pos, Ok, Err}
use Rattle.refusal.specs.declared.Refusal.TheVariants.{NotInDay}
use Rattle.refusal.specs.Refusals.{refusal_number}
use Rattle.calendar.specs.declared.Date.{Date}
use Rattle.calendar.specs.declared.Mark.{Mark}
use Rattle.calendar.specs.declared.Mark.TheVariants.{Unmarked, A, B}
use Rattle.calendar.specs.Clock.{hours_of, start_of, start_at}
use Rattle.calendar.specs.Stamps.{position_of, in_day}

abbrev pub october_day : Date
october_day = record { year = 2017; month = 10; day = 29 }

abbrev pub march_day : Date
march_day = record { year = 2017; month = 3; day = 26 }

abbrev pub december_day : Date
december_day = record { year = 2017; month = 12; day = 20 }

-- the stamp of hour number n and this mark has position p, or is refused with this number
abbrev pub Has : Date → ℕ → Mark → ℕ → Type 0
Has date n mark p = in_day (position_of (hours_of date) n mark) ≡ Ok (record { 0 = p })

abbrev pub Lacks : Date → ℕ → Mark → ℕ → Type 0
Lacks date n mark number = (in_day (position_of (hours_of date) n mark) ≡ Err NotInDay) × (refusal_number NotInDay ≡ number)

pub record WorkedCases : Type 0 where
  pub october_hours : hours_of october_day ≡ 25
  pub october_start : start_of october_day ≡ pos 9375720
  pub october_2_a : Has october_day 2 A 2
  pub october_2_b : Has october_day 2 B 3
  pub october_3 : Has october_day 3 Unmarked 4
  pub october_2 : Lacks october_day 2 Unmarked 1
  pub march_hours : hours_of march_day ≡ 23
  pub march_3 : Has march_day 3 Unmarked 2
  pub march_2 : Lacks march_day 2 Unmarked 1
  pub december_hours : hours_of december_day ≡ 24
  pub december_8 : start_at december_day 8 ≡ pos 9451140
