-- The positions of a day and their stamps: what the local clock shows, and a mark where it shows the same hour twice.
use Rattle.std.specs.Prelude.{◌≡◌, ℕ, ◌+◌, ◌-◌, ◌*◌, ◌<◌, cond, ◌&&◌, ◌||◌, pos, ◌+ℤ◌, Some, None, Ok, Err, Option, Result, ◌==◌, nat_lt}
use Rattle.refusal.specs.declared.Refusal.{Refusal}
use Rattle.refusal.specs.declared.Refusal.TheVariants.{NotInDay}
use Rattle.units.specs.declared.Position.{Position}
use Rattle.calendar.specs.declared.Date.{Date}
use Rattle.calendar.specs.declared.Mark.{Mark}
use Rattle.calendar.specs.declared.Mark.TheVariants.{Unmarked, A, B}
use Rattle.calendar.specs.Dates.{day_of}
use Rattle.calendar.specs.Clock.{Ahead, ahead_at, start_at}

-- the stamp of position p in a day of h hours: of 23 hours, hour 2 is left out; of 25, it stands twice
abbrev pub stamp_of : ℕ → ℕ → ℕ × Mark
stamp_of h p = cond (nat_lt p 2) (p, Unmarked) (cond (h == 23) (p + 1, Unmarked) (cond (h == 25) (cond (p == 2) (2, A) (cond (p == 3) (2, B) (p - 1, Unmarked))) (p, Unmarked)))

-- the position of a stamp, if the day has it
abbrev pub unmarked_at : ℕ → ℕ → Option ℕ
unmarked_at h n = cond (nat_lt n 2 || h == 24) (Some n) (cond (n == 2) None (cond (h == 23) (Some (n - 1)) (Some (n + 1))))

abbrev pub marked_at : ℕ → ℕ → Mark → Option ℕ
marked_at h n Unmarked = unmarked_at h n
marked_at h n A = cond (h == 25 && n == 2) (Some 2) None
marked_at h n B = cond (h == 25 && n == 2) (Some 3) None

abbrev pub position_of : ℕ → ℕ → Mark → Option ℕ
position_of h n m = cond (h == 0 || nat_lt 23 n) None (marked_at h n m)

-- what is not in the day is refused
abbrev pub in_day : Option ℕ → Result Position Refusal
in_day (Some p) = Ok (record { 0 = p })
in_day None = Err NotInDay

-- a position turns into its stamp and back, and a stamp into its position and back
pub record ThereAndBack (h : ℕ) : Type 0 where
  pub from_position : (p : ℕ) → p < h → position_of h (stamp_of h p).0 (stamp_of h p).1 ≡ Some p
  pub from_stamp : (n : ℕ) (m : Mark) (p : ℕ) → position_of h n m ≡ Some p → (p < h) × (stamp_of h p ≡ (n, m))
  pub all_differ : (p q : ℕ) → p < h → q < h → stamp_of h p ≡ stamp_of h q → p ≡ q

-- the clock shows this hour, on the hour, of this date at the start of position p
pub record ClockShows (date : Date) (p : ℕ) (n : ℕ) : Type 0 where
  pub ahead : Ahead (start_at date p) (ahead_at date p)
  pub shows : start_at date p +ℤ pos (ahead_at date p) ≡ pos (1440 * day_of date + 60 * n)

-- A stands where the same hour number comes again later in the day, B where it came before, and no mark elsewhere
abbrev pub ComesLater : ℕ → ℕ → Type 0
ComesLater h p = (q : ℕ) × ((p < q) × (q < h) × ((stamp_of h q).0 ≡ (stamp_of h p).0))

abbrev pub ComesBefore : ℕ → ℕ → Type 0
ComesBefore h p = (q : ℕ) × ((q < p) × ((stamp_of h q).0 ≡ (stamp_of h p).0))

pub record Marked (h p : ℕ) (m : Mark) : Type 0 where
  pub a : m ≡ A → ComesLater h p
  pub later : ComesLater h p → m ≡ A
  pub b : m ≡ B → ComesBefore h p
  pub before : ComesBefore h p → m ≡ B
