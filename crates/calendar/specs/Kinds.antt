-- The kinds of a covered day: what the clock does on it, and so how many hours it has.
use Rattle.std.specs.Prelude.{ℕ}
use Rattle.calendar.specs.declared.kinds.DayKind.{DayKind}
use Rattle.calendar.specs.declared.kinds.DayKind.TheVariants.{March, Ordinary, October}

abbrev pub kind_hours : DayKind → ℕ
kind_hours March = 23
kind_hours Ordinary = 24
kind_hours October = 25
