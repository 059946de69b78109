-- What a date and a mark print.
use Rattle.std.specs.Prelude.{ℕ, ◌-◌, List, [], ◌∷◌, ◌++◌, length, replicate, decimal}
use Rattle.calendar.specs.declared.Date.{Date}
use Rattle.calendar.specs.declared.Mark.{Mark}
use Rattle.calendar.specs.declared.Mark.TheVariants.{Unmarked, A, B}

-- the digits of a number, after as many zeros as make k places; 48 is the character 0
abbrev pub places : ℕ → ℕ → List ℕ
places k n = replicate (k - length (decimal n)) 48 ++ decimal n

-- YYYY-MM-DD; 45 is the dash
abbrev pub date_printed : Date → List ℕ
date_printed date = places 4 date.year ++ (45 ∷ places 2 date.month ++ (45 ∷ places 2 date.day))

-- a space, A or B
abbrev pub mark_printed : Mark → List ℕ
mark_printed Unmarked = 32 ∷ []
mark_printed A = 65 ∷ []
mark_printed B = 66 ∷ []
