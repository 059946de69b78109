-- The text of each field of a sheet, as ASCII. Assumes nothing.
use Rattle.std.specs.Prelude.{ℕ, ◌+◌, ◌/◌, ◌%◌, List, [], ◌∷◌, ◌++◌, ℤ}
use Rattle.std.specs.Fmt.{signed_decimal}
use Rattle.calendar.specs.declared.Date.{Date}
use Rattle.calendar.specs.declared.Mark.{Mark}
use Rattle.calendar.specs.declared.Mark.TheVariants.{Unmarked, A, B}
use Rattle.writers.specs.declared.Field.{Field}
use Rattle.writers.specs.declared.Field.TheVariants.{Day, TwoDigits, Stamp, Number}

-- the last digit of a number; 48 is the character 0
abbrev pub digit : ℕ → ℕ
digit n = 48 + n % 10

abbrev pub two_digits : ℕ → List ℕ
two_digits n = digit (n / 10) ∷ digit n ∷ []

-- YYYY-MM-DD; 45 is the dash
abbrev pub text_of_date : Date → List ℕ
text_of_date date =
    digit (date.year / 1000) ∷ digit (date.year / 100) ∷ digit (date.year / 10) ∷ digit date.year ∷ 45
    ∷ digit (date.month / 10) ∷ digit date.month ∷ 45 ∷ digit (date.day / 10) ∷ digit date.day ∷ []

-- the letters A and B
abbrev pub mark_text : Mark → List ℕ
mark_text Unmarked = []
mark_text A = 65 ∷ []
mark_text B = 66 ∷ []

-- the hour number, followed at once by its mark
abbrev pub stamp_text : ℕ → Mark → List ℕ
stamp_text number mark = two_digits number ++ mark_text mark

-- no leading zeros, `-` before a negative number, `0` for nought
abbrev pub number_text : ℤ → List ℕ
number_text n = signed_decimal n

abbrev pub field_text : Field → List ℕ
field_text (Day date) = text_of_date date
field_text (TwoDigits n) = two_digits n
field_text (Stamp number mark) = stamp_text number mark
field_text (Number n) = number_text n
