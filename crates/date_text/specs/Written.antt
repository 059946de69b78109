-- The text of a date: four digits, a dash, two digits, a dash, two digits.
use Rattle.std.specs.Prelude.{◌≡◌, ℕ, ◌+◌, ◌/◌, ◌%◌, ◌<◌, List, length, slice_index_or}
use Rattle.calendar.specs.declared.Date.{Date}

-- 48 is the character 0, and 45 the dash
abbrev pub digit : ℕ → ℕ
digit n = 48 + n % 10

pub record DateText (date : Date) (text : List ℕ) : Type 0 where
  pub four_places : date.year < 10000
  pub two_places : date.month < 100
  pub two_more : date.day < 100
  pub long : length text ≡ 10
  pub at_0 : slice_index_or text 0 0 ≡ digit (date.year / 1000)
  pub at_1 : slice_index_or text 1 0 ≡ digit (date.year / 100)
  pub at_2 : slice_index_or text 2 0 ≡ digit (date.year / 10)
  pub at_3 : slice_index_or text 3 0 ≡ digit date.year
  pub at_4 : slice_index_or text 4 0 ≡ 45
  pub at_5 : slice_index_or text 5 0 ≡ digit (date.month / 10)
  pub at_6 : slice_index_or text 6 0 ≡ digit date.month
  pub at_7 : slice_index_or text 7 0 ≡ 45
  pub at_8 : slice_index_or text 8 0 ≡ digit (date.day / 10)
  pub at_9 : slice_index_or text 9 0 ≡ digit date.day

-- two characters that are the digits of a number
pub record TwoDigits (n tens ones : ℕ) : Type 0 where
  pub below : n < 100
  pub first : tens ≡ digit (n / 10)
  pub second : ones ≡ digit n
