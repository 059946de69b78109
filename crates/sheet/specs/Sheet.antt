-- The sheet of a day, from its figures:
--     DAY 2017-12-20 24
--     H 08 5000 3000 3500 3500 3500
--     P 00 20500000
--     O 500000
use Rattle.std.specs.Prelude.{◌≡◌, ℕ, cond, List, [], ◌∷◌, ◌++◌, length, ℤ, Some, None, Option, nat_lt}
use Rattle.refusal.specs.declared.Refusal.{Refusal}
use Rattle.refusal.specs.declared.Refusal.TheVariants.{SheetTooShort}
use Rattle.refusal.specs.Rows.{row}
use Rattle.calendar.specs.declared.Mark.{Mark}
use Rattle.calendar.specs.Stamps.{stamp_of}
use Rattle.timetable.specs.Opening.{in_day, entered}
use Rattle.pricing.specs.declared.Prices.{Prices}
use Rattle.journal.specs.Figures.{Figures, times_of, facts_at}
use Rattle.journal.specs.Reckoned.{account_at, operator_at}
use Rattle.writers.specs.declared.Field.{Field}
use Rattle.writers.specs.declared.Field.TheVariants.{Day, TwoDigits, Stamp, Number}
use Rattle.writers.specs.Laid.{laid}
use Rattle.sheet.specs.Lines.{line_text, line_or_none, in_turn}

-- the names of the lines: DAY, H, P, O
abbrev pub day_name : List ℕ
day_name = 68 ∷ 65 ∷ 89 ∷ []

abbrev pub hour_name : List ℕ
hour_name = 72 ∷ []

abbrev pub party_name : List ℕ
party_name = 80 ∷ []

abbrev pub operator_name : List ℕ
operator_name = 79 ∷ []

-- the date and how many hours it has
abbrev pub day_fields : Figures → List Field
day_fields f = Day f.opening.date ∷ TwoDigits f.opening.hours ∷ []

-- a settled hour: its stamp, its net energy, and the surplus and shortfall prices that it was settled at,
-- for production, then for consumption and trade
abbrev pub settled_fields : ℕ × Mark → ℤ → Prices → List Field
settled_fields stamp energy prices =
    Stamp stamp.0 stamp.1
    ∷ Number energy
    ∷ Number prices.production.surplus.0
    ∷ Number prices.production.shortfall.0
    ∷ Number prices.consumption_and_trade.surplus.0
    ∷ Number prices.consumption_and_trade.shortfall.0
    ∷ []

-- none where the hour is not settled
abbrev pub fields_at : Figures → ℕ → Option Prices → Option (List Field)
fields_at f h None = None
fields_at f h (Some prices) = Some (settled_fields (stamp_of f.opening.hours h) (facts_at f h).net_energy.0 prices)

abbrev pub hour_fields : Figures → ℕ → Option (List Field)
hour_fields f h = cond (in_day (times_of f) h) (fields_at f h (f.settled h)) None

-- an entered party: its number and its account
abbrev pub party_fields : Figures → ℕ → Option (List Field)
party_fields f p = cond (entered (times_of f) p) (Some (TwoDigits p ∷ Number (account_at f p) ∷ [])) None

-- the operator's account
abbrev pub operator_fields : Figures → List Field
operator_fields f = Number (operator_at f) ∷ []

unfoldable pub hour_text : Figures → ℕ → List ℕ
hour_text f h = line_or_none hour_name (hour_fields f h)

unfoldable pub party_text : Figures → ℕ → List ℕ
party_text f p = line_or_none party_name (party_fields f p)

unfoldable pub day_text : Figures → List ℕ
day_text f = line_text day_name (day_fields f)

unfoldable pub operator_text : Figures → List ℕ
operator_text f = line_text operator_name (operator_fields f)

-- the whole: the hours in order of position, the parties in order of number
abbrev pub sheet_text : Figures → List ℕ
sheet_text f = ((day_text f ++ in_turn (hour_text f) f.opening.hours) ++ in_turn (party_text f) f.parties) ++ operator_text f

-- a buffer that the sheet does not fit in
abbrev pub sheet_row : Figures → List ℕ → Option Refusal
sheet_row f buffer = row (nat_lt (length buffer) (length (sheet_text f))) SheetTooShort None

-- the text stands from the start of the buffer on, the bytes after it stay, and its length is answered
pub record Written (text before : List ℕ) (answer : ℕ) (after : List ℕ) : Type 0 where
  pub count : answer ≡ length text
  pub bytes : after ≡ laid text before
