-- A line of a sheet. Assumes nothing.
use Rattle.std.specs.Prelude.{◌≡◌, ℕ, ◌<◌, zero, suc, List, [], ◌∷◌, ◌++◌, Some, None, Option}
use Rattle.std.specs.List.{flat_map}
use Rattle.std.specs.Option.{option_map}
use Rattle.writers.specs.declared.Field.{Field}
use Rattle.writers.specs.Text.{field_text}

-- a field after the space that parts it from the one before; 32 is the space
abbrev pub spaced : Field → List ℕ
spaced field = 32 ∷ field_text field

-- its name, its fields, and a line feed, which is 10
abbrev pub line_text : List ℕ → List Field → List ℕ
line_text name fields = (name ++ flat_map spaced fields) ++ 10 ∷ []

-- a line that may be left out
abbrev pub line_or_none : List ℕ → Option (List Field) → List ℕ
line_or_none name None = []
line_or_none name (Some fields) = line_text name fields

-- the texts of 0, 1 and on, up to the last below n, one after another
abbrev pub in_turn : (ℕ → List ℕ) → ℕ → List ℕ
in_turn text zero = []
in_turn text (suc n) = in_turn text n ++ text n

-- whatever is answered at a number below n, `text` has the line of those fields there
abbrev pub Spells : {L : Type 0} → List ℕ → (L → List Field) → ℕ → (ℕ → Option L → Type 0) → (ℕ → List ℕ) → Type 0
Spells {L} name items n answers text = (i : ℕ) (fields : Option L) → i < n → answers i fields → text i ≡ line_or_none name (option_map items fields)
