-- What a table of notices keeps, and what it answers.
use Rattle.std.specs.Prelude.{◌≡◌, ℕ, Bool, if◌then◌else◌, ◌||◌, List, [], ◌∷◌, length, ℤ, pos, Some, None, Option, nat_lt}
use Rattle.ordered.specs.Listed.{items}
use Rattle.ordered.specs.Order.{held, placed, without}
use Rattle.refusal.specs.declared.Refusal.{Refusal}
use Rattle.refusal.specs.declared.Refusal.TheVariants.{NoRoom}
use Rattle.market.specs.Figures.{most_notices}
use Rattle.notices.specs.declared.notice.Notice.{Notice}
use Rattle.notices.specs.declared.table.NoticeTable.{NoticeTable}
use Rattle.notices.specs.Order.{notice_before, notice_same, energy_of, is_zero}

abbrev pub kept : NoticeTable → List Notice
kept table = items table.notices

-- a notice replaces the earlier one of the same sender for that counterparty and hour; a zero removes it
unfoldable pub with_notice : Notice → List Notice → List Notice
with_notice n notices = if is_zero n then without notice_same n notices else placed notice_before n notices

-- refused where one more place is needed and there is none
abbrev pub notice_row : Notice → List Notice → Option Refusal
notice_row n notices = if is_zero n then None else if nat_lt (length notices) most_notices || held notice_same n notices then None else Some NoRoom

-- there is a place for it: a zero needs none, a replacement has one, and else one must be left
abbrev pub place_for : Notice → List Notice → Bool
place_for n notices = is_zero n || (nat_lt (length notices) most_notices || held notice_same n notices)

-- the value of the record that is the same as x, 0 where there is none
unfoldable pub value_like : {X : Type 0} → (X → X → Bool) → (X → ℤ) → X → List X → ℤ
value_like same value x [] = pos 0
value_like same value x (y ∷ ys) = if same y x then value y else value_like same value x ys

-- the energy of the kept notice like this one, 0 where none is kept
abbrev pub energy_like : Notice → List Notice → ℤ
energy_like like notices = value_like notice_same energy_of like notices

-- what the table keeps of an hour for a sender and a counterparty
abbrev pub between : ℕ → List Notice → ℕ → ℕ → ℤ
between hour notices sender counterparty =
    energy_like (record { hour = record { 0 = hour }; sender = record { 0 = sender }; counterparty = record { 0 = counterparty }; energy = record { 0 = pos 0 } }) notices

-- what is kept for each sender, counterparty and hour once the notice is taken: its own energy there, and elsewhere what was kept
abbrev pub Replaces : Notice → List Notice → Type 0
Replaces n notices = (like : Notice) → energy_like like (with_notice n notices) ≡ (if notice_same n like then energy_of n else energy_like like notices)
