-- What comes of a call of a day.
use Rattle.std.specs.Prelude.{◌≡◌, Option, Result}
use Rattle.refusal.specs.declared.Refusal.{Refusal}
use Rattle.refusal.specs.Outcome.{Outcome}
use Rattle.journal.specs.Figures.{Figures}
use Rattle.journal.specs.Journal.{Entry, after}
use Rattle.journal.specs.Lawful.{Lawful}

-- f and g are the day's figures before and after it. Where a row refuses the call, it is refused so and the figures are as they were;
-- where none does, it is accepted, as a lawful entry with the answer, and the figures are those after that entry.
abbrev pub Made : {X : Type 0} → Option Refusal → (X → Entry) → Result X Refusal → Figures → Figures → Type 0
Made row entry r f g = Outcome row r (g ≡ f) (λ x. Lawful (entry x) f × (g ≡ after (entry x) f))
