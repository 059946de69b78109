-- What a book shows, and what comes of a call.
use Rattle.std.specs.Prelude.{◌≡◌, ℕ, Option, Result}
use Rattle.refusal.specs.declared.Refusal.{Refusal}
use Rattle.refusal.specs.Outcome.{Outcome}
use Rattle.pricing.specs.declared.Prices.{Prices}
use Rattle.journal.specs.Figures.{Stage, Figures}
use Rattle.journal.specs.Journal.{Entry, after}
use Rattle.journal.specs.Lawful.{Allowed}
use Rattle.book.specs.declared.book.Book.{Book}
use Rattle.book.specs.Parts.{figures_of}

-- its figures, at a stage of the day, with the prices of the settled hours
abbrev pub shown : Stage → (ℕ → Option Prices) → Book → Figures
shown stage settled b = figures_of stage settled b.timetable b.positions b.notices b.ladder b.register

-- of the figures that a book shows, at every stage and whatever is settled
abbrev pub InEveryView : Book → (Figures → Type 0) → Type 0
InEveryView b P = (stage : Stage) (settled : ℕ → Option Prices) → P (shown stage settled b)

-- the same of the figures before a call and after it
abbrev pub AcrossEveryView : Book → Book → (Figures → Figures → Type 0) → Type 0
AcrossEveryView b d P = (stage : Stage) (settled : ℕ → Option Prices) → P (shown stage settled b) (shown stage settled d)

-- where a row refuses the call, it is refused so and the figures are as they were;
-- where none does, it is accepted as this entry, which is allowed, and the figures are those after it
abbrev pub Called : {X : Type 0} → Option Refusal → (X → Entry) → Result X Refusal → Figures → Figures → Type 0
Called row entry r f g = Outcome row r (g ≡ f) (λ x. Allowed (entry x) f × (g ≡ after (entry x) f))

-- the same in every view of the book
abbrev pub Call : {X : Type 0} → (Figures → Option Refusal) → (X → Entry) → Result X Refusal → Book → Book → Type 0
Call refused entry r b d = AcrossEveryView b d (λ f g. Called (refused f) entry r f g)
