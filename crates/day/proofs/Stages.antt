-- A call of the book, at a stage that it belongs to, is a lawful call of the day.
use Rattle.std.proofs.Common.{◌≡◌, None, Option, Result}
use Rattle.refusal.specs.declared.Refusal.{Refusal}
use Rattle.refusal.proofs.Outcomes.{outcome_map}
use Rattle.journal.specs.Figures.{Stage, Figures}
use Rattle.journal.specs.Journal.{Entry, after}
use Rattle.journal.specs.Lawful.{InStage, Allowed, Lawful}
use Rattle.journal.specs.Made.{Made}
use Rattle.book.specs.declared.book.Book.{Book}
use Rattle.book.specs.View.{shown, Call, Called}

pub staged : {X : Type 0} (row : Option Refusal) (entry : X → Entry) (r : Result X Refusal) (f g : Figures) → ((x : X) → InStage (entry x) f.stage) → Called row entry r f g → Made row entry r f g
staged row entry r f g stage called =
    outcome_map row r (g ≡ f) (g ≡ f) (λ x. Allowed (entry x) f × (g ≡ after (entry x) f)) (λ x. Lawful (entry x) f × (g ≡ after (entry x) f)) (λ u. u) (λ x none d. ((stage x, d.0), d.1)) called

-- of a day that is not over
pub made_at : {X : Type 0} (refused : Figures → Option Refusal) (entry : X → Entry) (r : Result X Refusal) (b d : Book) (stage : Stage) → ((x : X) → InStage (entry x) stage) → Call refused entry r b d
    → Made (refused (shown stage (λ h. None) b)) entry r (shown stage (λ h. None) b) (shown stage (λ h. None) d)
made_at refused entry r b d stage belongs call =
    staged (refused (shown stage (λ h. None) b)) entry r (shown stage (λ h. None) b) (shown stage (λ h. None) d) belongs (call stage (λ h. None))
