-- A list of calls and their answers, run in turn.
use Rattle.std.specs.Prelude.{◌≡◌, List, [], ◌∷◌, Some, None, Ok, Err, Option, Result}
use Rattle.refusal.specs.declared.Refusal.{Refusal}
use Rattle.timetable.specs.Opening.{Opening}
use Rattle.journal.specs.Figures.{Figures}
use Rattle.journal.specs.Journal.{Entry, Journal, figures}
use Rattle.journal.specs.Lawful.{LawfulJournal}
use Rattle.replay.specs.declared.calls.Answer.{Answer}
use Rattle.replay.specs.Calls.{told}

-- why a call was refused, if it was
abbrev pub refused_as : Result Answer Refusal → Option Refusal
refused_as (Ok answer) = None
refused_as (Err refusal) = Some refusal

-- an accepted call is entered, a refused one adds nothing
abbrev pub entered : {C : Type 0} → (C → Answer → Entry) → C → Result Answer Refusal → Journal → Journal
entered entry call (Ok answer) journal = entry call answer ∷ journal
entered entry call (Err refusal) journal = journal

-- the journal after as many calls as were answered
abbrev pub journal_of : {C : Type 0} → (C → Answer → Entry) → List C → List (Result Answer Refusal) → Journal → Journal
journal_of entry [] answers journal = journal
journal_of entry (call ∷ calls) [] journal = journal
journal_of entry (call ∷ calls) (answer ∷ answers) journal = journal_of entry calls answers (entered entry call answer journal)

-- an accepted call has the answer of its entry
abbrev pub RightlyTold : {C : Type 0} → (C → Answer → Entry) → C → Result Answer Refusal → Type 0
RightlyTold entry call (Ok answer) = answer ≡ told (entry call answer)
RightlyTold entry call (Err refusal) = Unit

-- each call was refused by the row that applied then, and accepted where none did, with the answer of its entry
abbrev pub Answered : {C : Type 0} → (Figures → C → Option Refusal) → (C → Answer → Entry) → Opening → List C → List (Result Answer Refusal) → Journal → Type 0
Answered row entry opening [] [] journal = Unit
Answered row entry opening [] (answer ∷ answers) journal = ⊥
Answered row entry opening (call ∷ calls) [] journal = Unit
Answered row entry opening (call ∷ calls) (answer ∷ answers) journal =
    (row (figures opening journal) call ≡ refused_as answer) × RightlyTold entry call answer × Answered row entry opening calls answers (entered entry call answer journal)

-- what stands after the calls of a stage that were answered: f are the day's figures
pub record Ran {C : Type 0} (row : Figures → C → Option Refusal) (entry : C → Answer → Entry) (opening : Opening) (calls : List C) (answers : List (Result Answer Refusal)) (before : Journal) (f : Figures) : Type 0 where
  pub answered : Answered row entry opening calls answers before
  pub reckoned : f ≡ figures opening (journal_of entry calls answers before)
  pub lawful : LawfulJournal opening (journal_of entry calls answers before)
