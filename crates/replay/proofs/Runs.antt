-- One more call of a run.
use Rattle.std.proofs.Common.{◌≡◌, ◌<◌, List, [], ◌∷◌, ◌++◌, length, get_or, Some, None, Ok, Err, Option, Result, sym, refl, ap, ◌∙◌, subst, arith}
use Rattle.refusal.specs.declared.Refusal.{Refusal}
use Rattle.timetable.specs.Opening.{Opening}
use Rattle.journal.specs.Figures.{Figures}
use Rattle.journal.specs.Journal.{Entry, Journal, after, figures}
use Rattle.journal.specs.Lawful.{Lawful, LawfulJournal}
use Rattle.journal.specs.Made.{Made}
use Rattle.replay.specs.declared.calls.Answer.{Answer}
use Rattle.replay.specs.Runs.{refused_as, entered, journal_of, RightlyTold, Answered, Ran}

module _ {C : Type 0} (row : Figures → C → Option Refusal) (entry : C → Answer → Entry) (opening : Opening) where
  -- with one more answer, one more call
  journal_more : (calls : List C) (answers : List (Result Answer Refusal)) (j : Journal) (a : Result Answer Refusal) (d : C) → length answers < length calls
      → journal_of entry calls (answers ++ a ∷ []) j ≡ entered entry (get_or calls (length answers) d) a (journal_of entry calls answers j)
  journal_more [] answers j a d l = absurd (omega arith)
  journal_more (c ∷ []) [] j a d l = refl
  journal_more (c ∷ e ∷ calls) [] j a d l = refl
  journal_more (c ∷ calls) (b ∷ answers) j a d l = journal_more calls answers (entered entry c b j) a d (omega arith)

  answered_more : (calls : List C) (answers : List (Result Answer Refusal)) (j : Journal) (a : Result Answer Refusal) (d : C) → length answers < length calls
      → row (figures opening (journal_of entry calls answers j)) (get_or calls (length answers) d) ≡ refused_as a → RightlyTold entry (get_or calls (length answers) d) a
      → Answered row entry opening calls answers j → Answered row entry opening calls (answers ++ a ∷ []) j
  answered_more [] answers j a d l e right old = absurd (omega arith)
  answered_more (c ∷ []) [] j a d l e right old = (e, right, tt)
  answered_more (c ∷ b ∷ calls) [] j a d l e right old = (e, right, tt)
  answered_more (c ∷ calls) (b ∷ answers) j a d l e right old = (old.0, old.1, answered_more calls answers (entered entry c b j) a d (omega arith) e right old.2)

  -- one call
  record Stepped (call : C) (a : Result Answer Refusal) (f g : Figures) (j : Journal) : Type 0 where
    said : row f call ≡ refused_as a
    reckoned : g ≡ figures opening (entered entry call a j)
    lawful : LawfulJournal opening (entered entry call a j)

  stepped : (call : C) (a : Result Answer Refusal) (f g : Figures) (j : Journal) → f ≡ figures opening j → LawfulJournal opening j → Made (row f call) (entry call) a f g → Stepped call a f g j
  stepped call a f g j is lawful made = by (row f call) refl a made
    where
      by : (o : Option Refusal) → row f call ≡ o → (a : Result Answer Refusal) → Made o (entry call) a f g → Stepped call a f g j
      by (Some refusal) e (Ok x) m = absurd (cc m.0)
      by (Some refusal) e (Err x) m = record { said = cc (e, m.0); reckoned = m.1 ∙ is; lawful = lawful }
      by None e (Ok x) m = record { said = e; reckoned = m.1 ∙ ap (after (entry call x)) is; lawful = (lawful, subst (Lawful (entry call x)) is m.0) }
      by None e (Err x) m = absurd m

module _ {C : Type 0} {row : Figures → C → Option Refusal} {entry : C → Answer → Entry} {opening : Opening} where
  pub none_yet : (calls : List C) {j : Journal} {f : Figures} → f ≡ figures opening j → LawfulJournal opening j → Ran row entry opening calls [] j f
  none_yet [] is lawful = record { answered = tt; reckoned = is; lawful = lawful }
  none_yet (c ∷ calls) is lawful = record { answered = tt; reckoned = is; lawful = lawful }

  pub one_more : {calls : List C} {answers next : List (Result Answer Refusal)} {j : Journal} {f g : Figures} (call : C) (a : Result Answer Refusal) → length answers < length calls → call ≡ get_or calls (length answers) call → next ≡ answers ++ a ∷ []
      → Made (row f call) (entry call) a f g → RightlyTold entry call a → Ran row entry opening calls answers j f → Ran row entry opening calls next j g
  one_more {calls} {answers} {next} {j} {f} {g} call a there is more made right ran =
      let now : Journal = journal_of entry calls answers j in
      let s = stepped row entry opening call a f g now ran.reckoned ran.lawful made in
      let grown : journal_of entry calls (answers ++ a ∷ []) j ≡ entered entry call a now = journal_more row entry opening calls answers j a call there ∙ ap (λ c. entered entry c a now) (sym is) in
      subst (λ given. Ran row entry opening calls given j g) (sym more)
      (record {
        answered = answered_more row entry opening calls answers j a call there (ap (row (figures opening now)) (sym is) ∙ ap (λ x. row x call) (sym ran.reckoned) ∙ s.said) (subst (λ c. RightlyTold entry c a) is right) ran.answered;
        reckoned = s.reckoned ∙ ap (figures opening) (sym grown);
        lawful = subst (LawfulJournal opening) (sym grown) s.lawful;
      })
