-- A call keeps what every run keeps.
use Rattle.std.proofs.Common.{ℕ, Some, None, Ok, Err, Option, Result, sym, refl, subst}
use mathlib.Core.Logic.{∥∥₁_map}
use Rattle.refusal.specs.declared.Refusal.{Refusal}
use Rattle.timetable.specs.declared.timetable.Timetable.{Timetable}
use Rattle.positions.specs.declared.table.PositionTable.{PositionTable}
use Rattle.notices.specs.declared.table.NoticeTable.{NoticeTable}
use Rattle.ladder.specs.declared.ladder.Ladder.{Ladder}
use Rattle.register.specs.declared.register.Register.{Register}
use Rattle.pricing.specs.declared.Prices.{Prices}
use Rattle.journal.specs.Figures.{Stage, Figures}
use Rattle.journal.specs.Journal.{Entry}
use Rattle.journal.specs.Lawful.{InStage}
use Rattle.journal.specs.Kept.{Kept}
use Rattle.journal.proofs.Kept.{kept_after, none_settled}
use Rattle.book.specs.Parts.{figures_of, Sound}
use Rattle.book.specs.View.{Called}

pub through : {X : Type 0} (row : Option Refusal) (entry : X → Entry) (r : Result X Refusal) (f g : Figures) → ((x : X) → InStage (entry x) f.stage) → Called row entry r f g → Kept f → Kept g
through (Some refusal) entry r f g stage c k = subst Kept (sym c.1) k
through None entry (Ok x) f g stage c k = subst Kept (sym c.1) (kept_after (entry x) f k (stage x, c.0))
through None entry (Err refusal) f g stage c k = absurd c

-- nothing is settled
abbrev pub unsettled : ℕ → Option Prices
unsettled h = None

module _ (stage : Stage) (t : Timetable) (p : PositionTable) (n : NoticeTable) (l : Ladder) (r : Register) where
  pub kept_of : Sound t p n l r → Kept (figures_of stage unsettled t p n l r)
  kept_of s = record { terms = s.terms; energies = s.energies; trades = s.trades; settlements = none_settled _ (λ h. refl) }

  pub sound_of : (settled : ℕ → Option Prices) → Kept (figures_of stage settled t p n l r) → Sound t p n l r
  sound_of settled k = record { terms = k.terms; energies = k.energies; trades = k.trades }

module _ {t t' : Timetable} {p p' : PositionTable} {n n' : NoticeTable} {l l' : Ladder} {r r' : Register} (old : ∥ Sound t p n l r ∥₁) where
  -- what a call at a stage of the day leaves sound
  pub still_sound : {X : Type 0} (stage : Stage) (row : Option Refusal) (entry : X → Entry) (result : Result X Refusal)
      → ((x : X) → InStage (entry x) stage) → Called row entry result (figures_of stage unsettled t p n l r) (figures_of stage unsettled t' p' n' l' r') → ∥ Sound t' p' n' l' r' ∥₁
  still_sound stage row entry result at called =
      ∥∥₁_map old (λ s. sound_of stage t' p' n' l' r' unsettled (through row entry result (figures_of stage unsettled t p n l r) (figures_of stage unsettled t' p' n' l' r') at called (kept_of stage t p n l r s)))

-- what a call comes to in every view of the parts before it and after it, and what it leaves sound
pub record Turned (X : Type 0) (refused : Figures → Option Refusal) (entry : X → Entry) (result : Result X Refusal) (t t' : Timetable) (p p' : PositionTable) (n n' : NoticeTable) (l l' : Ladder) (r r' : Register) : Type 0 where
  pub called : (stage : Stage) (settled : ℕ → Option Prices) → Called (refused (figures_of stage settled t p n l r)) entry result (figures_of stage settled t p n l r) (figures_of stage settled t' p' n' l' r')
  pub sound : ∥ Sound t' p' n' l' r' ∥₁

pub turned : {X : Type 0} {refused : Figures → Option Refusal} {entry : X → Entry} {result : Result X Refusal} {t t' : Timetable} {p p' : PositionTable} {n n' : NoticeTable} {l l' : Ladder} {r r' : Register}
    → ∥ Sound t p n l r ∥₁ → (stage : Stage) → ((x : X) → InStage (entry x) stage)
    → ((stage : Stage) (settled : ℕ → Option Prices) → Called (refused (figures_of stage settled t p n l r)) entry result (figures_of stage settled t p n l r) (figures_of stage settled t' p' n' l' r'))
    → Turned X refused entry result t t' p p' n n' l l' r r'
turned {X} {refused} {entry} {result} {t} {t'} {p} {p'} {n} {n'} {l} {l'} {r} {r'} old stage at called =
    record { called = called; sound = still_sound old stage (refused (figures_of stage unsettled t p n l r)) entry result at (called stage unsettled) }
