use Rattle.std.proofs.Common.{◌≡◌, Bool, ℤ, ℕ, Result, sym, refl}
use Rattle.refusal.specs.declared.Refusal.{Refusal}
use Rattle.accounts.specs.Booked.{settled_of}
use Rattle.positions.specs.declared.record.Meter.{Meter}
use Rattle.journal.specs.Figures.{Metered}
use Rattle.journal.specs.Journal.{Reading}
use Rattle.journal.specs.Made.{Made}
use Rattle.journal.specs.Refused.{is_settled, reading_refused}
use Rattle.book.specs.declared.book.Book.{Book}
use Rattle.book.specs.View.{AcrossEveryView, Called}
use Rattle.day.specs.declared.metered.MeteredDay.{MeteredDay}
use Rattle.day.specs.Parts.{metered_of}
use Rattle.day.specs.View.{metered}
use Rattle.day.proofs.Reckoning.{read_reckoned}
use Rattle.day.proofs.Stages.{staged}
use Rattle.day.proofs.metered.MeteredDay.read.Goals as goal

made : (day : MeteredDay) (d : Book) (h p : ℕ) (meter : Meter) (x : ℤ) (r : Result Unit Refusal) (settled : Bool) → settled ≡ is_settled (metered day) h
    → AcrossEveryView day.book d (λ f g. is_settled f h ≡ settled → Called (reading_refused f h p x) (λ _. Reading h p meter x) r f g)
    → Made {X = Unit} (reading_refused (metered day) h p x) (λ _. Reading h p meter x) r (metered day) (metered_of d day.accounts)
made day d h p meter x r settled is called =
    staged {X = Unit} (reading_refused (metered day) h p x) (λ _. Reading h p meter x) r (metered day) (metered_of d day.accounts) (λ _. refl) (called Metered (settled_of day.accounts) (sym is))

pub invariant_of-self : goal.invariant_of-self
invariant_of-self c =
    let a = c.args in
    let day = a.self.now in
    record {
      reckoned = read_reckoned day.book c.read.new.self day.accounts _ c.read.result a.hour.0 a.party.0 a.meter a.energy.0
          (made day c.read.new.self a.hour.0 a.party.0 a.meter a.energy.0 c.read.result _ c.is_settled-settled.ensures c.read.ensures) day.reckoned;
    }

pub returns : goal.returns
returns c =
    let a = c.args in
    made a.self.now c.read.new.self a.hour.0 a.party.0 a.meter a.energy.0 c.read.result _ c.is_settled-settled.ensures c.read.ensures
