use lib.IntN.{ℤ_set}
use mathlib.Core.Logic.{∥∥₁_elim}
use Rattle.std.proofs.Common.{subst}
use Rattle.timetable.specs.View.{times}
use Rattle.notices.specs.Kept.{kept}
use Rattle.register.specs.Registered.{registered}
use Rattle.billing.specs.Booked.{hour_for, Booked}
use Rattle.book.proofs.Asked.{due_shown}
use Rattle.book.proofs.book.Book.due.Goals as goal

pub returns : goal.returns
returns c known stage settled =
    let b = c.args.self.now in
    let m = c.metered.result in
    let own = c.metered.ensures in
    let terms = c.args.terms.now in
    let prices = c.args.prices.now in
    let booked_there = subst (λ hour. Booked terms.minutes terms.facts prices hour m.party.0 c.due.result.0) (c.hour_book.ensures m) c.due.ensures in
    let booked = subst (λ p. Booked terms.minutes terms.facts prices (hour_for c.args.hour (times b.timetable).parties m (kept b.notices) (registered b.register)) p.0 c.due.result.0) own.party booked_there in
    ∥∥₁_elim b.sound (ℤ_set _ _) (λ s.
    (due_shown b.timetable b.positions b.notices b.ladder b.register c.args.hour c.args.party.0 m own.plan own.produced own.consumed terms.minutes terms.facts prices c.due.result.0 booked s known).0)
