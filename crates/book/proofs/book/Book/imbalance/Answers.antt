use Rattle.std.proofs.Common.{subst}
use Rattle.timetable.specs.View.{times}
use Rattle.notices.specs.Kept.{kept}
use Rattle.register.specs.Registered.{registered}
use Rattle.settlement.specs.Hour.{imbalance}
use Rattle.billing.specs.Booked.{hour_for}
use Rattle.billing.specs.Capped.{Held}
use Rattle.book.proofs.Asked.{imbalance_shown}
use Rattle.book.proofs.book.Book.imbalance.Goals as goal

pub returns : goal.returns
returns c stage settled =
    let b = c.args.self.now in
    let m = c.metered.result in
    let own = c.metered.ensures in
    let there = subst (λ hour. Held (imbalance hour c.args.portfolio m.party.0) c.imbalance.result.0) (c.hour_book.ensures m) c.imbalance.ensures in
    imbalance_shown b.timetable b.positions b.notices b.ladder b.register c.args.hour c.args.party.0 m own.plan own.produced own.consumed stage settled c.args.portfolio c.imbalance.result.0 b.sound
    (subst (λ p. Held (imbalance (hour_for c.args.hour (times b.timetable).parties m (kept b.notices) (registered b.register)) c.args.portfolio p.0) c.imbalance.result.0) own.party there)
