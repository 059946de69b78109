use Rattle.std.proofs.Common.{◌≡◌, refl, ◌∙◌, subst, arith}
use Rattle.market.specs.Figures.{price_setting_minutes}
use Rattle.timetable.specs.View.{times}
use Rattle.settlement.specs.Payments.{due_to}
use Rattle.journal.specs.Figures.{hour_at}
use Rattle.book.specs.Bills.{Billed}
use Rattle.book.specs.View.{shown}
use Rattle.book.proofs.Bills.{billed_none, billed_more}
use Rattle.book.proofs.book.Book.bill.Goals as goal

pub loop-number-init : goal.loop-number-init
loop-number-init c = (refl, λ known roomy stage settled. billed_none _ c.args.accounts.now)

pub loop-number-preserved : goal.loop-number-preserved
loop-number-preserved c =
    let b = c.args.self.now in
    let parties = c.parties-number-end.ensures in (
      c.book.ensures.booked.settled ∙ c.loop-number.invariant.0,
      λ known roomy stage settled.
          billed_more b.timetable b.positions b.notices b.ladder b.register b.sound stage settled c.args.hour c.args.priced.now.facts c.args.priced.now.prices known
          c.args.accounts.now c.loop-number.accounts c.book.new.self c.loop-number.number c.due-due.result.0
          (omega (arith, c.loop-number-test.true, parties.value)) (omega (arith, parties.most, parties.value)) roomy
          (c.loop-number.invariant.1 known roomy stage settled) (c.due-due.ensures known stage settled) c.book.ensures.exactly,
    )

pub returns : goal.returns
returns c =
    let b = c.args.self.now in
    let last : c.loop-number.number ≡ (times b.timetable).parties = omega (arith, c.parties-number-end.ensures.value) in
    record {
      settled = c.loop-number.invariant.0;
      billed = λ known roomy stage settled.
          subst (λ n. Billed n (due_to price_setting_minutes c.args.priced.now.facts c.args.priced.now.prices (hour_at (shown stage settled b) c.args.hour.0)) c.args.accounts.now c.loop-number.accounts) last (c.loop-number.invariant.1 known roomy stage settled);
    }
