use Rattle.std.proofs.Common.{◌≡◌, ℕ, Bool, refl, ap, ◌∙◌}
use Rattle.std.proofs.lemmas.Result.{err_from_is_err_and}
use Rattle.refusal.proofs.Outcomes.{refused}
use Rattle.accounts.specs.Booked.{settled_of}
use Rattle.timetable.specs.declared.timetable.Timetable.{Timetable}
use Rattle.timetable.specs.View.{times}
use Rattle.rows.specs.Rows.{checked, settle_row}
use Rattle.rows.proofs.Checked.{lets_through, refuses}
use Rattle.pricing.specs.Policies.{priced_by}
use Rattle.journal.specs.Figures.{Metered}
use Rattle.journal.specs.Journal.{Settled, after}
use Rattle.journal.specs.Lawful.{Lawful}
use Rattle.journal.specs.Refused.{is_settled, is_complete, settle_refused}
use Rattle.day.specs.declared.metered.MeteredDay.{MeteredDay}
use Rattle.day.specs.View.{metered}
use Rattle.day.proofs.Reckoning.{settled_made, settled_reckoned}
use Rattle.day.proofs.metered.MeteredDay.settle.Goals as goal

-- the row that the check looks at is the one that refuses the call
row : (day : MeteredDay) (h : ℕ) (t : Timetable) (settled complete : Bool) → t ≡ day.book.timetable → settled ≡ is_settled (metered day) h → complete ≡ is_complete (metered day) h
    → checked (settle_row (times t) h settled complete) ≡ checked (settle_refused (metered day) h)
row day h t settled complete shows is_in whole = cc

pub returns-in_err-check_settle : goal.returns-in_err-check_settle
returns-in_err-check_settle g c =
    let f = metered c.args.self.now in
    let h = c.args.hour.0 in
    let m = g.P.Policy.meaning c.args.policy.now in
    let p = err_from_is_err_and c.from_residual.result c.from_residual.ensures.1 in
    let why = refuses _ c.in_err-check_settle.field-0.0 (c.in_err-check_settle.ensures ∙ row c.args.self.now h _ _ _ c.timetable.ensures c.is_settled-settled.ensures (c.is_complete-complete.ensures Metered (settled_of c.args.self.now.accounts))) in
    rw (p.1, p.2) (refused {X = Unit} (settle_refused f h) (f ≡ f) (λ _. Lawful (Settled h m) f × (f ≡ after (Settled h m) f)) c.in_err-check_settle.field-0.0 why refl)

pub invariant_of-self : goal.invariant_of-self
invariant_of-self g c =
    let day = c.args.self.now in
    record {
      reckoned = settled_reckoned day.book day.accounts c.bill.new.accounts c.settle.new.self c.args.hour.0 c.by-priced.result (g.P.Policy.meaning c.args.policy.now) (g.met.P.Policy.rules c.args.policy.now)
          (lets_through _ _ (c.in_ok-check_settle.ensures ∙ row day c.args.hour.0 _ _ _ c.timetable.ensures c.is_settled-settled.ensures (c.is_complete-complete.ensures Metered (settled_of day.accounts)))) (c.by-priced.ensures.hour ∙ ap (priced_by (g.P.Policy.meaning c.args.policy.now)) (c.facts.ensures Metered (settled_of day.accounts)))
          c.bill.ensures.settled c.settle.ensures (λ known roomy. c.bill.ensures.billed known roomy Metered (settled_of day.accounts)) day.reckoned;
    }

pub returns : goal.returns
returns g c =
    let day = c.args.self.now in
    settled_made day.book day.accounts c.bill.new.accounts c.settle.new.self c.args.hour.0 c.by-priced.result (g.P.Policy.meaning c.args.policy.now) (g.met.P.Policy.rules c.args.policy.now)
    (lets_through _ _ (c.in_ok-check_settle.ensures ∙ row day c.args.hour.0 _ _ _ c.timetable.ensures c.is_settled-settled.ensures (c.is_complete-complete.ensures Metered (settled_of day.accounts)))) (c.by-priced.ensures.hour ∙ ap (priced_by (g.P.Policy.meaning c.args.policy.now)) (c.facts.ensures Metered (settled_of day.accounts)))
    c.bill.ensures.settled c.settle.ensures
