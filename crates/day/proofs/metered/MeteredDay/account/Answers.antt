use Rattle.std.proofs.Common.{◌≡◌, not, ltb, None, ap, ◌∙◌}
use Rattle.std.proofs.lemmas.Bool.{not-false}
use Rattle.refusal.specs.declared.Refusal.TheVariants.{UnknownParty}
use Rattle.refusal.proofs.Outcomes.{accepted}
use Rattle.timetable.specs.View.{times}
use Rattle.timetable.proofs.Rows.{passed}
use Rattle.units.specs.declared.Mills.{Mills}
use Rattle.rows.specs.Rows.{account_row, checked}
use Rattle.rows.proofs.Checked.{lets_through}
use Rattle.journal.specs.Reckoned.{account_at}
use Rattle.journal.specs.Refused.{account_refused}
use Rattle.day.specs.Parts.{metered_of}
use Rattle.day.proofs.Reckoning.{account_is}
use Rattle.day.proofs.metered.MeteredDay.account.Goals as goal

pub returns : goal.returns
returns c =
    let day = c.args.self.now in
    let b = day.book in
    let a = day.accounts in
    let p = c.args.party.0 in
    let f = metered_of b a in
    let none = lets_through _ _ (c.in_ok-check_party.ensures ∙ ap (λ x. checked (account_row (times x) p)) c.timetable.ensures) in
    let entered = not-false (ltb p f.parties) (passed (not (ltb p f.parties)) UnknownParty None none).0 in
    accepted {X = Mills} (account_refused f p) Unit (λ amount. amount.0 ≡ account_at f p) c.amount.result none (account_is b a p c.amount.result.0 day.reckoned entered c.amount.ensures)
