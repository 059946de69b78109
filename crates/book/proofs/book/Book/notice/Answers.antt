use Rattle.rows.proofs.Checked.{lets_through}
use Rattle.journal.specs.Journal.{Noticed}
use Rattle.book.proofs.Calls.{noticed, stopped}
use Rattle.book.proofs.book.Book.notice.Goals as goal

pub returns-in_err-check_notice : goal.returns-in_err-check_notice
returns-in_err-check_notice c stage settled =
    stopped {X = Unit} _ (λ _. Noticed c.args.notice) _ _ _ c.from_residual.ensures.1 (rw c.has_place_for-room.ensures at c.in_err-check_notice.ensures)

pub invariant_of-self : goal.invariant_of-self
invariant_of-self c =
    let none = lets_through _ _ (rw c.has_place_for-room.ensures at c.in_ok-check_notice.ensures) in
    record { sound = (noticed c.args.self.now.sound c.take.new.self c.args.notice c.take.result none c.take.ensures.outcome).sound }

pub returns : goal.returns
returns c =
    let none = lets_through _ _ (rw c.has_place_for-room.ensures at c.in_ok-check_notice.ensures) in
    (noticed c.args.self.now.sound c.take.new.self c.args.notice c.take.result none c.take.ensures.outcome).called
