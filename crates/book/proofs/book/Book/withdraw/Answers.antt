use Rattle.rows.proofs.Checked.{lets_through}
use Rattle.book.proofs.Calls.{withdrawn}
use Rattle.book.proofs.book.Book.withdraw.Goals as goal

pub invariant_of-self : goal.invariant_of-self
invariant_of-self c =
    let none = lets_through _ _ (rw c.find-standing.ensures at c.in_ok-check_withdraw.ensures) in
    record { sound = (withdrawn c.args.self.now.sound c.withdraw.new.self c.args.receipt.0 none c.withdraw.ensures.after).sound }
