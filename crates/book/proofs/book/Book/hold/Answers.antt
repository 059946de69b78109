use Rattle.book.proofs.Calls.{held}
use Rattle.book.proofs.book.Book.hold.Goals as goal

pub invariant_of-self : goal.invariant_of-self
invariant_of-self c = record { sound = (held c.args.self.now.sound c.hold.new.self c.args.receipt.0 c.args.held c.hold.result c.hold.ensures.value c.hold.ensures.after).sound }
