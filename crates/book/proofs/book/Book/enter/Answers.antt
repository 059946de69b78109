use Rattle.book.proofs.Calls.{entered}
use Rattle.book.proofs.book.Book.enter.Goals as goal

pub invariant_of-self : goal.invariant_of-self
invariant_of-self c = record { sound = (entered c.args.self.now.sound c.enter.new.self c.enter.result c.enter.ensures).sound }
