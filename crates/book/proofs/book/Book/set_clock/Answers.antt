use Rattle.book.proofs.Calls.{clocked}
use Rattle.book.proofs.book.Book.set_clock.Goals as goal

pub invariant_of-self : goal.invariant_of-self
invariant_of-self c = record { sound = (clocked c.args.self.now.sound c.set_clock.new.self c.args.instant.0 c.set_clock.result c.set_clock.ensures).sound }
