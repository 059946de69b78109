use Rattle.rows.proofs.Checked.{lets_through}
use Rattle.book.proofs.Calls.{planned}
use Rattle.book.proofs.book.Book.plan.Goals as goal

pub invariant_of-self : goal.invariant_of-self
invariant_of-self c = record { sound = (planned c.args.self.now.sound c.set_plan.new.self c.args.hour.0 c.args.party.0 c.args.energy.0 (lets_through _ _ c.in_ok-check_plan.ensures) c.set_plan.ensures).sound }

pub returns : goal.returns
returns c = (planned c.args.self.now.sound c.set_plan.new.self c.args.hour.0 c.args.party.0 c.args.energy.0 (lets_through _ _ c.in_ok-check_plan.ensures) c.set_plan.ensures).called
