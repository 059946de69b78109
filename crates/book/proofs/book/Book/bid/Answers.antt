use Rattle.units.specs.declared.Receipt.{Receipt}
use Rattle.rows.proofs.Checked.{lets_through}
use Rattle.journal.specs.Journal.{BidAccepted}
use Rattle.book.proofs.Calls.{bidden, stopped}
use Rattle.book.proofs.book.Book.bid.Goals as goal

pub returns-in_err-check_bid : goal.returns-in_err-check_bid
returns-in_err-check_bid c stage settled =
    stopped _ (λ (x : Receipt). BidAccepted c.args.offer x.0) _ _ _ c.from_residual.ensures.1 (rw c.has_room_for_a_bid-room.ensures at c.in_err-check_bid.ensures)

pub invariant_of-self : goal.invariant_of-self
invariant_of-self c =
    let none = lets_through _ _ (rw c.has_room_for_a_bid-room.ensures at c.in_ok-check_bid.ensures) in
    record { sound = (bidden c.args.self.now.sound c.add.new.self c.args.offer c.add.result none c.add.ensures.value c.add.ensures.after).sound }

pub returns : goal.returns
returns c =
    let none = lets_through _ _ (rw c.has_room_for_a_bid-room.ensures at c.in_ok-check_bid.ensures) in
    (bidden c.args.self.now.sound c.add.new.self c.args.offer c.add.result none c.add.ensures.value c.add.ensures.after).called
