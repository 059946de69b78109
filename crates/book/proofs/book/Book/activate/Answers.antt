use Rattle.std.proofs.Common.{pos, refl}
use Rattle.units.specs.declared.KilowattHours.{KilowattHours}
use Rattle.units.specs.declared.Receipt.{Receipt}
use Rattle.market.specs.Words.{energy_of}
use Rattle.rows.proofs.Checked.{lets_through}
use Rattle.journal.specs.Journal.{Activated}
use Rattle.book.proofs.Calls.{activated, stopped}
use Rattle.book.proofs.book.Book.activate.Goals as goal

pub returns-in_err-check_activate : goal.returns-in_err-check_activate
returns-in_err-check_activate c stage settled =
    stopped _ (λ (x : Receipt × KilowattHours). Activated c.args.hour c.args.direction c.args.minutes.first c.args.minutes.last x.0.0 x.1.0) _ _ _ c.from_residual.ensures.1
    (rw (c.has_room-room.ensures, c.is_some-found.ensures, c.first_free.ensures.value) at c.in_err-check_activate.ensures)

pub invariant_of-self-2 : goal.invariant_of-self-2
invariant_of-self-2 c =
    let none = lets_through _ _ (rw (c.has_room-room.ensures, c.is_some-found.ensures, c.first_free.ensures.value) at c.in_ok-check_activate.ensures) in
    let taken = c.take_first.ensures in
    record {
      sound = (activated c.args.self.now.sound c.take_first.new.self c.enter.new.self c.args.hour c.args.direction c.args.minutes.first c.args.minutes.last c.enter.result none
          c.in_ok-bid.ensures.ok_part taken.value taken.side taken.after c.listed-activation.ensures c.enter.ensures (record { 0 = pos (energy_of c.listed-activation.result) }) refl).sound;
    }

pub returns : goal.returns
returns c =
    let none = lets_through _ _ (rw (c.has_room-room.ensures, c.is_some-found.ensures, c.first_free.ensures.value) at c.in_ok-check_activate.ensures) in
    let taken = c.take_first.ensures in
    (activated c.args.self.now.sound c.take_first.new.self c.enter.new.self c.args.hour c.args.direction c.args.minutes.first c.args.minutes.last c.enter.result none
    c.in_ok-bid.ensures.ok_part taken.value taken.side taken.after c.listed-activation.ensures c.enter.ensures c.energy.result c.energy.ensures.value).called
