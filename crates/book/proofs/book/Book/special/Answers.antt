use Rattle.std.proofs.Common.{pos, refl}
use Rattle.units.specs.declared.KilowattHours.{KilowattHours}
use Rattle.market.specs.Words.{energy_of}
use Rattle.rows.proofs.Checked.{lets_through}
use Rattle.journal.specs.Journal.{Special, special_of}
use Rattle.book.proofs.Calls.{specially, stopped}
use Rattle.book.proofs.book.Book.special.Goals as goal

pub returns-in_err-check_special : goal.returns-in_err-check_special
returns-in_err-check_special c stage settled =
    stopped _ (λ (x : KilowattHours). Special (special_of c.args.offer c.args.minutes.first c.args.minutes.last) x.0) _ _ _ c.from_residual.ensures.1
    (rw (c.has_room-room.ensures, c.special-activation.ensures) at c.in_err-check_special.ensures)

pub invariant_of-self : goal.invariant_of-self
invariant_of-self c =
    let a = special_of c.args.offer c.args.minutes.first c.args.minutes.last in
    let none = lets_through _ _ (rw (c.has_room-room.ensures, c.special-activation.ensures) at c.in_ok-check_special.ensures) in
    record { sound = (specially c.args.self.now.sound c.enter.new.self a (record { 0 = pos (energy_of a) }) c.enter.result none refl refl (rw c.special-activation.ensures at c.enter.ensures)).sound }
