-- The table of refusals: each case by its number.
use Rattle.std.specs.Prelude.{ℕ}
use Rattle.refusal.specs.declared.Refusal.{Refusal}
use Rattle.refusal.specs.declared.Refusal.TheVariants.{NotInDay, UnknownParty, WrongPair, OutOfRange, TooLate, ClockBack}
use Rattle.refusal.specs.declared.Refusal.TheVariants.{NoRoom, WrongSideOfSpot, NoSuchBid, AlreadySettled, ReadingMissing, SheetTooShort}

abbrev pub refusal_number : Refusal → ℕ
-- a position or a stamp is not in the day, or a run is not as long as the day has hours
refusal_number NotInDay = 1
-- a party is not entered, or the sender or the counterparty of a notice is neither entered nor outside
refusal_number UnknownParty = 2
-- a notice to oneself, from a party to the outside, or between two outside
refusal_number WrongPair = 3
-- a figure is outside its range, or a date has no hours
refusal_number OutOfRange = 4
-- a plan, a notice, a bid or a withdrawal less than 45 minutes before its hour, or an activation that starts before the clock
refusal_number TooLate = 5
-- the clock would go back
refusal_number ClockBack = 6
-- one more is needed than there is room for: a party, a notice, a standing bid, a receipt, an activation, or a list's space
refusal_number NoRoom = 7
-- the price of a bid is on the wrong side of spot
refusal_number WrongSideOfSpot = 8
-- no standing bid has that receipt, or there is none to activate
refusal_number NoSuchBid = 9
-- the hour is settled already
refusal_number AlreadySettled = 10
-- a reading is missing
refusal_number ReadingMissing = 11
-- the buffer for the sheet is too short
refusal_number SheetTooShort = 12
