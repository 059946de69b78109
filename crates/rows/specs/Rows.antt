-- The rows of each call, top first: the first that applies refuses. Assumes nothing.
use Rattle.std.specs.Prelude.{ℕ, Bool, not, ◌&&◌, ℤ, pos, neg_ℤ, Some, None, Ok, Err, Option, Result}
use Rattle.refusal.specs.declared.Refusal.{Refusal}
use Rattle.refusal.specs.declared.Refusal.TheVariants.{NotInDay, UnknownParty, WrongPair, OutOfRange, TooLate, NoRoom, WrongSideOfSpot, NoSuchBid, AlreadySettled, ReadingMissing}
use Rattle.refusal.specs.Rows.{row}
use Rattle.market.specs.declared.words.Activation.{Activation}
use Rattle.market.specs.declared.words.Bid.{Bid}
use Rattle.market.specs.Figures.{plan_limit, notice_limit, reading_limit}
use Rattle.ladder.specs.declared.offer.Offer.{Offer}
use Rattle.notices.specs.declared.notice.Notice.{Notice}
use Rattle.timetable.specs.Opening.{Times, entered, gate_closed, in_day, is_past}
use Rattle.rows.specs.Tests.{between, bid_fits, known, minutes_fit, right_side, special_fits, wrong_pair}

-- what a check answers: the refusal of the row that applies, or that none does
abbrev pub checked : Option Refusal → Result Unit Refusal
checked (Some refusal) = Err refusal
checked None = Ok tt

-- a plan of the energy x
abbrev pub plan_row : Times → ℕ → ℕ → ℤ → Option Refusal
plan_row t h p x =
    row (not (in_day t h)) NotInDay
    (row (not (entered t p)) UnknownParty
    (row (not (between (pos 0) x (pos plan_limit))) OutOfRange
    (row (gate_closed t h) TooLate
    None)))

-- a notice; room: the table of notices takes this one
abbrev pub notice_row : Times → Notice → Bool → Option Refusal
notice_row t n room =
    row (not (in_day t n.hour.0)) NotInDay
    (row (not (known t n.sender.0 && known t n.counterparty.0)) UnknownParty
    (row (wrong_pair n) WrongPair
    (row (not (between (neg_ℤ (pos notice_limit)) n.energy.0 (pos notice_limit))) OutOfRange
    (row (gate_closed t n.hour.0) TooLate
    (row (not room) NoRoom
    None)))))

-- a bid; room: for one more bid and one more receipt
abbrev pub bid_row : Times → Offer → Bool → Option Refusal
bid_row t o room =
    row (not (in_day t o.hour.0)) NotInDay
    (row (not (entered t o.party.0)) UnknownParty
    (row (not (bid_fits o.volume.0 o.price)) OutOfRange
    (row (gate_closed t o.hour.0) TooLate
    (row (not room) NoRoom
    (row (not (right_side o.direction (t.opening.spot o.hour.0) o.price)) WrongSideOfSpot
    None)))))

-- to withdraw the bid that stands under a receipt, if one does
abbrev pub withdraw_row : Times → Option Bid → Option Refusal
withdraw_row t None = Some NoSuchBid
withdraw_row t (Some b) = row (gate_closed t b.hour.0) TooLate None

-- to hold it, or to free it again
abbrev pub hold_row : Option Bid → Option Refusal
hold_row None = Some NoSuchBid
hold_row (Some b) = None

-- an activation from a list; room: for one more activation; found: a bid that can be activated
abbrev pub activate_row : Times → ℕ → ℕ → ℕ → Bool → Bool → Option Refusal
activate_row t h first last room found =
    row (not (in_day t h)) NotInDay
    (row (not (minutes_fit first last)) OutOfRange
    (row (is_past t h first) TooLate
    (row (found && not room) NoRoom
    (row (not found) NoSuchBid
    None))))

-- a special activation; room: for one more activation
abbrev pub special_row : Times → Activation → Bool → Option Refusal
special_row t a room =
    row (not (in_day t a.hour.0)) NotInDay
    (row (not (entered t a.party.0)) UnknownParty
    (row (not (special_fits a)) OutOfRange
    (row (is_past t a.hour.0 a.minutes.first) TooLate
    (row (not room) NoRoom
    None))))

-- a meter reading of the energy x
abbrev pub reading_row : Times → ℕ → ℕ → ℤ → Bool → Option Refusal
reading_row t h p x settled =
    row (not (in_day t h)) NotInDay
    (row (not (entered t p)) UnknownParty
    (row (not (between (pos 0) x (pos reading_limit))) OutOfRange
    (row settled AlreadySettled
    None)))

-- the settlement of an hour; complete: its readings are there
abbrev pub settle_row : Times → ℕ → Bool → Bool → Option Refusal
settle_row t h settled complete =
    row (not (in_day t h)) NotInDay
    (row settled AlreadySettled
    (row (not complete) ReadingMissing
    None))

-- the facts of an hour
abbrev pub facts_row : Times → ℕ → Option Refusal
facts_row t h = row (not (in_day t h)) NotInDay None

-- an imbalance; complete: the party's readings are there
abbrev pub imbalance_row : Times → ℕ → ℕ → Bool → Option Refusal
imbalance_row t h p complete =
    row (not (in_day t h)) NotInDay
    (row (not (entered t p)) UnknownParty
    (row (not complete) ReadingMissing
    None))

-- a party's account
abbrev pub account_row : Times → ℕ → Option Refusal
account_row t p = row (not (entered t p)) UnknownParty None
