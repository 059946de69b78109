-- Which row refuses each call of a day, from its figures: none, where the call is accepted.
use Rattle.std.specs.Prelude.{ℕ, Bool, ◌&&◌, length, ℤ, is_some, Option, nat_lt}
use Rattle.refusal.specs.declared.Refusal.{Refusal}
use Rattle.market.specs.declared.words.Activation.{Activation}
use Rattle.market.specs.declared.words.Bid.{Bid}
use Rattle.market.specs.declared.words.Direction.{Direction}
use Rattle.market.specs.Figures.{most_activations}
use Rattle.ladder.specs.declared.offer.Offer.{Offer}
use Rattle.ladder.specs.Ladder.{bids_of, first_free, has_space, standing_with}
use Rattle.notices.specs.declared.notice.Notice.{Notice}
use Rattle.notices.specs.Kept.{place_for}
use Rattle.positions.specs.Tables.{complete_to}
use Rattle.timetable.specs.Opening.{enter_row, clock_row}
use Rattle.rows.specs.Rows.{plan_row, notice_row, bid_row, withdraw_row, hold_row, activate_row, special_row, reading_row, settle_row, facts_row, imbalance_row, account_row}
use Rattle.journal.specs.Figures.{Figures, times_of}

-- the bid that an activation would take
abbrev pub first_of : Figures → ℕ → Direction → Option Bid
first_of f h direction = first_free h (bids_of direction f.bids)

abbrev pub has_place : Figures → Bool
has_place f = nat_lt (length f.activations) most_activations

abbrev pub is_settled : Figures → ℕ → Bool
is_settled f h = is_some (f.settled h)

-- both readings of every entered party are there
abbrev pub is_complete : Figures → ℕ → Bool
is_complete f h = complete_to f.parties (f.produced h) (f.consumed h)

abbrev pub enter_refused : Figures → Option Refusal
enter_refused f = enter_row (times_of f)

abbrev pub clock_refused : Figures → ℤ → Option Refusal
clock_refused f t = clock_row (times_of f) t

abbrev pub plan_refused : Figures → ℕ → ℕ → ℤ → Option Refusal
plan_refused f h p x = plan_row (times_of f) h p x

abbrev pub notice_refused : Figures → Notice → Option Refusal
notice_refused f n = notice_row (times_of f) n (place_for n f.notices)

abbrev pub bid_refused : Figures → Offer → Option Refusal
bid_refused f offer = bid_row (times_of f) offer (has_space f.bids)

abbrev pub withdraw_refused : Figures → ℕ → Option Refusal
withdraw_refused f receipt = withdraw_row (times_of f) (standing_with receipt f.bids)

abbrev pub hold_refused : Figures → ℕ → Option Refusal
hold_refused f receipt = hold_row (standing_with receipt f.bids)

abbrev pub activate_refused : Figures → ℕ → Direction → ℕ → ℕ → Option Refusal
activate_refused f h direction first last = activate_row (times_of f) h first last (has_place f) (is_some (first_of f h direction))

abbrev pub special_refused : Figures → Activation → Option Refusal
special_refused f a = special_row (times_of f) a (has_place f)

abbrev pub reading_refused : Figures → ℕ → ℕ → ℤ → Option Refusal
reading_refused f h p x = reading_row (times_of f) h p x (is_settled f h)

abbrev pub settle_refused : Figures → ℕ → Option Refusal
settle_refused f h = settle_row (times_of f) h (is_settled f h) (is_complete f h)

-- the questions

abbrev pub facts_refused : Figures → ℕ → Option Refusal
facts_refused f h = facts_row (times_of f) h

-- both readings of the party must be there, whichever portfolio is asked for
abbrev pub imbalance_refused : Figures → ℕ → ℕ → Option Refusal
imbalance_refused f h p = imbalance_row (times_of f) h p (is_some (f.produced h p) && is_some (f.consumed h p))

abbrev pub account_refused : Figures → ℕ → Option Refusal
account_refused f p = account_row (times_of f) p
