-- What follows from the figures of a day: what is due to a party, what the operator takes, and what the settlements booked.
use Rattle.std.specs.Prelude.{ℕ, cond, [], ◌∷◌, ℤ, pos, ◌+ℤ◌, Some, None, Option, ◌==◌}
use Rattle.market.specs.Figures.{price_setting_minutes}
use Rattle.timetable.specs.Opening.{Opening}
use Rattle.integers.specs.Sums.{sum_to}
use Rattle.pricing.specs.declared.Facts.{Facts}
use Rattle.pricing.specs.declared.Prices.{Prices}
use Rattle.settlement.specs.Hour.{Hour}
use Rattle.settlement.specs.Payments.{due_to, operator_takes}
use Rattle.journal.specs.Figures.{Figures, hour_at, facts_at}
use Rattle.journal.specs.Journal.{Entry, Journal, Settled, figures}

-- what a settlement at these prices comes to in an hour
abbrev pub Booking : Type 0
Booking = Prices → Facts → Hour → ℤ

-- for a party
abbrev pub due_to_party : ℕ → Booking
due_to_party p prices facts hour = due_to price_setting_minutes facts prices hour p

-- for the operator
abbrev pub taken : Booking
taken prices facts hour = operator_takes price_setting_minutes facts prices hour

-- of an hour, as the figures stand: nothing where it is not settled
abbrev pub if_settled : Option Prices → (Prices → ℤ) → ℤ
if_settled None x = pos 0
if_settled (Some prices) x = x prices

abbrev pub settled_at : Booking → Figures → ℕ → ℤ
settled_at booking f h = if_settled (f.settled h) (λ prices. booking prices (facts_at f h) (hour_at f h))

-- the account of a party, and the operator's: the sum over the settled hours
abbrev pub account_at : Figures → ℕ → ℤ
account_at f p = sum_to f.opening.hours (settled_at (due_to_party p) f)

abbrev pub operator_at : Figures → ℤ
operator_at f = sum_to f.opening.hours (settled_at taken f)

-- what an accepted call books: only a settlement books anything, at the prices of its policy for the hour's facts
abbrev pub booked : Booking → Entry → Figures → ℤ
booked booking (Settled h m) f = booking (m (facts_at f h)) (facts_at f h) (hour_at f h)
booked booking _ f = pos 0

-- what the settlements booked, each when it was made
unfoldable pub booked_in : Booking → Opening → Journal → ℤ
booked_in booking opening [] = pos 0
booked_in booking opening (entry ∷ journal) = booked_in booking opening journal +ℤ booked booking entry (figures opening journal)

-- the accounts
abbrev pub account : Opening → Journal → ℕ → ℤ
account opening journal p = booked_in (due_to_party p) opening journal

abbrev pub operator_account : Opening → Journal → ℤ
operator_account opening journal = booked_in taken opening journal

-- the meaning of the policy under which a call settled that hour, if it did, else the one before it
abbrev pub policy_by : Entry → ℕ → Option (Facts → Prices) → Option (Facts → Prices)
policy_by (Settled h m) k before = cond (k == h) (Some m) before
policy_by _ k before = before

-- the policy of a settled hour
abbrev pub policy_of : Journal → ℕ → Option (Facts → Prices)
policy_of [] k = None
policy_of (entry ∷ journal) k = policy_by entry k (policy_of journal k)

-- its prices for these facts
abbrev pub prices_under : Option (Facts → Prices) → Facts → Option Prices
prices_under None facts = None
prices_under (Some m) facts = Some (m facts)
