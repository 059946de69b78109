-- What a call's acceptance guarantees: no row applied.
use Rattle.std.proofs.Common.{◌≡◌, ℕ, ◌<◌, ◌≤◌, Bool, true, false, ℤ, is_some, Some, None, Option, refl, arith}
use Rattle.std.proofs.lemmas.Int.{ints}
use Rattle.market.specs.declared.words.Activation.{Activation}
use Rattle.market.specs.declared.words.Direction.{Direction}
use Rattle.market.specs.declared.words.Direction.TheVariants.{Up, Down}
use Rattle.market.specs.Figures.{plan_limit, reading_limit, notice_limit, minutes_in_hour, most_parties}
use Rattle.ladder.specs.declared.offer.Offer.{Offer}
use Rattle.ladder.specs.Offered.{bid_of}
use Rattle.notices.specs.declared.notice.Notice.{Notice}
use Rattle.timetable.specs.Opening.{Times, enter_row}
use Rattle.facts.specs.Sound.{OnItsSide}
use Rattle.units.specs.declared.Price.{Price}
use Rattle.integers.specs.Near.{Near}
use Rattle.settlement.specs.Bounds.{FromZero, ActivationFits}
use Rattle.rows.specs.Rows.{plan_row, notice_row, bid_row, activate_row, special_row, reading_row, settle_row}
use Rattle.rows.specs.Tests.{right_side}
use Rattle.journal.specs.Kept.{BidSound}

pub entering : (t : Times) → enter_row t ≡ None → t.parties < most_parties
entering t e = grind (arith, e)

pub planning : (t : Times) (h p : ℕ) (x : ℤ) → plan_row t h p x ≡ None → FromZero plan_limit x
planning t h p x e = record { low = grind (arith, ints, e); high = grind (arith, ints, e) }

pub noticing : (t : Times) (n : Notice) (room : Bool) → notice_row t n room ≡ None → Near notice_limit n.energy.0
noticing t n room e = record { low = grind (arith, ints, e); high = grind (arith, ints, e) }

on_side : (d : Direction) (spot p : Price) → right_side d spot p ≡ true → OnItsSide d spot p
on_side Up spot p e = grind (arith, ints, e)
on_side Down spot p e = grind (arith, ints, e)

pub bidding : (t : Times) (offer : Offer) (room : Bool) (receipt : ℕ) → bid_row t offer room ≡ None → BidSound t.opening t.parties (bid_of receipt offer)
bidding t o room receipt e =
    record {
      in_the_day = grind (arith, e);
      entered = grind (arith, e);
      enough = grind (arith, e);
      most = grind (arith, e);
      price_within = record { low = grind (arith, ints, e); high = grind (arith, ints, e) };
      side = on_side o.direction (t.opening.spot o.hour.0) o.price (grind (arith, e));
    }

pub activating : (t : Times) (h first last : ℕ) (room found : Bool) → activate_row t h first last room found ≡ None → (first < last) × (last ≤ minutes_in_hour)
activating t h first last room found e = (grind (arith, ints, e), grind (arith, ints, e))

-- there is room for what an activation takes
pub has_room : (t : Times) (h first last : ℕ) (room found : Bool) → activate_row t h first last room found ≡ None → found ≡ true → room ≡ true
has_room t h first last room found e f = grind (arith, e, f)

pub specially : (t : Times) (a : Activation) (room : Bool) → special_row t a room ≡ None → (a.party.0 < t.parties) × ActivationFits a × (room ≡ true)
specially t a room e = (
  grind (arith, e),
  record { volume = grind (arith, e); minutes = grind (arith, e); price = record { low = grind (arith, ints, e); high = grind (arith, ints, e) } },
  grind (arith, e),
)

pub reading : (t : Times) (h p : ℕ) (x : ℤ) (settled : Bool) → reading_row t h p x settled ≡ None → FromZero reading_limit x × (settled ≡ false)
reading t h p x settled e = (record { low = grind (arith, ints, e); high = grind (arith, ints, e) }, grind (arith, e))

pub settling : (t : Times) (h : ℕ) (settled complete : Bool) → settle_row t h settled complete ≡ None → (h < t.opening.hours) × (settled ≡ false) × (complete ≡ true)
settling t h settled complete e = (grind (arith, e), grind (arith, e), grind (arith, e))

-- an hour that is not settled has no prices
pub none_of : {X : Type 0} (o : Option X) → is_some o ≡ false → o ≡ None
none_of None e = refl
none_of (Some x) e = cc
