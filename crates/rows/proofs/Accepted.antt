-- What acceptance guarantees: where no row of a call refuses, these facts hold.
use Rattle.std.proofs.Common.{◌≡◌, ℕ, ◌<◌, ◌≤◌, Bool, true, false, not, ◌&&◌, eqb, ltb, leb, ◌⊎◌, ℤ, pos, ◌+ℤ◌, ◌-ℤ◌, neg_ℤ, ◌≤ℤ◌, nat_le, Some, None, Option, refl, inl, inr, ⊎_elim, arith}
use lib.Signed.{le_z, lt_z}
use Rattle.std.proofs.lemmas.Int.{ints}
use Rattle.std.proofs.lemmas.Bool.{and_cases, and_parts, both_ways, eqb-false, leb-true, ltb-true, not-false, or_cases, or_parts}
use Rattle.units.specs.declared.Price.{Price}
use Rattle.refusal.specs.declared.Refusal.{Refusal}
use Rattle.refusal.specs.declared.Refusal.TheVariants.{NotInDay, UnknownParty, WrongPair, OutOfRange, TooLate, NoRoom, WrongSideOfSpot, NoSuchBid, AlreadySettled, ReadingMissing}
use Rattle.refusal.specs.Rows.{row}
use Rattle.market.specs.declared.words.Activation.{Activation}
use Rattle.market.specs.declared.words.Bid.{Bid}
use Rattle.market.specs.declared.words.Direction.{Direction}
use Rattle.market.specs.declared.words.Direction.TheVariants.{Up, Down}
use Rattle.market.specs.Figures.{gate_minutes, plan_limit, notice_limit, reading_limit, least_bid_volume, greatest_bid_volume, least_special_volume, greatest_special_volume, minutes_in_hour}
use Rattle.ladder.specs.declared.offer.Offer.{Offer}
use Rattle.notices.specs.declared.notice.Notice.{Notice}
use Rattle.timetable.specs.Opening.{Times, entered, gate_closed, hour_start, in_day, is_past}
use Rattle.timetable.specs.Prices.{Within, within_limit}
use Rattle.timetable.proofs.Days.{within_fact}
use Rattle.timetable.proofs.Rows.{passed}
use Rattle.rows.specs.Rows.{plan_row, notice_row, bid_row, withdraw_row, hold_row, activate_row, special_row, reading_row, settle_row, facts_row, imbalance_row, account_row}
use Rattle.rows.specs.Tests.{between, bid_fits, known, minutes_fit, outside, right_side, special_fits, wrong_pair}

-- What the tests say.

pub le_from : (a b : ℤ) → le_z a b ≡ true → a ≤ℤ b
le_from a b e = grind (arith, ints)

pub between_from : (least x greatest : ℤ) → between least x greatest ≡ true → (least ≤ℤ x) × (x ≤ℤ greatest)
between_from least x greatest e = let a = and_parts (le_z least x) (le_z x greatest) e in (le_from least x a.0, le_from x greatest a.1)

pub hour_from : (t : Times) (h : ℕ) → not (in_day t h) ≡ false → h < t.opening.hours
hour_from t h e = ltb-true h t.opening.hours (not-false (in_day t h) e)

pub party_from : (t : Times) (p : ℕ) → not (entered t p) ≡ false → p < t.parties
party_from t p e = ltb-true p t.parties (not-false (entered t p) e)

-- past a row that wants a test, the test holds
tested : (test : Bool) (refusal : Refusal) (below : Option Refusal) → row (not test) refusal below ≡ None → (test ≡ true) × (below ≡ None)
tested true refusal below e = (refl, e)
tested false refusal below e = absurd (let z : ◌≡◌ {A = ℕ} 0 1 = cc in omega arith)

pub hour_passed : (t : Times) (h : ℕ) (below : Option Refusal) → row (not (in_day t h)) NotInDay below ≡ None → (h < t.opening.hours) × (below ≡ None)
hour_passed t h below e = let a = passed (not (in_day t h)) NotInDay below e in (hour_from t h a.0, a.1)

pub party_passed : (t : Times) (p : ℕ) (below : Option Refusal) → row (not (entered t p)) UnknownParty below ≡ None → (p < t.parties) × (below ≡ None)
party_passed t p below e = let a = passed (not (entered t p)) UnknownParty below e in (party_from t p a.0, a.1)

pub hour_and_party_passed : (t : Times) (h p : ℕ) (below : Option Refusal) → row (not (in_day t h)) NotInDay (row (not (entered t p)) UnknownParty below) ≡ None
    → (h < t.opening.hours) × (p < t.parties) × (below ≡ None)
hour_and_party_passed t h p below e =
    let a = hour_passed t h _ e in
    let b = party_passed t p below a.1 in
    (a.0, b.0, b.1)

pub energy_passed : (least x greatest : ℤ) (below : Option Refusal) → row (not (between least x greatest)) OutOfRange below ≡ None → (least ≤ℤ x) × (x ≤ℤ greatest) × (below ≡ None)
energy_passed least x greatest below e =
    let a = tested (between least x greatest) OutOfRange below e in
    let b = between_from least x greatest a.0 in
    (b.0, b.1, a.1)

-- the clock stands at least 45 minutes before the hour
pub gate_from : (t : Times) (h : ℕ) → gate_closed t h ≡ false → (t.clock +ℤ pos gate_minutes) ≤ℤ hour_start t h
gate_from t h e = from (hour_start t h) t.clock e
  where
    from : (a b : ℤ) → lt_z (a -ℤ b) (pos gate_minutes) ≡ false → (b +ℤ pos gate_minutes) ≤ℤ a
    from a b e = grind (arith, ints)

-- the minute is not before the clock
pub minute_from : (t : Times) (h minute : ℕ) → is_past t h minute ≡ false → t.clock ≤ℤ (hour_start t h +ℤ pos minute)
minute_from t h minute e = from (hour_start t h +ℤ pos minute) t.clock e
  where
    from : (a b : ℤ) → lt_z a b ≡ false → b ≤ℤ a
    from a b e = grind (arith, ints)

pub record MinutesFit (first last : ℕ) : Type 0 where
  pub some : first < last
  pub ends : last ≤ minutes_in_hour

pub minutes_from : (first last : ℕ) → minutes_fit first last ≡ true → MinutesFit first last
minutes_from first last e = let a = and_parts (ltb first last) (leb last minutes_in_hour) e in record { some = ltb-true first last a.0; ends = leb-true last minutes_in_hour a.1 }

pub record BidFits (volume : ℕ) (price : Price) : Type 0 where
  pub least : least_bid_volume ≤ volume
  pub greatest : volume ≤ greatest_bid_volume
  pub price_within : Within price

-- a volume between two bounds, at a price within the limit
volume_from : (least volume greatest : ℕ) (price : Price) → (nat_le least volume && (nat_le volume greatest && within_limit price)) ≡ true → (least ≤ volume) × (volume ≤ greatest) × Within price
volume_from least volume greatest price e =
    let a = and_parts (leb least volume) _ e in
    let b = and_parts (leb volume greatest) (within_limit price) a.1 in
    (leb-true least volume a.0, leb-true volume greatest b.0, within_fact price b.1)

pub bid_from : (volume : ℕ) (price : Price) → bid_fits volume price ≡ true → BidFits volume price
bid_from volume price e =
    let v = volume_from least_bid_volume volume greatest_bid_volume price e in
    record { least = v.0; greatest = v.1; price_within = v.2 }

pub record SpecialFits (a : Activation) : Type 0 where
  pub minutes : MinutesFit a.minutes.first a.minutes.last
  pub least : least_special_volume ≤ a.volume.0
  pub greatest : a.volume.0 ≤ greatest_special_volume
  pub price_within : Within a.price

pub special_from : (a : Activation) → special_fits a ≡ true → SpecialFits a
special_from a e =
    let m = and_parts (minutes_fit a.minutes.first a.minutes.last) _ e in
    let v = volume_from least_special_volume a.volume.0 greatest_special_volume a.price m.1 in
    record { minutes = minutes_from a.minutes.first a.minutes.last m.0; least = v.0; greatest = v.1; price_within = v.2 }

-- upward spot or more, downward spot or less
abbrev pub SideOfSpot : Direction → Price → Price → Type 0
SideOfSpot Up spot price = spot.0 ≤ℤ price.0
SideOfSpot Down spot price = price.0 ≤ℤ spot.0

pub side_from : (direction : Direction) (spot price : Price) → right_side direction spot price ≡ true → SideOfSpot direction spot price
side_from Up spot price e = le_from spot.0 price.0 e
side_from Down spot price e = le_from price.0 spot.0 e

-- Each call.

pub record PlanAccepted (t : Times) (h p : ℕ) (x : ℤ) : Type 0 where
  pub hour : h < t.opening.hours
  pub party : p < t.parties
  pub low : pos 0 ≤ℤ x
  pub high : x ≤ℤ pos plan_limit
  pub gate : gate_closed t h ≡ false

pub plan_accepted : (t : Times) (h p : ℕ) (x : ℤ) → plan_row t h p x ≡ None → PlanAccepted t h p x
plan_accepted t h p x e =
    let a = hour_and_party_passed t h p _ e in
    let b = energy_passed (pos 0) x (pos plan_limit) _ a.2 in
    record { hour = a.0; party = a.1; low = b.0; high = b.1; gate = (passed (gate_closed t h) TooLate None b.2).0 }

pub record NoticeAccepted (t : Times) (n : Notice) (room : Bool) : Type 0 where
  pub hour : n.hour.0 < t.opening.hours
  pub sender : (n.sender.0 < t.parties) ⊎ (outside n.sender.0 ≡ true)
  pub counterparty : n.counterparty.0 < t.parties
  pub apart : n.sender.0 ≡ n.counterparty.0 → ⊥
  pub low : neg_ℤ (pos notice_limit) ≤ℤ n.energy.0
  pub high : n.energy.0 ≤ℤ pos notice_limit
  pub gate : gate_closed t n.hour.0 ≡ false
  pub has_room : room ≡ true

known_from : (t : Times) (p : ℕ) → known t p ≡ true → (p < t.parties) ⊎ (outside p ≡ true)
known_from t p e = ⊎_elim (λ i. inl (ltb-true p t.parties i)) (λ o. inr o) (or_cases (entered t p) (outside p) e)

pub notice_accepted : (t : Times) (n : Notice) (room : Bool) → notice_row t n room ≡ None → NoticeAccepted t n room
notice_accepted t n room e =
    let a = hour_passed t n.hour.0 _ e in
    let b = tested (known t n.sender.0 && known t n.counterparty.0) UnknownParty _ a.1 in
    let c = passed (wrong_pair n) WrongPair _ b.1 in
    let d = energy_passed (neg_ℤ (pos notice_limit)) n.energy.0 (pos notice_limit) _ c.1 in
    let g = passed (gate_closed t n.hour.0) TooLate _ d.2 in
    let k = and_parts (known t n.sender.0) (known t n.counterparty.0) b.0 in
    let w = or_parts (outside n.counterparty.0) (eqb n.sender.0 n.counterparty.0) c.0 in
    record {
      hour = a.0;
      sender = known_from t n.sender.0 k.0;
      counterparty = ⊎_elim (λ i. i) (λ o. absurd (both_ways (outside n.counterparty.0) w.0 o)) (known_from t n.counterparty.0 k.1);
      apart = eqb-false n.sender.0 n.counterparty.0 w.1;
      low = d.0;
      high = d.1;
      gate = g.0;
      has_room = (tested room NoRoom None g.1).0;
    }

pub record BidAccepted (t : Times) (o : Offer) (room : Bool) : Type 0 where
  pub hour : o.hour.0 < t.opening.hours
  pub party : o.party.0 < t.parties
  pub fits : BidFits o.volume.0 o.price
  pub gate : gate_closed t o.hour.0 ≡ false
  pub has_room : room ≡ true
  pub side : SideOfSpot o.direction (t.opening.spot o.hour.0) o.price

pub bid_accepted : (t : Times) (o : Offer) (room : Bool) → bid_row t o room ≡ None → BidAccepted t o room
bid_accepted t o room e =
    let a = hour_and_party_passed t o.hour.0 o.party.0 _ e in
    let b = tested (bid_fits o.volume.0 o.price) OutOfRange _ a.2 in
    let c = passed (gate_closed t o.hour.0) TooLate _ b.1 in
    let d = tested room NoRoom _ c.1 in
    let spot = t.opening.spot o.hour.0 in
    record {
      hour = a.0;
      party = a.1;
      fits = bid_from o.volume.0 o.price b.0;
      gate = c.0;
      has_room = d.0;
      side = side_from o.direction spot o.price (tested (right_side o.direction spot o.price) WrongSideOfSpot None d.1).0;
    }

-- a bid stands, and the gate of its hour is open
abbrev pub WithdrawAccepted : Times → Option Bid → Type 0
WithdrawAccepted t standing = (b : Bid) × ((standing ≡ Some b) × (gate_closed t b.hour.0 ≡ false))

pub withdraw_accepted : (t : Times) (standing : Option Bid) → withdraw_row t standing ≡ None → WithdrawAccepted t standing
withdraw_accepted t None e = absurd (let z : ◌≡◌ {A = ℕ} 0 1 = cc in omega arith)
withdraw_accepted t (Some b) e = (b, (refl, (passed (gate_closed t b.hour.0) TooLate None e).0))

abbrev pub HoldAccepted : Option Bid → Type 0
HoldAccepted standing = (b : Bid) × (standing ≡ Some b)

pub hold_accepted : (standing : Option Bid) → hold_row standing ≡ None → HoldAccepted standing
hold_accepted None e = absurd (let z : ◌≡◌ {A = ℕ} 0 1 = cc in omega arith)
hold_accepted (Some b) e = (b, refl)

pub record ActivateAccepted (t : Times) (h first last : ℕ) (room found : Bool) : Type 0 where
  pub hour : h < t.opening.hours
  pub minutes : MinutesFit first last
  pub in_time : is_past t h first ≡ false
  pub has_room : room ≡ true
  pub is_found : found ≡ true

pub activate_accepted : (t : Times) (h first last : ℕ) (room found : Bool) → activate_row t h first last room found ≡ None → ActivateAccepted t h first last room found
activate_accepted t h first last room found e =
    let a = hour_passed t h _ e in
    let b = tested (minutes_fit first last) OutOfRange _ a.1 in
    let c = passed (is_past t h first) TooLate _ b.1 in
    let d = passed (found && not room) NoRoom _ c.1 in
    let there = (tested found NoSuchBid None d.1).0 in
    record {
      hour = a.0;
      minutes = minutes_from first last b.0;
      in_time = c.0;
      has_room = ⊎_elim (λ lacks. absurd (both_ways found lacks there)) (not-false room) (and_cases found (not room) d.0);
      is_found = there;
    }

pub record SpecialAccepted (t : Times) (a : Activation) (room : Bool) : Type 0 where
  pub hour : a.hour.0 < t.opening.hours
  pub party : a.party.0 < t.parties
  pub fits : SpecialFits a
  pub in_time : is_past t a.hour.0 a.minutes.first ≡ false
  pub has_room : room ≡ true

pub special_accepted : (t : Times) (a : Activation) (room : Bool) → special_row t a room ≡ None → SpecialAccepted t a room
special_accepted t x room e =
    let a = hour_and_party_passed t x.hour.0 x.party.0 _ e in
    let b = tested (special_fits x) OutOfRange _ a.2 in
    let c = passed (is_past t x.hour.0 x.minutes.first) TooLate _ b.1 in
    record { hour = a.0; party = a.1; fits = special_from x b.0; in_time = c.0; has_room = (tested room NoRoom None c.1).0 }

pub record ReadingAccepted (t : Times) (h p : ℕ) (x : ℤ) (settled : Bool) : Type 0 where
  pub hour : h < t.opening.hours
  pub party : p < t.parties
  pub low : pos 0 ≤ℤ x
  pub high : x ≤ℤ pos reading_limit
  pub unsettled : settled ≡ false

pub reading_accepted : (t : Times) (h p : ℕ) (x : ℤ) (settled : Bool) → reading_row t h p x settled ≡ None → ReadingAccepted t h p x settled
reading_accepted t h p x settled e =
    let a = hour_and_party_passed t h p _ e in
    let b = energy_passed (pos 0) x (pos reading_limit) _ a.2 in
    record { hour = a.0; party = a.1; low = b.0; high = b.1; unsettled = (passed settled AlreadySettled None b.2).0 }

pub record SettleAccepted (t : Times) (h : ℕ) (settled complete : Bool) : Type 0 where
  pub hour : h < t.opening.hours
  pub unsettled : settled ≡ false
  pub all_read : complete ≡ true

pub settle_accepted : (t : Times) (h : ℕ) (settled complete : Bool) → settle_row t h settled complete ≡ None → SettleAccepted t h settled complete
settle_accepted t h settled complete e =
    let a = hour_passed t h _ e in
    let b = passed settled AlreadySettled _ a.1 in
    record { hour = a.0; unsettled = b.0; all_read = (tested complete ReadingMissing None b.1).0 }

pub facts_accepted : (t : Times) (h : ℕ) → facts_row t h ≡ None → h < t.opening.hours
facts_accepted t h e = (hour_passed t h None e).0

pub record ImbalanceAccepted (t : Times) (h p : ℕ) (complete : Bool) : Type 0 where
  pub hour : h < t.opening.hours
  pub party : p < t.parties
  pub all_read : complete ≡ true

pub imbalance_accepted : (t : Times) (h p : ℕ) (complete : Bool) → imbalance_row t h p complete ≡ None → ImbalanceAccepted t h p complete
imbalance_accepted t h p complete e =
    let a = hour_and_party_passed t h p _ e in
    record { hour = a.0; party = a.1; all_read = (tested complete ReadingMissing None a.2).0 }

pub account_accepted : (t : Times) (p : ℕ) → account_row t p ≡ None → p < t.parties
account_accepted t p e = (party_passed t p None e).0
