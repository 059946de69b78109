-- The accepted calls of a day, with their arguments and answers, and what is reckoned from them in turn.
use Rattle.std.specs.Prelude.{ℕ, ◌+◌, Bool, List, [], ◌∷◌, ℤ, Some, None, Option}
use Rattle.units.specs.declared.Position.{Position}
use Rattle.market.specs.declared.words.Activation.{Activation}
use Rattle.market.specs.declared.words.Bid.{Bid}
use Rattle.market.specs.declared.words.Direction.{Direction}
use Rattle.market.specs.declared.words.Kind.TheVariants.{Listed, Special as SpecialKind}
use Rattle.integers.specs.Places.{at, at_party}
use Rattle.timetable.specs.Opening.{Opening}
use Rattle.ladder.specs.declared.offer.Offer.{Offer}
use Rattle.ladder.specs.Ladder.{StandingBids, added, dropped, marked, taken, standing_with}
use Rattle.register.specs.Registered.{with_activation}
use Rattle.notices.specs.declared.notice.Notice.{Notice}
use Rattle.notices.specs.Kept.{with_notice}
use Rattle.positions.specs.declared.record.Meter.{Meter}
use Rattle.positions.specs.declared.record.Meter.TheVariants.{Production, Consumption}
use Rattle.pricing.specs.declared.Facts.{Facts}
use Rattle.pricing.specs.declared.Prices.{Prices}
use Rattle.journal.specs.Figures.{Stage, Running, Metered, Figures, opened, facts_at}

-- one for each kind of accepted call; positions and parties by number, the answer last
pub data Entry : Type 0 where
  Entered : ℕ → Entry
  -- position, party, planned production
  Plan : ℕ → ℕ → ℤ → Entry
  Noticed : Notice → Entry
  Clock : ℤ → Entry
  Start : Entry
  -- what was offered, and the receipt
  BidAccepted : Offer → ℕ → Entry
  Withdrawn : ℕ → Entry
  Hold : ℕ → Bool → Entry
  -- position, direction, first and last minute; receipt and energy
  Activated : Position → Direction → ℕ → ℕ → ℕ → ℤ → Entry
  -- the activation as it was named, and its energy
  Special : Activation → ℤ → Entry
  Finish : Entry
  -- position, party, meter, energy
  Reading : ℕ → ℕ → Meter → ℤ → Entry
  -- position, and the policy's meaning
  Settled : ℕ → (Facts → Prices) → Entry

-- the newest first
abbrev pub Journal : Type 0
Journal = List Entry

-- a listed activation takes what its call lacks from the bid whose receipt it returned
abbrev pub listed_of : Bid → Position → ℕ → ℕ → Activation
listed_of b hour first last =
    record {
      hour = hour;
      minutes = record { first = first; last = last };
      arrival = 0;
      party = b.party;
      portfolio = b.portfolio;
      direction = b.direction;
      volume = b.volume;
      price = b.price;
      kind = Listed;
    }

-- and a special one brings all of it
abbrev pub special_of : Offer → ℕ → ℕ → Activation
special_of offer first last =
    record {
      hour = offer.hour;
      minutes = record { first = first; last = last };
      arrival = 0;
      party = offer.party;
      portfolio = offer.portfolio;
      direction = offer.direction;
      volume = offer.volume;
      price = offer.price;
      kind = SpecialKind;
    }

abbrev pub with_stage : Stage → Figures → Figures
with_stage stage f = record { opening = f.opening; stage = stage; clock = f.clock; parties = f.parties; plans = f.plans; notices = f.notices; bids = f.bids; activations = f.activations; produced = f.produced; consumed = f.consumed; settled = f.settled }

abbrev pub with_clock : ℤ → Figures → Figures
with_clock clock f = record { opening = f.opening; stage = f.stage; clock = clock; parties = f.parties; plans = f.plans; notices = f.notices; bids = f.bids; activations = f.activations; produced = f.produced; consumed = f.consumed; settled = f.settled }

abbrev pub with_party : Figures → Figures
with_party f = record { opening = f.opening; stage = f.stage; clock = f.clock; parties = f.parties + 1; plans = f.plans; notices = f.notices; bids = f.bids; activations = f.activations; produced = f.produced; consumed = f.consumed; settled = f.settled }

abbrev pub with_plan : ℕ → ℕ → ℤ → Figures → Figures
with_plan h p x f = record { opening = f.opening; stage = f.stage; clock = f.clock; parties = f.parties; plans = at_party h p x f.plans; notices = f.notices; bids = f.bids; activations = f.activations; produced = f.produced; consumed = f.consumed; settled = f.settled }

-- a later notice by the same sender for that counterparty and hour replaces the earlier, and a zero removes it
abbrev pub with_one_notice : Notice → Figures → Figures
with_one_notice n f = record { opening = f.opening; stage = f.stage; clock = f.clock; parties = f.parties; plans = f.plans; notices = with_notice n f.notices; bids = f.bids; activations = f.activations; produced = f.produced; consumed = f.consumed; settled = f.settled }

abbrev pub with_bids : StandingBids → Figures → Figures
with_bids bids f = record { opening = f.opening; stage = f.stage; clock = f.clock; parties = f.parties; plans = f.plans; notices = f.notices; bids = bids; activations = f.activations; produced = f.produced; consumed = f.consumed; settled = f.settled }

abbrev pub with_one_more : Activation → Figures → Figures
with_one_more a f = record { opening = f.opening; stage = f.stage; clock = f.clock; parties = f.parties; plans = f.plans; notices = f.notices; bids = f.bids; activations = with_activation a f.activations; produced = f.produced; consumed = f.consumed; settled = f.settled }

-- a reading is of one meter, and leaves the readings of the other
abbrev pub produced_with : ℕ → ℕ → Meter → ℤ → (ℕ → ℕ → Option ℤ) → ℕ → ℕ → Option ℤ
produced_with h p Production x produced = at_party h p (Some x) produced
produced_with h p Consumption x produced = produced

abbrev pub consumed_with : ℕ → ℕ → Meter → ℤ → (ℕ → ℕ → Option ℤ) → ℕ → ℕ → Option ℤ
consumed_with h p Production x consumed = consumed
consumed_with h p Consumption x consumed = at_party h p (Some x) consumed

abbrev pub with_reading : ℕ → ℕ → Meter → ℤ → Figures → Figures
with_reading h p meter x f = record { opening = f.opening; stage = f.stage; clock = f.clock; parties = f.parties; plans = f.plans; notices = f.notices; bids = f.bids; activations = f.activations; produced = produced_with h p meter x f.produced; consumed = consumed_with h p meter x f.consumed; settled = f.settled }

-- the hour has these prices from now on
abbrev pub with_settled : ℕ → Prices → Figures → Figures
with_settled h prices f = record { opening = f.opening; stage = f.stage; clock = f.clock; parties = f.parties; plans = f.plans; notices = f.notices; bids = f.bids; activations = f.activations; produced = f.produced; consumed = f.consumed; settled = at h (Some prices) f.settled }

-- the bid whose receipt an activation returned, taken whole
abbrev pub with_listed : Option Bid → Position → ℕ → ℕ → List Activation → List Activation
with_listed None hour first last activations = activations
with_listed (Some b) hour first last activations = with_activation (listed_of b hour first last) activations

abbrev pub with_taken : Option Bid → Position → ℕ → ℕ → Figures → Figures
with_taken bid hour first last f = record { opening = f.opening; stage = f.stage; clock = f.clock; parties = f.parties; plans = f.plans; notices = f.notices; bids = taken bid f.bids; activations = with_listed bid hour first last f.activations; produced = f.produced; consumed = f.consumed; settled = f.settled }

abbrev pub after : Entry → Figures → Figures
after (Entered p) f = with_party f
after (Plan h p x) f = with_plan h p x f
after (Noticed n) f = with_one_notice n f
after (Clock t) f = with_clock t f
after Start f = with_stage Running f
after (BidAccepted offer receipt) f = with_bids (added offer f.bids) f
after (Withdrawn receipt) f = with_bids (dropped receipt f.bids) f
after (Hold receipt held) f = with_bids (marked receipt held f.bids) f
after (Activated hour direction first last receipt energy) f = with_taken (standing_with receipt f.bids) hour first last f
after (Special a energy) f = with_one_more a f
after Finish f = with_stage Metered f
after (Reading h p meter x) f = with_reading h p meter x f
after (Settled h m) f = with_settled h (m (facts_at f h)) f

abbrev pub figures : Opening → Journal → Figures
figures opening [] = opened opening
figures opening (entry ∷ journal) = after entry (figures opening journal)
