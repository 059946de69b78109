-- The journals that a day can have: each call was one of its stage, no row refused it, and its answer is the right one.
use Rattle.std.specs.Prelude.{◌≡◌, ℕ, ◌+◌, ◌<◌, ◌≤◌, ◌⊎◌, [], ◌∷◌, ℤ, pos, Some, None}
use Rattle.units.specs.declared.Position.{Position}
use Rattle.market.specs.declared.words.Bid.{Bid}
use Rattle.market.specs.declared.words.Direction.{Direction}
use Rattle.market.specs.declared.words.Kind.TheVariants.{Special as SpecialKind}
use Rattle.market.specs.Figures.{most_hours, price_limit}
use Rattle.market.specs.Words.{energy_of}
use Rattle.timetable.specs.Opening.{Opening}
use Rattle.ladder.specs.Ladder.{standing_with}
use Rattle.pricing.specs.Policies.{ShowsRules, Within}
use Rattle.journal.specs.Figures.{Stage, Planned, Running, Metered, Figures}
use Rattle.journal.specs.Journal.{Entry, Journal, Entered, Plan, Noticed, Clock, Start, BidAccepted, Withdrawn, Hold, Activated, Special, Finish, Reading, Settled, listed_of, figures}
use Rattle.journal.specs.Refused.{first_of, enter_refused, clock_refused, plan_refused, notice_refused, bid_refused, withdraw_refused, hold_refused, activate_refused, special_refused, reading_refused, settle_refused}

-- every spot price of the day is within its limit
abbrev pub SpotsWithin : Opening → Type 0
SpotsWithin opening = (h : ℕ) → h < opening.hours → Within price_limit (opening.spot h)

-- and it has no more hours than the longest day
pub record LawfulOpening (opening : Opening) : Type 0 where
  pub few_hours : opening.hours ≤ most_hours
  pub spots : SpotsWithin opening

-- the first free bid of the hour and direction is taken, and is the one that stands with the receipt
pub record Takes (f : Figures) (hour : Position) (direction : Direction) (first last receipt : ℕ) (energy : ℤ) : Type 0 where
  pub bid : Bid
  pub is_first_free : first_of f hour.0 direction ≡ Some bid
  pub stands : standing_with receipt f.bids ≡ Some bid
  pub of_direction : bid.direction ≡ direction
  pub answered : energy ≡ pos (energy_of (listed_of bid hour first last))

-- before the day is metered
abbrev pub Early : Stage → Type 0
Early stage = (stage ≡ Planned) ⊎ (stage ≡ Running)

-- the stages that a call belongs to
abbrev pub InStage : Entry → Stage → Type 0
InStage (Entered p) stage = stage ≡ Planned
InStage (Plan h p x) stage = Early stage
InStage (Noticed n) stage = Early stage
InStage (Clock t) stage = Early stage
InStage Start stage = stage ≡ Planned
InStage (BidAccepted offer receipt) stage = stage ≡ Running
InStage (Withdrawn receipt) stage = stage ≡ Running
InStage (Hold receipt held) stage = stage ≡ Running
InStage (Activated hour direction first last receipt energy) stage = stage ≡ Running
InStage (Special a energy) stage = stage ≡ Running
InStage Finish stage = stage ≡ Running
InStage (Reading h p meter x) stage = stage ≡ Metered
InStage (Settled h m) stage = stage ≡ Metered

-- no row refuses the call, and its answer is the right one
abbrev pub Allowed : Entry → Figures → Type 0
Allowed (Entered p) f = (enter_refused f ≡ None) × (p ≡ f.parties)
Allowed (Plan h p x) f = plan_refused f h p x ≡ None
Allowed (Noticed n) f = notice_refused f n ≡ None
Allowed (Clock t) f = clock_refused f t ≡ None
Allowed Start f = Unit
Allowed (BidAccepted offer receipt) f = (bid_refused f offer ≡ None) × (receipt ≡ f.bids.given + 1)
Allowed (Withdrawn receipt) f = withdraw_refused f receipt ≡ None
Allowed (Hold receipt held) f = hold_refused f receipt ≡ None
Allowed (Activated hour direction first last receipt energy) f = (activate_refused f hour.0 direction first last ≡ None) × Takes f hour direction first last receipt energy
Allowed (Special a energy) f = (special_refused f a ≡ None) × (a.kind ≡ SpecialKind) × (energy ≡ pos (energy_of a))
Allowed Finish f = Unit
Allowed (Reading h p meter x) f = reading_refused f h p x ≡ None
Allowed (Settled h m) f = (settle_refused f h ≡ None) × ShowsRules m

abbrev pub Lawful : Entry → Figures → Type 0
Lawful entry f = InStage entry f.stage × Allowed entry f

abbrev pub LawfulJournal : Opening → Journal → Type 0
LawfulJournal opening [] = LawfulOpening opening
LawfulJournal opening (entry ∷ journal) = LawfulJournal opening journal × Lawful entry (figures opening journal)
