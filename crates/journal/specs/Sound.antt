-- The sound journals: what the acceptance of a call guarantees, as far as the law of the sums needs it, and that its answer is the right one.
-- A weaker premise than `Lawful`, and all that the law asks: no row is spoken of, and of the limits only those of spot prices and bids.
use Rattle.std.specs.Prelude.{◌≡◌, ℕ, ◌+◌, ◌<◌, ◌≤◌, [], ◌∷◌, ℤ, pos, Some, None}
use Rattle.units.specs.declared.Position.{Position}
use Rattle.market.specs.declared.words.Bid.{Bid}
use Rattle.market.specs.declared.words.Direction.{Direction}
use Rattle.market.specs.declared.words.Kind.TheVariants.{Special as SpecialKind}
use Rattle.market.specs.Figures.{least_bid_volume, price_limit}
use Rattle.market.specs.Words.{energy_of}
use Rattle.timetable.specs.Opening.{Opening}
use Rattle.ladder.specs.declared.offer.Offer.{Offer}
use Rattle.ladder.specs.Ladder.{standing_with}
use Rattle.pricing.specs.Policies.{ShowsRules, Within}
use Rattle.facts.specs.Sound.{OnItsSide}
use Rattle.journal.specs.Figures.{Figures}
use Rattle.journal.specs.Journal.{Entry, Journal, Entered, BidAccepted, Activated, Special, Reading, Settled, listed_of, figures}
use Rattle.journal.specs.Lawful.{SpotsWithin, InStage}

-- an entered party's, of enough power, at a price within its limit and on its side of the hour's spot price
pub record SoundOffer (f : Figures) (offer : Offer) : Type 0 where
  pub in_the_day : offer.hour.0 < f.opening.hours
  pub entered : offer.party.0 < f.parties
  pub enough : least_bid_volume ≤ offer.volume.0
  pub price_within : Within price_limit offer.price
  pub side : OnItsSide offer.direction (f.opening.spot offer.hour.0) offer.price

-- a standing bid of that receipt, hour and direction is taken
pub record SoundTaking (f : Figures) (hour : Position) (direction : Direction) (first last receipt : ℕ) (energy : ℤ) : Type 0 where
  pub bid : Bid
  pub stands : standing_with receipt f.bids ≡ Some bid
  pub of_the_hour : bid.hour.0 ≡ hour.0
  pub of_direction : bid.direction ≡ direction
  pub lasts : first < last
  pub answered : energy ≡ pos (energy_of (listed_of bid hour first last))

-- what is guaranteed of the call, besides its stage
abbrev pub Guaranteed : Entry → Figures → Type 0
Guaranteed (Entered p) f = p ≡ f.parties
Guaranteed (BidAccepted offer receipt) f = SoundOffer f offer × (receipt ≡ f.bids.given + 1)
Guaranteed (Activated hour direction first last receipt energy) f = SoundTaking f hour direction first last receipt energy
Guaranteed (Special a energy) f = (a.kind ≡ SpecialKind) × (a.party.0 < f.parties) × (energy ≡ pos (energy_of a))
Guaranteed (Reading h p meter x) f = f.settled h ≡ None
Guaranteed (Settled h m) f = (f.settled h ≡ None) × (h < f.opening.hours) × ShowsRules m
Guaranteed _ f = Unit

abbrev pub SoundEntry : Entry → Figures → Type 0
SoundEntry entry f = InStage entry f.stage × Guaranteed entry f

abbrev pub SoundJournal : Opening → Journal → Type 0
SoundJournal opening [] = SpotsWithin opening
SoundJournal opening (entry ∷ journal) = SoundJournal opening journal × SoundEntry entry (figures opening journal)
