-- What every run of lawful calls keeps, all limits among it: proved of every journal, and carried by the days themselves. The law of the sums rests on less.
use Rattle.std.specs.Prelude.{◌≡◌, ℕ, ◌<◌, ◌≤◌, List, length, ℤ, pos, Some, None, Option, ◌≢◌}
use Rattle.std.specs.Option.{unwrap_or}
use Rattle.std.specs.List.{AllByRecursion}
use Rattle.market.specs.declared.words.Activation.{Activation}
use Rattle.market.specs.declared.words.Bid.{Bid}
use Rattle.market.specs.declared.words.Kind.TheVariants.{Listed}
use Rattle.market.specs.Figures.{least_bid_volume, greatest_bid_volume, price_limit, plan_limit, reading_limit, notice_limit, most_parties, most_activations}
use Rattle.timetable.specs.Opening.{Opening}
use Rattle.ladder.specs.Ladder.{StandingBids, AllBids}
use Rattle.notices.specs.declared.notice.Notice.{Notice}
use Rattle.notices.specs.Order.{energy_of}
use Rattle.pricing.specs.declared.Facts.{Facts}
use Rattle.pricing.specs.declared.Prices.{Prices}
use Rattle.pricing.specs.Policies.{ShowsRules, Within}
use Rattle.facts.specs.Sound.{OnItsSide, SoundActivation}
use Rattle.integers.specs.Near.{Near}
use Rattle.settlement.specs.Bounds.{FromZero, ActivationFits}
use Rattle.journal.specs.Figures.{Metered, Figures, facts_at}
use Rattle.journal.specs.Journal.{Journal, figures}
use Rattle.journal.specs.Lawful.{LawfulOpening, LawfulJournal}

pub record BidSound (opening : Opening) (n : ℕ) (b : Bid) : Type 0 where
  pub in_the_day : b.hour.0 < opening.hours
  pub entered : b.party.0 < n
  pub enough : least_bid_volume ≤ b.volume.0
  pub most : b.volume.0 ≤ greatest_bid_volume
  pub price_within : Within price_limit b.price
  pub side : OnItsSide b.direction (opening.spot b.hour.0) b.price

pub record ActivationSound (opening : Opening) (n : ℕ) (a : Activation) : Type 0 where
  pub entered : a.party.0 < n
  pub fits : ActivationFits a
  pub listed : a.kind ≡ Listed → SoundActivation (opening.spot a.hour.0) a

-- the prices of a settled hour are those of a policy that shows the rules
pub record Ruled (f : Figures) (h : ℕ) (prices : Prices) : Type 0 where
  pub meaning : Facts → Prices
  pub shows : ShowsRules meaning
  pub is : prices ≡ meaning (facts_at f h)

pub record Terms (opening : Opening) (parties : ℕ) : Type 0 where
  pub opened : LawfulOpening opening
  pub few_parties : parties ≤ most_parties

pub record Energies (plans : ℕ → ℕ → ℤ) (notices : List Notice) (produced consumed : ℕ → ℕ → Option ℤ) : Type 0 where
  pub plans_fit : (h p : ℕ) → FromZero plan_limit (plans h p)
  pub notices_fit : AllByRecursion (λ n. Near notice_limit (energy_of n)) notices
  pub produced_fit : (h p : ℕ) → FromZero reading_limit (unwrap_or (produced h p) (pos 0))
  pub consumed_fit : (h p : ℕ) → FromZero reading_limit (unwrap_or (consumed h p) (pos 0))

pub record Trades (opening : Opening) (n : ℕ) (bids : StandingBids) (activations : List Activation) : Type 0 where
  pub standing : AllBids (BidSound opening n) bids
  pub activated : AllByRecursion (ActivationSound opening n) activations
  pub few : length activations ≤ most_activations

pub record Settlements (f : Figures) : Type 0 where
  pub unsettled : (f.stage ≢ Metered) → (h : ℕ) → f.settled h ≡ None
  pub rules : (h : ℕ) (prices : Prices) → f.settled h ≡ Some prices → Ruled f h prices
  pub in_the_day : (h : ℕ) (prices : Prices) → f.settled h ≡ Some prices → h < f.opening.hours

pub record Kept (f : Figures) : Type 0 where
  pub terms : Terms f.opening f.parties
  pub energies : Energies f.plans f.notices f.produced f.consumed
  pub trades : Trades f.opening f.parties f.bids f.activations
  pub settlements : Settlements f

abbrev pub RunsKeep : Type 0
RunsKeep = (opening : Opening) (journal : Journal) → LawfulJournal opening journal → Kept (figures opening journal)
