-- The law of the three sums, over every run of sound calls, and so of lawful ones.
use Rattle.std.specs.Prelude.{◌≡◌, ℕ, true, List, neg_ℤ, Some}
use Rattle.market.specs.declared.words.Direction.{Direction}
use Rattle.market.specs.Figures.{price_setting_minutes}
use Rattle.pricing.specs.declared.Prices.{Prices}
use Rattle.facts.specs.Listed.{went}
use Rattle.settlement.specs.HourLaws.{EnergySums, Balanced, NoneSpecial, ListedOneWay, NeverCosts}
use Rattle.integers.specs.Sums.{sum_to}
use Rattle.timetable.specs.Opening.{Opening}
use Rattle.notices.specs.declared.notice.Notice.{Notice}
use Rattle.notices.specs.Kept.{Replaces}
use Rattle.journal.specs.Figures.{Figures, position, hour_at, facts_at}
use Rattle.journal.specs.Journal.{Journal, figures}
use Rattle.journal.specs.Reckoned.{account, operator_account, account_at, operator_at, policy_of, prices_under}
use Rattle.journal.specs.Lawful.{LawfulJournal}
use Rattle.journal.specs.Sound.{SoundJournal}

-- some listed activations of the hour, all in that direction
abbrev pub OneWay : Direction → Figures → ℕ → Type 0
OneWay d f h = (went (position h) d f.activations ≡ true) × ListedOneWay d (hour_at f h)

pub record ThreeSums (opening : Opening) (journal : Journal) : Type 0 where
  -- no call changes what the day was opened with
  pub opening_stays : (figures opening journal).opening ≡ opening
  -- the prices of an hour are those of the policy that it was settled under, for the hour's facts; an hour that was not settled has none.
  -- So what is said below of the prices of a settled hour is said of what its policy means for its facts
  pub policies : (h : ℕ) → (figures opening journal).settled h ≡ prices_under (policy_of journal h) (facts_at (figures opening journal) h)
  -- each account is the sum, over the settled hours, of what is due at that hour's prices and facts
  pub accounts : (p : ℕ) → account opening journal p ≡ account_at (figures opening journal) p
  -- (a) in each hour, settled or not, the imbalances sum to metered production less consumption, plus net outside purchases, less net activated energy
  pub energy : (h : ℕ) → EnergySums (hour_at (figures opening journal) h)
  -- (b) the accounts sum to minus the operator's, which sums, over the settled hours, priced shortfall less priced surplus less net regulation payments
  pub money : sum_to (figures opening journal).parties (account opening journal) ≡ neg_ℤ (operator_account opening journal)
  pub operator : operator_account opening journal ≡ operator_at (figures opening journal)
  -- (c) a balanced settled hour with listed activations in one direction only, and no special ones, never costs the operator, but for what short activations gain
  pub balanced : (h : ℕ) (prices : Prices) (d : Direction) → (figures opening journal).settled h ≡ Some prices
      → Balanced (hour_at (figures opening journal) h) → OneWay d (figures opening journal) h → NoneSpecial (hour_at (figures opening journal) h)
      → NeverCosts price_setting_minutes (facts_at (figures opening journal) h) prices (hour_at (figures opening journal) h)

abbrev pub TheThreeSums : Type 0
TheThreeSums = (opening : Opening) (journal : Journal) → LawfulJournal opening journal → ThreeSums opening journal

-- the same from the weaker premise
abbrev pub SumsOfSound : Type 0
SumsOfSound = (opening : Opening) (journal : Journal) → SoundJournal opening journal → ThreeSums opening journal

abbrev pub LawfulIsSound : Type 0
LawfulIsSound = (opening : Opening) (journal : Journal) → LawfulJournal opening journal → SoundJournal opening journal

-- A list of notices, of any length, is read as a table: a notice puts its energy at its hour, sender and counterparty, and no other moves.
abbrev pub NoticesReplace : Type 0
NoticesReplace = (n : Notice) (notices : List Notice) → Replaces n notices
