-- The sample day: a party that produces, one that consumes, and one activation.
use Rattle.std.specs.Prelude.{◌≡◌, ℕ, [], ◌∷◌, ℤ, pos, neg_ℤ, Some, List}
use Rattle.market.specs.declared.words.Activation.{Activation}
use Rattle.market.specs.declared.words.Direction.TheVariants.{Up, Down}
use Rattle.market.specs.declared.words.Kind.TheVariants.{Special as SpecialKind}
use Rattle.market.specs.declared.words.Portfolio.TheVariants.{Production, ConsumptionAndTrade}
use Rattle.ladder.specs.declared.offer.Offer.{Offer}
use Rattle.pricing.specs.Nordic.{nordic_prices}
use Rattle.pricing.specs.Policies.{four}
use Rattle.settlement.specs.Hour.{net_outside_purchases}
use Rattle.settlement.specs.HourLaws.{Balanced, NoneSpecial}
use Rattle.units.specs.declared.Price.{Price}
use Rattle.timetable.specs.Opening.{Opening}
use Rattle.notices.specs.declared.notice.Notice.{Notice}
use Rattle.positions.specs.declared.record.Meter.TheVariants.{Production as ProductionMeter, Consumption as ConsumptionMeter}
use Rattle.journal.specs.Figures.{position, hour_at, facts_at}
use Rattle.journal.specs.Journal.{Journal, Entered, Plan, Noticed, Start, BidAccepted, Activated, Special, Finish, Reading, Settled, figures}
use Rattle.journal.specs.Reckoned.{account, operator_account, policy_of}
use Rattle.journal.specs.Sums.{OneWay}
use Rattle.journal.specs.Lawful.{LawfulJournal}
use Rattle.settlement.specs.declared.bills.WorkedDay.{WorkedDay}
use Rattle.settlement.specs.declared.bills.WorkedDay.TheVariants.{Sample as SampleBill, Mixed as MixedBill}

abbrev cents : ℕ → Price
cents n = record { 0 = pos n }

-- hour, sender, counterparty, purchase by the sender
abbrev notice : ℕ → ℕ → ℕ → ℤ → Notice
notice h p q x = record { hour = position h; sender = record { 0 = p }; counterparty = record { 0 = q }; energy = record { 0 = x } }

-- 2017-12-20, spot 3,000 throughout
abbrev pub sample_opening : Opening
sample_opening =
    record { date = record { year = 2017; month = 12; day = 20 }; hours = 24; start = pos 9_450_660; spot = λ h. cents 3_000 }

-- 10,000 kW of production upward at 3,500, in hour 8
abbrev pub sample_offer : Offer
sample_offer = record { hour = position 8; party = record { 0 = 0 }; portfolio = Production; direction = Up; volume = record { 0 = 10_000 }; price = record { 0 = pos 3_500 } }

-- the newest call first
abbrev pub sample_journal : Journal
sample_journal =
    Settled 8 nordic_prices
    ∷ Reading 8 1 ConsumptionMeter (pos 26_000)
    ∷ Reading 8 1 ProductionMeter (pos 0)
    ∷ Reading 8 0 ConsumptionMeter (pos 0)
    ∷ Reading 8 0 ProductionMeter (pos 26_000)
    ∷ Finish
    ∷ Activated (position 8) Up 0 30 1 (pos 5_000)
    ∷ BidAccepted sample_offer 1
    ∷ Start
    ∷ Noticed (notice 8 1 0 (pos 20_000))
    ∷ Noticed (notice 8 0 1 (neg_ℤ (pos 20_000)))
    ∷ Plan 8 0 (pos 20_000)
    ∷ Entered 1
    ∷ Entered 0
    ∷ []

-- the calls are lawful, hour 8 is settled and meets all that the bound of the third sum asks, and these are the accounts
pub record SampleDay : Type 0 where
  pub lawful : LawfulJournal sample_opening sample_journal
  pub policy : policy_of sample_journal 8 ≡ Some nordic_prices
  pub settled : (figures sample_opening sample_journal).settled 8 ≡ Some (four (cents 3_000) (cents 3_500) (cents 3_500) (cents 3_500))
  pub balanced : Balanced (hour_at (figures sample_opening sample_journal) 8)
  pub one_way : OneWay Up (figures sample_opening sample_journal) 8
  pub none_special : NoneSpecial (hour_at (figures sample_opening sample_journal) 8)
  -- net energy, and what the policy means for the hour's facts
  pub net_energy_is : (facts_at (figures sample_opening sample_journal) 8).net_energy.0 ≡ pos 5_000
  pub prices : nordic_prices (facts_at (figures sample_opening sample_journal) 8) ≡ four (cents 3_000) (cents 3_500) (cents 3_500) (cents 3_500)
  pub first_party : account sample_opening sample_journal 0 ≡ pos 20_500_000
  pub second_party : account sample_opening sample_journal 1 ≡ neg_ℤ (pos 21_000_000)
  pub operator : operator_account sample_opening sample_journal ≡ pos 500_000

-- A second day, with what the first lacks: a short activation, a special one, and a notice from outside, in hour 9.

-- 6,000 kW of production upward at 3,600
abbrev pub mixed_offer : Offer
mixed_offer = record { hour = position 9; party = record { 0 = 0 }; portfolio = Production; direction = Up; volume = record { 0 = 6_000 }; price = record { 0 = pos 3_600 } }

-- 1,200 kW of party 1's consumption and trade downward at 100, for the whole hour
abbrev pub mixed_special : Activation
mixed_special =
    record {
      hour = position 9;
      minutes = record { first = 0; last = 60 };
      arrival = 0;
      party = record { 0 = 1 };
      portfolio = ConsumptionAndTrade;
      direction = Down;
      volume = record { 0 = 1_200 };
      price = record { 0 = pos 100 };
      kind = SpecialKind;
    }

abbrev pub mixed_journal : Journal
mixed_journal =
    Settled 9 nordic_prices
    ∷ Reading 9 1 ConsumptionMeter (pos 500)
    ∷ Reading 9 1 ProductionMeter (pos 0)
    ∷ Reading 9 0 ConsumptionMeter (pos 0)
    ∷ Reading 9 0 ProductionMeter (pos 2_000)
    ∷ Finish
    ∷ Special mixed_special (pos 1_200)
    ∷ Activated (position 9) Up 20 29 1 (pos 900)
    ∷ BidAccepted mixed_offer 1
    ∷ Start
    ∷ Noticed (notice 9 32 0 (pos 1_000))
    ∷ Entered 1
    ∷ Entered 0
    ∷ []

pub record MixedDay : Type 0 where
  pub lawful : LawfulJournal sample_opening mixed_journal
  pub outside : net_outside_purchases (hour_at (figures sample_opening mixed_journal) 9) ≡ neg_ℤ (pos 1_000)
  pub first_party : account sample_opening mixed_journal 0 ≡ pos 3_540_000
  pub second_party : account sample_opening mixed_journal 1 ≡ pos 1_980_000
  pub operator : operator_account sample_opening mixed_journal ≡ neg_ℤ (pos 5_520_000)

abbrev pub worked_journal : WorkedDay → Journal
worked_journal SampleBill = sample_journal
worked_journal MixedBill = mixed_journal

-- of the two parties and of the operator
abbrev pub accounts_of : WorkedDay → List ℤ
accounts_of day =
    account sample_opening (worked_journal day) 0 ∷ account sample_opening (worked_journal day) 1 ∷ operator_account sample_opening (worked_journal day) ∷ []
