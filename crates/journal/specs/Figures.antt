-- What is reckoned of a day: all that its accepted calls have said, and nothing that a program worked out.
use Rattle.std.specs.Prelude.{ℕ, List, [], ℤ, pos, ◌-ℤ◌, None, Option}
use Rattle.std.specs.Option.{unwrap_or}
use Rattle.units.specs.declared.Position.{Position}
use Rattle.market.specs.declared.words.Activation.{Activation}
use Rattle.market.specs.Figures.{opening_lead_minutes, price_setting_minutes}
use Rattle.timetable.specs.Opening.{Opening, Times}
use Rattle.ladder.specs.Ladder.{StandingBids, no_bids}
use Rattle.notices.specs.declared.notice.Notice.{Notice}
use Rattle.notices.specs.Kept.{between}
use Rattle.pricing.specs.declared.Facts.{Facts}
use Rattle.pricing.specs.declared.Prices.{Prices}
use Rattle.facts.specs.Facts.{facts_of}
use Rattle.settlement.specs.Hour.{Hour}

pub data Stage : Type 0 where
  Planned : Stage
  Running : Stage
  Metered : Stage

-- By position first. Parties are numbered from 0. A settled hour has its four prices.
pub record Figures : Type 0 where
  pub opening : Opening
  pub stage : Stage
  pub clock : ℤ
  pub parties : ℕ
  pub plans : ℕ → ℕ → ℤ
  pub notices : List Notice
  pub bids : StandingBids
  pub activations : List Activation
  pub produced : ℕ → ℕ → Option ℤ
  pub consumed : ℕ → ℕ → Option ℤ
  pub settled : ℕ → Option Prices

abbrev pub opened : Opening → Figures
opened opening =
    record {
      opening = opening;
      stage = Planned;
      clock = opening.start -ℤ pos opening_lead_minutes;
      parties = 0;
      plans = λ h p. pos 0;
      notices = [];
      bids = no_bids;
      activations = [];
      produced = λ h p. None;
      consumed = λ h p. None;
      settled = λ h. None;
    }

-- what the rows of most calls look at
abbrev pub times_of : Figures → Times
times_of f = record { opening = f.opening; clock = f.clock; parties = f.parties }

abbrev pub position : ℕ → Position
position h = record { 0 = h }

-- the hour at a position
abbrev pub hour_at : Figures → ℕ → Hour
hour_at f h =
    record {
      position = position h;
      parties = f.parties;
      plan = f.plans h;
      notice = between h f.notices;
      produced = λ p. unwrap_or (f.produced h p) (pos 0);
      consumed = λ p. unwrap_or (f.consumed h p) (pos 0);
      activations = f.activations;
    }

-- its facts
unfoldable pub facts_at : Figures → ℕ → Facts
facts_at f h = facts_of price_setting_minutes (f.opening.spot h) (position h) f.activations f.bids.up f.bids.down
