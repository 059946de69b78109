-- The figures that the parts of a book show, and what holds of them at all times.
use Rattle.std.specs.Prelude.{ℕ, Option}
use Rattle.timetable.specs.declared.timetable.Timetable.{Timetable}
use Rattle.timetable.specs.View.{times}
use Rattle.positions.specs.declared.record.Meter.TheVariants.{Production, Consumption}
use Rattle.positions.specs.declared.table.PositionTable.{PositionTable}
use Rattle.positions.specs.Tables.{plans_of, readings_of}
use Rattle.notices.specs.declared.table.NoticeTable.{NoticeTable}
use Rattle.notices.specs.Kept.{kept}
use Rattle.ladder.specs.declared.ladder.Ladder.{Ladder}
use Rattle.ladder.specs.Ladder.{view}
use Rattle.register.specs.declared.register.Register.{Register}
use Rattle.register.specs.Registered.{registered}
use Rattle.pricing.specs.declared.Prices.{Prices}
use Rattle.journal.specs.Figures.{Stage, Figures}
use Rattle.journal.specs.Kept.{Terms, Energies, Trades}

-- at a stage of the day, with the prices of its settled hours
abbrev pub figures_of : Stage → (ℕ → Option Prices) → Timetable → PositionTable → NoticeTable → Ladder → Register → Figures
figures_of stage settled t p n l r =
    record {
      opening = (times t).opening;
      stage = stage;
      clock = (times t).clock;
      parties = (times t).parties;
      plans = plans_of p;
      notices = kept n;
      bids = view l;
      activations = registered r;
      produced = readings_of Production p;
      consumed = readings_of Consumption p;
      settled = settled;
    }

-- every figure was accepted
pub record Sound (t : Timetable) (p : PositionTable) (n : NoticeTable) (l : Ladder) (r : Register) : Type 0 where
  pub terms : Terms (times t).opening (times t).parties
  pub energies : Energies (plans_of p) (kept n) (readings_of Production p) (readings_of Consumption p)
  pub trades : Trades (times t).opening (times t).parties (view l) (registered r)
