-- The law of a whole run.
use Rattle.std.specs.Prelude.{◌≡◌, ℕ, List, [], ◌∷◌, length, ℤ, vec_items}
use Rattle.calendar.specs.declared.Date.{Date}
use Rattle.timetable.specs.Opening.{Opening, opened_times}
use Rattle.pricing.specs.declared.Facts.{Facts}
use Rattle.pricing.specs.declared.Prices.{Prices}
use Rattle.journal.specs.Journal.{Journal, Start, Finish, figures}
use Rattle.journal.specs.Lawful.{LawfulJournal}
use Rattle.journal.specs.Reckoned.{account, operator_account, account_at, operator_at}
use Rattle.journal.specs.Sums.{ThreeSums}
use Rattle.day.specs.View.{metered}
use Rattle.replay.specs.declared.calls.MeteredCall.{MeteredCall}
use Rattle.replay.specs.declared.calls.PlannedCall.{PlannedCall}
use Rattle.replay.specs.declared.calls.RunningCall.{RunningCall}
use Rattle.replay.specs.declared.run.Replay.{Replay}
use Rattle.replay.specs.Calls.{planned_row, planned_entry, running_row, running_entry, metered_row, metered_entry}
use Rattle.replay.specs.Runs.{journal_of, Answered}

-- what the day was opened with
abbrev pub opening_for : Date → List ℤ → Opening
opening_for date prices = (opened_times date prices).opening

-- the journal of the accepted calls, at the end of each stage
abbrev pub planned_journal : List PlannedCall → Replay → Journal
planned_journal planned run = journal_of planned_entry planned (vec_items run.planned) []

abbrev pub running_journal : List PlannedCall → List RunningCall → Replay → Journal
running_journal planned running run = journal_of running_entry running (vec_items run.running) (Start ∷ planned_journal planned run)

abbrev pub metered_journal : {P : Type 0} → (P → Facts → Prices) → List PlannedCall → List RunningCall → List (MeteredCall P) → Replay → Journal
metered_journal meaning planned running calls run = journal_of (metered_entry meaning) calls (vec_items run.metered) (Finish ∷ running_journal planned running run)

-- Every call of the script was made and has its answer; the day's figures are those reckoned from the accepted calls;
-- and the three sums hold, of the whole day and of what it was at the end of each stage before.
pub record Law {P : Type 0} (meaning : P → Facts → Prices) (date : Date) (prices : List ℤ) (planned : List PlannedCall) (running : List RunningCall) (calls : List (MeteredCall P)) (run : Replay) : Type 0 where
  pub all_planned : length (vec_items run.planned) ≡ length planned
  pub all_running : length (vec_items run.running) ≡ length running
  pub all_metered : length (vec_items run.metered) ≡ length calls
  pub planned_answers : Answered planned_row planned_entry (opening_for date prices) planned (vec_items run.planned) []
  pub running_answers : Answered running_row running_entry (opening_for date prices) running (vec_items run.running) (Start ∷ planned_journal planned run)
  pub metered_answers : Answered metered_row (metered_entry meaning) (opening_for date prices) calls (vec_items run.metered) (Finish ∷ running_journal planned running run)
  -- the day answers its facts, imbalances and accounts by these figures
  pub reckoned : metered run.day ≡ figures (opening_for date prices) (metered_journal meaning planned running calls run)
  pub lawful : LawfulJournal (opening_for date prices) (metered_journal meaning planned running calls run)
  -- the accounts that the day answers are those of the journal
  pub accounts : (p : ℕ) → account_at (metered run.day) p ≡ account (opening_for date prices) (metered_journal meaning planned running calls run) p
  pub operator : operator_at (metered run.day) ≡ operator_account (opening_for date prices) (metered_journal meaning planned running calls run)
  pub sums : ThreeSums (opening_for date prices) (metered_journal meaning planned running calls run)
  pub sums_before_finish : ThreeSums (opening_for date prices) (running_journal planned running run)
  pub sums_before_start : ThreeSums (opening_for date prices) (planned_journal planned run)
