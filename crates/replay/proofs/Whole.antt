-- The law of a whole run, from what stands at the end of each stage.
use Rattle.std.proofs.Common.{◌≡◌, List, [], ◌∷◌, length, ℤ, vec_items, sym, ap, ◌∙◌, subst}
use Rattle.calendar.specs.declared.Date.{Date}
use Rattle.timetable.specs.Opening.{Opening}
use Rattle.pricing.specs.declared.Facts.{Facts}
use Rattle.pricing.specs.declared.Prices.{Prices}
use Rattle.journal.specs.Figures.{Figures, opened}
use Rattle.journal.specs.Journal.{Journal, Start, Finish}
use Rattle.journal.specs.Lawful.{LawfulOpening, LawfulJournal}
use Rattle.journal.specs.Reckoned.{account_at, operator_at}
use Rattle.journal.proofs.Law.{three_sums_lem}
use Rattle.day.specs.View.{metered}
use Rattle.replay.specs.declared.calls.MeteredCall.{MeteredCall}
use Rattle.replay.specs.declared.calls.PlannedCall.{PlannedCall}
use Rattle.replay.specs.declared.calls.RunningCall.{RunningCall}
use Rattle.replay.specs.declared.run.Replay.{Replay}
use Rattle.replay.specs.Calls.{planned_row, planned_entry, running_row, running_entry, metered_row, metered_entry}
use Rattle.replay.specs.Law.{opening_for, planned_journal, running_journal, metered_journal, Law}
use Rattle.replay.specs.Runs.{Ran}

-- a day is opened, started, finished
pub just_opened : (o : Opening) (f : Figures) → f ≡ opened o → LawfulOpening f.opening → LawfulJournal o []
just_opened o f is lawful = subst (λ g. LawfulOpening g.opening) is lawful

module _ {P : Type 0} (meaning : P → Facts → Prices) (date : Date) (prices : List ℤ) (planned : List PlannedCall) (running : List RunningCall) (calls : List (MeteredCall P)) (run : Replay) where
  pub whole : (f g : Figures) → length (vec_items run.planned) ≡ length planned → length (vec_items run.running) ≡ length running → length (vec_items run.metered) ≡ length calls
      → Ran planned_row planned_entry (opening_for date prices) planned (vec_items run.planned) [] f
      → Ran running_row running_entry (opening_for date prices) running (vec_items run.running) (Start ∷ planned_journal planned run) g
      → Ran metered_row (metered_entry meaning) (opening_for date prices) calls (vec_items run.metered) (Finish ∷ running_journal planned running run) (metered run.day)
      → Law meaning date prices planned running calls run
  whole f g all_planned all_running all_metered one two three =
      let o : Opening = opening_for date prices in
      let j : Journal = metered_journal meaning planned running calls run in
      let sums = three_sums_lem o j three.lawful in
      record {
        all_planned = all_planned;
        all_running = all_running;
        all_metered = all_metered;
        planned_answers = one.answered;
        running_answers = two.answered;
        metered_answers = three.answered;
        reckoned = three.reckoned;
        lawful = three.lawful;
        accounts = λ p.
            ap (λ x. account_at x p) three.reckoned ∙ sym (sums.accounts p);
        operator = ap operator_at three.reckoned ∙ sym sums.operator;
        sums = sums;
        sums_before_finish = three_sums_lem o (running_journal planned running run) two.lawful;
        sums_before_start = three_sums_lem o (planned_journal planned run) one.lawful;
      }
