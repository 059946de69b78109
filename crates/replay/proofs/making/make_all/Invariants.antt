use Rattle.std.proofs.Common.{◌≡◌, ◌≤◌, length, vec_items, vec_capacity}
use Rattle.timetable.specs.Opening.{Opening}
use Rattle.journal.specs.Journal.{Journal, figures}
use Rattle.journal.specs.Lawful.{LawfulJournal}
use Rattle.replay.specs.Runs.{Ran}
use Rattle.replay.proofs.making.make_all.Given as goal

-- each call so far has its answer, and there is room for the others
abbrev pub invariant-loop-call : goal.invariant-loop-call
invariant-loop-call g l =
    record {
      room : length l.calls ≤ vec_capacity l.answers;
      all : length (vec_items l.answers) ≡ l.call-index;
      ran : (opening : Opening) (before : Journal) → g.C.Call.shows l.initial.day ≡ figures opening before → LawfulJournal opening before
          → Ran g.C.Call.refused g.C.Call.entry opening l.calls (vec_items l.answers) before (g.C.Call.shows l.day);
    }
