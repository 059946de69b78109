use Rattle.std.proofs.Common.{ℕ, List}
use Rattle.sheet.specs.Lines.{in_turn, Spells}
use Rattle.sheet.proofs.lines.write_lines.Given as goal

abbrev pub invariant-loop-i : goal.invariant-loop-i
invariant-loop-i g l = (text : ℕ → List ℕ) → Spells l.name g.L.AsSlice.items l.count (goal.F-post g l.fields_of) text → g.S.Sink.takes l.initial.sink (in_turn text l.i) l.sink
