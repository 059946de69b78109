use Rattle.std.proofs.Common.{take}
use Rattle.std.specs.List.{flat_map}
use Rattle.sheet.specs.Lines.{spaced}
use Rattle.sheet.proofs.lines.write_line.Given as goal

abbrev pub invariant-loop-field : goal.invariant-loop-field
invariant-loop-field g l = g.S.Sink.takes l.initial.sink (flat_map spaced (take l.field-index l.fields)) l.sink
