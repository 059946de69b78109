use Rattle.std.proofs.Common.{◌≡◌, arith}
use Rattle.sheet.proofs.Taken.{turn_more}
use Rattle.sheet.proofs.lines.write_lines.Goals as goal
use Rattle.sheet.proofs.lines.write_lines.Goals.{in-Some, in_default}

pub loop-i-init : goal.loop-i-init
loop-i-init g c = λ text spells. g.met.S.Sink.laws.nothing _

pub loop-i-preserved : goal.loop-i-preserved
loop-i-preserved g c = λ text spells.
    let laws = g.met.S.Sink.laws in
    let line = spells c.loop-i.i c.fields_of.result c.loop-i-test.true c.fields_of.ensures in
    turn_more laws text c.loop-i.i (c.loop-i.invariant text spells)
    (elim c.match-fields_of.branch [
      | in-Some w ↦ rw (w.sink-is, (rw w.in-Some.is at line), ← w.as_slice.ensures) w.write_line.ensures
      | in_default w ↦ rw (w.sink-is, (rw w.in_default.is at line)) (laws.nothing _)
    ])

pub returns : goal.returns
returns g c = λ text spells.
    let last : c.loop-i.i ≡ c.args.count = omega arith in
    rw (← last) (c.loop-i.invariant text spells)
