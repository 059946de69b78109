use Rattle.std.proofs.lemmas.List.{take_all}
use Rattle.sheet.proofs.Taken.{field_more}
use Rattle.sheet.proofs.lines.write_line.Goals as goal

pub loop-field-init : goal.loop-field-init
loop-field-init g c = g.met.S.Sink.laws.nothing _

pub loop-field-preserved : goal.loop-field-preserved
loop-field-preserved g c =
    let laws = g.met.S.Sink.laws in
    field_more laws c.args.fields.now c.loop-field.field-index _ c.loop-field-test.true c.loop-field.invariant (laws.append c.put-in-loop-field.ensures c.put_field.ensures)

pub returns : goal.returns
returns g c =
    let laws = g.met.S.Sink.laws in
    let fields = rw (take_all c.loop-field.field-index c.args.fields.now c.loop-field-test.false) at c.loop-field.invariant in
    laws.append (laws.append c.put.ensures fields) c.put-2.ensures
