use Rattle.std.proofs.Common.{sym, refl, ap, ◌∙◌}
use Rattle.positions.specs.Records.{with_reading}
use Rattle.positions.proofs.Placed.{record_read, was_read}
use Rattle.positions.proofs.table.PositionTable.set_reading.Goals as goal

pub returns-then-in_table : goal.returns-then-in_table
returns-then-in_table c =
    let there = sym c.if-in_table.ensures in
    let row = c.index_mut.ensures.value in
    was_read c.args.self.now _ c.args.hour.0 c.args.party.0 c.index_mut.result.now _ there row refl c.args.meter c.args.energy (c.read.ensures ∙ ap (with_reading c.args.meter c.args.energy) (record_read _ _ _ _ there row))
