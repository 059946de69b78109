use Rattle.std.proofs.Common.{sym, refl, ap}
use Rattle.positions.proofs.Placed.{record_read, planned, with_plan}
use Rattle.positions.proofs.table.PositionTable.set_plan.Goals as goal

pub returns-then-in_table : goal.returns-then-in_table
returns-then-in_table c =
    let there = sym c.if-in_table.ensures in
    let row = c.index_mut.ensures.value in
    planned c.args.self.now _ c.args.hour.0 c.args.party.0 c.index_mut.result.now _ there row refl c.args.energy (ap (with_plan c.args.energy) (record_read _ _ _ _ there row))
