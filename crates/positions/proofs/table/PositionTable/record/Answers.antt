use Rattle.std.proofs.Common.{◌≡◌, [], get_or, ap, ◌∙◌, arith, rules}
use Rattle.positions.specs.declared.record.Meter.TheVariants.{Production, Consumption}
use Rattle.positions.specs.Records.{plan_in, reading_in}
use Rattle.positions.specs.Tables.{records_of}
use Rattle.positions.proofs.Placed.{found, match_then, read_at}
use Rattle.positions.proofs.table.PositionTable.record.Goals as goal

pub returns : goal.returns
returns c =
    let is : c.unwrap_or_default.result ≡ records_of c.args.self.now c.args.hour.0 c.args.party.0 = found c.args.self.now c.args.hour.0 c.args.party.0 c.get.result c.and_then.result c.unwrap_or_default.result
    (c.get.ensures.lookup.4 (omega arith) [] ∙ ap (λ xs. get_or xs c.args.hour.0 []) c.deref.ensures.value) (match_then c.get.result _ _ _ c.and_then.ensures (λ x p. search (rules, read_at))) (rw c.copied.ensures at c.unwrap_or_default.ensures) in
    record { plan = ap plan_in is; produced = ap (reading_in Production) is; consumed = ap (reading_in Consumption) is }
