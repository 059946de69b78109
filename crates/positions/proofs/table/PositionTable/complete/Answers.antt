use Rattle.std.proofs.Common.{refl, ◌∙◌, ◌&&◌, is_some, rules, arith}
use borrow.Author.Tests.{tests}
use Rattle.std.proofs.lemmas.Iterator.{YieldsList-from_range}
use Rattle.std.proofs.lemmas.Iterator.Search.{all_from_yields_List}
use Rattle.positions.specs.declared.record.Meter.TheVariants.{Production, Consumption}
use Rattle.positions.specs.Tables.{readings_of}
use Rattle.positions.proofs.Complete.{complete_all}
use Rattle.positions.proofs.table.PositionTable.complete.Goals as goal

pub returns : goal.returns
returns c =
    let t = c.args.self.now in
    let h = c.args.hour.0 in
    all_from_yields_List (λ p. is_some (readings_of Production t h p) && is_some (readings_of Consumption t h p)) _ _ _ c.all.ensures.ran (YieldsList-from_range 0 c.args.parties _ refl (omega arith)) (λ x b q k. search (rules, tests))
    ∙ complete_all (readings_of Production t h) (readings_of Consumption t h) c.args.parties
