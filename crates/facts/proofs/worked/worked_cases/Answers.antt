use Rattle.std.proofs.Common.{refl}
use Rattle.market.specs.Energy.{energy}
use Rattle.facts.specs.Minutes.{rose, fell}
use Rattle.facts.proofs.Rows.{row, one, two}
use Rattle.facts.proofs.worked.worked_cases.Goals as goal

pub returns : goal.returns
unfolding energy rose fell
returns c =
    row c.facts_between.ensures
    (row (one c.upward.ensures c.facts_with.ensures)
    (row (one c.upward-2.ensures c.facts_with-2.ensures)
    (row (two c.upward-3.ensures c.downward.ensures c.facts_with-3.ensures)
    (row (two c.downward-2.ensures c.upward-4.ensures c.facts_with-4.ensures)
    (row (two c.upward-5.ensures c.downward-3.ensures c.facts_with-5.ensures)
    (row (one c.example.ensures c.facts_with-6.ensures) refl))))))
