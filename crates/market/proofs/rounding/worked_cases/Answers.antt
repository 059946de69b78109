use Rattle.std.proofs.Common.{rules}
use Rattle.market.specs.Energy.{energy}
use Rattle.market.proofs.rounding.worked_cases.Goals as goal

pub returns : goal.returns
unfolding energy
returns c = search rules
