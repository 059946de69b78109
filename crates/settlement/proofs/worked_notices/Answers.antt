use Rattle.std.proofs.Common.{◌≡◌, pos, neg_ℤ}
use Rattle.settlement.specs.Hour.{counted}
use Rattle.settlement.proofs.worked_notices.Goals as goal

pub returns : goal.returns
unfolding counted
returns c =
    let first : c.counted.result.0 ≡ pos 0 = c.counted.ensures in
    let second : c.counted-2.result.0 ≡ neg_ℤ (pos 20_000) = c.counted-2.ensures in
    cc
