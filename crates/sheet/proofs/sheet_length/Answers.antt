use Rattle.std.proofs.Common.{arith}
use Rattle.sheet.proofs.sheet_length.Goals as goal

pub returns : goal.returns
returns c = omega (arith, c.write_sheet_to.ensures 0 (omega arith))
