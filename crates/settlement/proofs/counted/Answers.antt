use Rattle.std.proofs.Common.{arith}
use Rattle.std.proofs.lemmas.Int.{ints}
use Rattle.settlement.proofs.Trade.{counted_all, counted_none}
use Rattle.settlement.proofs.counted.Goals as goal

pub returns-then-from-eq0 : goal.returns-then-from-eq0
returns-then-from-eq0 c = counted_all c.args.sent.0 c.args.back.0 (omega (arith, ints))

pub returns-else-from-eq0 : goal.returns-else-from-eq0
returns-else-from-eq0 c = counted_none c.args.sent.0 c.args.back.0 (λ e. c.if-from-eq0.false (omega (arith, ints)))
