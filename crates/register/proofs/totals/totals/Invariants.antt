use Rattle.market.specs.declared.words.Direction.TheVariants.{Up, Down}
use Rattle.register.specs.Totals.{Tells}
use Rattle.register.proofs.Running.{Running}
use Rattle.register.proofs.totals.totals.Given as goal

abbrev pub invariant-loop-place : goal.invariant-loop-place
invariant-loop-place g l = (test : _) → Tells g.F.Fn l.counts test → Running test Up l.activations l.place l.up × Running test Down l.activations l.place l.down
