use Rattle.ordered.proofs.Lexical.{lex_compared, tuples}
use Rattle.market.specs.Order.{activation_key}
use Rattle.market.proofs.order.ActivationRanked.compare.Goals as goal

pub returns : goal.returns
returns c = lex_compared activation_key c.args.self.now c.args.other.now c.cmp.result (rw (c.cmp.ensures, c.key.ensures, c.key-2.ensures) (simp tuples))
