use Rattle.std.proofs.Common.{refl}
use Rattle.ordered.proofs.Lexical.{lex_compared}
use Rattle.market.specs.contracts.words.DirectionOrd.TheImpl as direction_ord
use Rattle.market.specs.Order.{bid_key}
use Rattle.market.proofs.Keys.{bid_alike}
use Rattle.market.proofs.order.BidRanked.compare.Goals as goal

pub returns : goal.returns
returns c =
    let a = c.args.self.now in
    let b = c.args.other.now in
    lex_compared bid_key a b c.cmp.result (rw (c.cmp.ensures, c.key.ensures, c.key-2.ensures) (bid_alike (direction_ord.ghosts).cmp refl refl refl refl a b))
