use Rattle.std.proofs.Common.{◌≡◌, ◌+◌, ◌<◌, length, ap, ◌∙◌, arith}
use Rattle.ordered.specs.Listed.{items}
use Rattle.ladder.proofs.Put.{Added, fresh_more, once_more, put_added}
use Rattle.ladder.proofs.ladder.Ladder.add.Goals as goal
use Rattle.ladder.proofs.ladder.Ladder.add.Goals.{After-put}

both : (c : goal.After-put) → Added c.args.self.now c.bid-bid.result c.put.new.up c.put.new.down
both c =
    let l = c.args.self.now in
    let count : length (items l.up) + length (items l.down) < 512 = let e = c.len.ensures in let f = c.if-len-ge-MOST_BIDS.false in omega arith in
    put_added l c.bid-bid.result c.put.new.up c.put.new.down _ (ap (λ v. v.direction) c.bid-bid.ensures) count c.put.ensures.up c.put.ensures.down

pub invariant_of-self : goal.invariant_of-self
invariant_of-self c =
    let l = c.args.self.now in
    let b = c.bid-bid.result in
    let p = both c in
    let number : b.receipt.0 ≡ l.given + 1 = ap (λ v. v.receipt.0) c.bid-bid.ensures in
    record { upward = p.upward; downward = p.downward; space = (c.put.ensures.up.0 ∙ l.space.0, c.put.ensures.down.0 ∙ l.space.1); room = (let s = p.size in omega arith, omega arith); once = once_more l.given b _ _ _ _ number p.more l.once l.fresh; fresh = fresh_more l.given b _ _ _ _ number p.more l.fresh }
