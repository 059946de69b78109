use Rattle.std.proofs.Common.{get_or, sym, refl, ap, subst, ◌∙◌, arith}
use Rattle.std.specs.Option.{option_map, ok_or}
use Rattle.ordered.specs.Listed.{items}
use Rattle.refusal.specs.declared.Refusal.TheVariants.{NoSuchBid}
use Rattle.market.specs.Words.{no_bid}
use Rattle.market.specs.declared.words.Direction.TheVariants.{Up, Down}
use Rattle.ladder.specs.Ladder.{standing_with, view, with_held}
use Rattle.ladder.specs.Sides.{Puts}
use Rattle.ladder.proofs.Found.{found_in, found_is}
use Rattle.ladder.proofs.Invariant.{Fewer, fresh_fewer, once_fewer}
use Rattle.ladder.proofs.Put.{Marked, marked_is, put_marked}
use Rattle.ladder.proofs.ladder.Ladder.hold.Goals as goal
use Rattle.ladder.proofs.ladder.Ladder.hold.Goals.{After-put}

both : (c : goal.After-put) → Marked c.args.self.now c.args.receipt.0 c.args.held c.put.new.up c.put.new.down
both c =
    let l = c.args.self.now in
    let d = c.in_ok-direction.direction in
    let k = c.in_ok-direction.place in
    let at = found_in c.args.receipt (view l) c.place_of.result d k c.in_ok-direction.ensures.ok_part refl c.place_of.ensures.within in
    put_marked l c.args.receipt.0 c.args.held c.put.new.up c.put.new.down d k at.0 (ap (λ v. v.0) at.1)
    (subst (λ zs. Puts Up (with_held c.args.held (get_or zs k no_bid)) l.up c.put.new.up) c.standing.ensures.value c.put.ensures.up)
    (subst (λ zs. Puts Down (with_held c.args.held (get_or zs k no_bid)) l.down c.put.new.down) c.standing.ensures.value c.put.ensures.down)

pub invariant_of-self : goal.invariant_of-self
invariant_of-self c =
    let l = c.args.self.now in
    let p = both c in
    let ups = p.up_back.size in
    let downs = p.down_back.size in
    let fewer : Fewer (items l.up) (items l.down) (items c.put.new.up) (items c.put.new.down) = λ r. let f = p.up_back.counts r in let g = p.down_back.counts r in omega arith in
    record { upward = p.up_back.side; downward = p.down_back.side; space = (c.put.ensures.up.0 ∙ l.space.0, c.put.ensures.down.0 ∙ l.space.1); room = (omega (arith, l.room.0), l.room.1); once = once_fewer _ _ _ _ fewer l.once; fresh = fresh_fewer l.given _ _ _ _ fewer l.fresh }

pub returns : goal.returns
returns c =
    let l = c.args.self.now in
    let k = c.in_ok-direction.place in
    let r = c.args.receipt.0 in
    let some = found_is c.args.receipt (view l) c.place_of.result c.in_ok-direction.direction k c.in_ok-direction.ensures.ok_part c.place_of.ensures.value c.place_of.ensures.within in
    record {
      value = sym (ap (λ o. ok_or (option_map (λ _. tt) o) NoSuchBid) some);
      after = marked_is l r c.args.held c.put.new.up c.put.new.down (standing_with r (view l)) _ (both (goal.at.returns c).After-put) some;
    }
