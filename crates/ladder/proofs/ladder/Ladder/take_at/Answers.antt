use Rattle.std.proofs.Common.{◌≤◌, length, sym, ap, ◌∙◌, arith}
use Rattle.std.specs.List.{slice_get}
use Rattle.ordered.specs.Listed.{items}
use Rattle.market.specs.declared.words.Direction.TheVariants.{Up, Down}
use Rattle.ladder.specs.Ladder.{bids_of, view}
use Rattle.ladder.proofs.Counts.{count_removed, length_removed}
use Rattle.ladder.proofs.Invariant.{Fewer, fresh_fewer, once_fewer, side_removed}
use Rattle.ladder.proofs.Taken.{taken_down, taken_up}
use Rattle.ladder.proofs.ladder.Ladder.take_at.Goals as goal

pub invariant_of-self : goal.invariant_of-self
invariant_of-self c =
    let l = c.args.self.now in
    let k = c.args.place in
    let xs = items l.up in
    let ys = items l.down in
    let us = items c.take.new.self in
    let e = c.take.ensures.items in
    let shorter : length us ≤ length xs = length_removed xs us k e in
    let fewer : Fewer xs ys us ys = λ r. let f = count_removed r xs us k e in omega arith in
    record { upward = side_removed Up xs us k e l.upward; downward = l.downward; space = (c.take.ensures.space ∙ l.space.0, l.space.1); room = (omega (arith, l.room.0), l.room.1); once = once_fewer xs ys us ys fewer l.once; fresh = fresh_fewer l.given xs ys us ys fewer l.fresh }

pub invariant_of-self-in-Down : goal.invariant_of-self-in-Down
invariant_of-self-in-Down c =
    let l = c.args.self.now in
    let k = c.args.place in
    let xs = items l.up in
    let ys = items l.down in
    let vs = items c.take-in-Down.new.self in
    let e = c.take-in-Down.ensures.items in
    let shorter : length vs ≤ length ys = length_removed ys vs k e in
    let fewer : Fewer xs ys xs vs = λ r. let f = count_removed r ys vs k e in omega arith in
    record { upward = l.upward; downward = side_removed Down ys vs k e l.downward; space = (l.space.0, c.take-in-Down.ensures.space ∙ l.space.1); room = (omega (arith, l.room.0), l.room.1); once = once_fewer xs ys xs vs fewer l.once; fresh = fresh_fewer l.given xs ys xs vs fewer l.fresh }

pub returns-in-Up : goal.returns-in-Up
returns-in-Up c =
    let l = c.args.self.now in
    let k = c.args.place in
    record {
      value = c.take.ensures.value ∙ sym (ap (λ d. slice_get (bids_of d (view l)) k) c.in-Up.is);
      after = taken_up (items l.up) (items l.down) (items c.take.new.self) l.given k c.take.result l.once c.take.ensures.items c.take.ensures.value;
    }

pub returns-in-Down : goal.returns-in-Down
returns-in-Down c =
    let l = c.args.self.now in
    let k = c.args.place in
    record {
      value = c.take-in-Down.ensures.value ∙ sym (ap (λ d. slice_get (bids_of d (view l)) k) c.in-Down.is);
      after = taken_down (items l.up) (items l.down) (items c.take-in-Down.new.self) l.given k c.take-in-Down.result l.once c.take-in-Down.ensures.items c.take-in-Down.ensures.value;
    }
