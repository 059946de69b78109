use Rattle.std.proofs.Common.{arith, rules}
use Rattle.replay.proofs.Runs.{none_yet, one_more}
use Rattle.replay.proofs.making.make_all.Goals as goal

pub loop-call-init : goal.loop-call-init
loop-call-init g c =
    record {
      room = search rules;
      all = search rules;
      ran = λ opening before is lawful. rw c.in_ok-answers.ensures.items (none_yet c.args.calls.now is lawful);
    }

pub loop-call-preserved : goal.loop-call-preserved
loop-call-preserved g c =
    let kept = c.loop-call.invariant in
    record {
      room = search rules;
      all = search rules;
      ran = λ opening before is lawful.
          one_more c.call-item.result c.make.result (omega arith) (rw kept.all c.call-item.is) c.push_reserved.ensures.items c.make.ensures.made c.make.ensures.told (kept.ran opening before is lawful);
    }
