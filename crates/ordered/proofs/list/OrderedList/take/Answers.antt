use Rattle.std.proofs.Common.{sym, arith}
use Rattle.std.proofs.lemmas.Option.{slice_get_past, slice_get_read}
use Rattle.ordered.proofs.Removed.{removed_past, rises_removed}
use Rattle.ordered.proofs.list.OrderedList.take.Goals as goal

pub returns-then-place-len-clause-value : goal.returns-then-place-len-clause-value
returns-then-place-len-clause-value g c = sym (slice_get_past c.args.self.now.records.items c.args.place (omega arith))

pub returns-then-place-len-clause-items : goal.returns-then-place-len-clause-items
returns-then-place-len-clause-items g c = removed_past c.args.self.now.records.items c.args.place (omega arith)

pub returns-clause-value : goal.returns-clause-value
returns-clause-value g c =
    let v = c.args.self.now.records in
    sym (slice_get_read v.items v.len c.args.place c.remove.result v.ok.0 (omega arith) c.remove.ensures.value)

pub returns-clause-rises : goal.returns-clause-rises
returns-clause-rises g c =
    let o = g.met.T.Ranked.order in
    λ h. rw c.remove.ensures.items (rises_removed o c.args.self.now.records.items c.args.place h)
