use Rattle.std.proofs.Common.{◌≡◌, ◌<◌, sym, ◌∙◌, arith}
use Rattle.std.proofs.lemmas.Bool.{cond-true}
use Rattle.std.specs.List.{insert}
use Rattle.ordered.proofs.Placed.{placed_inserted, placed_set, rises_placed}
use Rattle.ordered.proofs.Ensured.{full_test, replaced_test}
use Rattle.ordered.proofs.list.OrderedList.put.Goals as goal

pub returns-in-Ok-clause-test : goal.returns-in-Ok-clause-test
returns-in-Ok-clause-test g c =
    let o = g.met.T.Ranked.order in
    let v = c.args.self.now.records in
    let h = rw c.as_slice.ensures at c.in-Ok.ensures in
    λ _. replaced_test o v.items v.cap c.in-Ok.place c.args.record c.args.record h.0 h.1

pub returns-in-Ok-clause-items : goal.returns-in-Ok-clause-items
returns-in-Ok-clause-items g c =
    let o = g.met.T.Ranked.order in
    let h = rw c.as_slice.ensures at c.in-Ok.ensures in
    λ r. sym (placed_set o c.args.self.now.records.items c.in-Ok.place c.args.record c.args.record r h.0 h.1)

pub returns-in-Ok-clause-rises : goal.returns-in-Ok-clause-rises
returns-in-Ok-clause-rises g c =
    let o = g.met.T.Ranked.order in
    let xs = c.args.self.now.records.items in
    let h = rw c.as_slice.ensures at c.in-Ok.ensures in
    λ r. rw (← placed_set o xs c.in-Ok.place c.args.record c.args.record r h.0 h.1) (rises_placed o xs c.args.record r)

pub returns-in-Err-clause-test : goal.returns-in-Err-clause-test
returns-in-Err-clause-test g c =
    let o = g.met.T.Ranked.order in
    let v = c.args.self.now.records in
    let h = rw c.as_slice.ensures at c.in-Err.ensures in
    λ r. full_test o v.items v.cap c.in-Err.field-0 c.args.record (omega arith) (h.1 r)

pub returns-in-Err-2-clause-items : goal.returns-in-Err-2-clause-items
returns-in-Err-2-clause-items g c =
    let o = g.met.T.Ranked.order in
    let v = c.args.self.now.records in
    let x = c.args.record in
    let k = c.in-Err.field-0 in
    let h = rw c.as_slice.ensures at c.in-Err.ensures in
    let room : v.len < v.cap = omega arith in
    let put : c.insert.new.self.items ≡ insert v.items k x = c.insert.ensures.items ∙ cond-true _ _ _ (c.insert.ensures.succeeds room) in
    λ r. put ∙ sym (placed_inserted o v.items k x h.0 (h.1 r))

pub returns-in-Err-2-clause-rises : goal.returns-in-Err-2-clause-rises
returns-in-Err-2-clause-rises g c =
    let o = g.met.T.Ranked.order in
    λ r. rw (returns-in-Err-2-clause-items g c r) (rises_placed o c.args.self.now.records.items c.args.record r)
