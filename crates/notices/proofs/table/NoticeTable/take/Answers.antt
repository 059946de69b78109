use Rattle.std.proofs.Common.{sym, rules}
use Rattle.ordered.specs.Listed.{items, space_of}
use Rattle.refusal.proofs.Outcomes.{accepted}
use Rattle.notices.specs.Kept.{notice_row}
use Rattle.notices.proofs.Taken.{replaces, zero_row, zero_found, zero_none, put_outcome}
use Rattle.notices.proofs.table.NoticeTable.take.Goals as goal

pub returns-in-Some : goal.returns-in-Some
returns-in-Some c =
    let table = c.args.self.now in
    let n = c.args.notice in
    let xs = items table.notices in
    record {
      outcome = accepted (notice_row n xs) _ _ tt (zero_row n xs (sym c.if-is_zero.ensures)) (zero_found n xs (items c.take.new.self) c.in-Some.place (sym c.if-is_zero.ensures) table.rising c.in-Some.ensures.some c.take.ensures.items);
      replaces = replaces n xs;
    }

pub returns-in_default : goal.returns-in_default
returns-in_default c =
    let table = c.args.self.now in
    let n = c.args.notice in
    let xs = items table.notices in
    record {
      outcome = accepted (notice_row n xs) _ _ tt (zero_row n xs (sym c.if-is_zero.ensures)) (zero_none n xs (sym c.if-is_zero.ensures) (sym (c.in_default.ensures.test table.rising)));
      replaces = replaces n xs;
    }

pub returns-clause-outcome : goal.returns-clause-outcome
returns-clause-outcome c =
    let table = c.args.self.now in
    put_outcome c.args.notice (items table.notices) (items c.put.new.self) (space_of table.notices) c.put.result c.map_err.result (sym c.if-is_zero.ensures) table.room (c.put.ensures.test table.rising) (c.put.ensures.items table.rising) (search rules)

pub returns-clause-replaces : goal.returns-clause-replaces
returns-clause-replaces c = replaces c.args.notice (items c.args.self.now.notices)
