use Rattle.std.proofs.Common.{rules}
use Rattle.ordered.specs.Listed.{items}
use Rattle.notices.proofs.Taken.{looked_like}
use Rattle.notices.proofs.table.NoticeTable.energy_like.Goals as goal

pub returns : goal.returns
returns c =
    let table = c.args.self.now in
    looked_like c.args.like.now (items table.notices) c.find.result c.and_then.result _ table.rising c.find.ensures.some (c.find.ensures.test table.rising) (search rules) (search rules)
