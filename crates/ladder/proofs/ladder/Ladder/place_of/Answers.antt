use Rattle.std.proofs.Common.{rules, subst, tests, of_calls}
use Rattle.ladder.specs.Ladder.{view}
use Rattle.ladder.specs.Standing.{First, Numbered}
use Rattle.ladder.proofs.Found.{place_found}
use Rattle.ladder.proofs.ladder.Ladder.place_of.Goals as goal

pub returns-clause-value : goal.returns-clause-value
returns-clause-value c =
    let h = subst (λ xs. First (Numbered c.args.receipt) xs c.find_receipt.result) c.as_slice.ensures c.find_receipt.ensures in
    place_found c.args.receipt (view c.args.self.now) c.find_receipt.result c.map.result c.or_else.result _ h
    (search (rules, tests))
    c.or_else.ensures
    (λ post. search (rules, tests, of_calls))
