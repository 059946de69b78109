use Rattle.std.proofs.Common.{rules}
use Rattle.ladder.specs.Ladder.{bids_of, is_free, view}
use Rattle.ladder.proofs.Found.{first_of, free_found}
use Rattle.ladder.proofs.ladder.Ladder.first_free.Goals as goal

pub returns-in_err-place-clause-value : goal.returns-in_err-place-clause-value
returns-in_err-place-clause-value c = search (rules, free_found)

pub returns-clause-value : goal.returns-clause-value
returns-clause-value c = search (rules, free_found)

pub returns-clause-side : goal.returns-clause-side
returns-clause-side c =
    let direction = c.args.direction in
    first_of direction (is_free c.args.hour.0) (bids_of direction (view c.args.self.now)) _ c.standing-bids.ensures.side.1 (returns-clause-value c)
