use Rattle.std.proofs.Common.{rules, tests}
use Rattle.std.proofs.lemmas.Iterator.{YieldsList-from_map, YieldsList-from_slice}
use Rattle.std.proofs.lemmas.Iterator.Consumers.{YieldsList-at, YieldsList-from_filter}
use Rattle.ladder.proofs.Extremes.{lowest, of_hour, picked_by, standing_extreme}
use Rattle.ladder.proofs.standing.lowest_price.Goals as goal

pub returns : goal.returns
returns c =
    let hour = c.args.hour in
    let bids = c.args.bids.now in
    standing_extreme lowest hour bids _
    (picked_by _ c.map.result _ c.map.ensures.runs (assumption)
    (YieldsList-from_map _ _
    (YieldsList-at c.map.ensures.source
    (YieldsList-from_filter _ (of_hour hour) (YieldsList-at c.filter.ensures.source (YieldsList-from_slice bids cc)) c.filter.ensures.closure (λ x r q k. search (rules, tests))))
    c.map.ensures.closure (λ x r q k. search rules)))
