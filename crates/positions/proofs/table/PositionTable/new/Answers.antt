use Rattle.std.proofs.Common.{replicate, ap, ◌∙◌}
use Rattle.market.specs.Figures.{most_hours, most_parties}
use Rattle.positions.proofs.Placed.{all_empty, copied, no_record_from}
use Rattle.positions.proofs.table.PositionTable.new.Goals as goal

pub returns : goal.returns
returns c =
    all_empty _
    (c.in_ok-hours.ensures.items_if_clones_equal (λ y same. copied y most_parties _ same)
    ∙ ap (λ r. replicate most_hours (replicate most_parties r)) (no_record_from _ (assumption)))
