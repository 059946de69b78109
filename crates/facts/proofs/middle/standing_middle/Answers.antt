use Rattle.std.proofs.Common.{ap, ◌∙◌}
use Rattle.facts.specs.Middle.{middle, lowest_standing}
use Rattle.facts.proofs.Ladders.{is_lowest, is_highest}
use Rattle.facts.proofs.middle.standing_middle.Goals as goal

pub returns : goal.returns
returns c =
    let up = c.lowest_price.result in
    let down = c.highest_price.result in
    let spot = c.args.spot in
    let low = is_lowest c.args.hour c.args.ups.now up c.lowest_price.ensures in
    let high = is_highest c.args.hour c.args.downs.now down c.highest_price.ensures in
    record {
      value = c.middle.ensures.value ∙ ap (λ u. middle u down spot) low ∙ ap (λ d. middle (lowest_standing c.args.hour c.args.ups.now) d spot) high;
      reading = (up, down, c.lowest_price.ensures, c.highest_price.ensures, c.middle.ensures.reading);
    }
