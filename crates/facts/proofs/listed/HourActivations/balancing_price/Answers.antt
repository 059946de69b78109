use Rattle.std.proofs.Common.{◌∙◌, subst, sym, rules, tests}
use Rattle.std.proofs.lemmas.Iterator.{YieldsList-from_map, YieldsList-from_slice}
use Rattle.std.proofs.lemmas.Iterator.Consumers.{YieldsList-at, YieldsList-from_filter}
use Rattle.market.specs.declared.words.Direction.TheVariants.{Up, Down}
use Rattle.ladder.proofs.Extremes.{picked_by}
use Rattle.facts.specs.Prices.{sets_price, ExtremeOrSpot, NoFurther}
use Rattle.facts.proofs.Setting.{Furthest, furthest_by, is_balancing, reads_balancing}
use Rattle.facts.proofs.listed.HourActivations.balancing_price.Goals as goal
use Rattle.facts.proofs.listed.HourActivations.balancing_price.Goals.{in-Up, in-Down}

pub returns : goal.returns
returns c =
    let direction = c.args.direction in
    let minutes = c.args.minutes in
    let spot = c.args.spot in
    let hour = c.args.self.now.hour in
    let activations = c.args.self.now.activations.now in
    let furthest : Furthest direction minutes spot hour activations c.match-direction.furthest =
    elim c.match-direction.branch [
      | in-Up w ↦
          furthest_by direction minutes spot hour activations Up _ _ w.in-Up.is w.furthest-is
          (picked_by _ c.map-prices.result _ c.map-prices.ensures.runs (assumption)
          (YieldsList-from_map _ _
          (YieldsList-at c.map-prices.ensures.source
          (YieldsList-from_filter _ (sets_price minutes hour direction) (YieldsList-at c.filter.ensures.source (YieldsList-from_slice activations cc)) c.filter.ensures.closure (λ x r q k. search (rules, tests))))
          c.map-prices.ensures.closure (λ x r q k. search rules)))
      | in-Down w ↦
          furthest_by direction minutes spot hour activations Down _ _ w.in-Down.is w.furthest-is
          (picked_by _ c.map-prices.result _ c.map-prices.ensures.runs (assumption)
          (YieldsList-from_map _ _
          (YieldsList-at c.map-prices.ensures.source
          (YieldsList-from_filter _ (sets_price minutes hour direction) (YieldsList-at c.filter.ensures.source (YieldsList-from_slice activations cc)) c.filter.ensures.closure (λ x r q k. search (rules, tests))))
          c.map-prices.ensures.closure (λ x r q k. search rules)))
    ] in
    record {
      value = c.unwrap_or.ensures ∙ is_balancing direction minutes spot hour activations _ furthest;
      reading = subst (ExtremeOrSpot (NoFurther direction) (sets_price minutes hour direction) spot activations) (sym c.unwrap_or.ensures) (reads_balancing direction minutes spot hour activations _ furthest);
    }
