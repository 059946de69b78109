use Rattle.std.proofs.Common.{◌^◌, ◌-ℤ◌, ap, ◌∙◌, arith, w64, SFits, rules}
use Rattle.billing.proofs.Wide.{Reads, from64, looser, apart, without_fits, without_is}
use Rattle.billing.proofs.book.HourBook.production_imbalance.Goals as goal

produced : (c : goal.After-from-3) → Reads (2 ^ 63) c.from.result c.args.metered.produced.0
produced c = let f : SFits w64 c.args.metered.produced.0 = search rules in from64 _ _ f c.from.ensures

plan : (c : goal.After-from-3) → Reads (2 ^ 63) c.from-2.result c.args.metered.plan.0
plan c = let f : SFits w64 c.args.metered.plan.0 = search rules in from64 _ _ f c.from-2.ensures

supplement : (c : goal.After-from-3) → Reads (2 ^ 66) c.from-3.result c.supplement-supplement.result.0
supplement c =
    let f : SFits w64 c.supplement-supplement.result.0 = search rules in looser _ _ (from64 _ _ f c.from-3.ensures)

pub overflow_sub-result-2 : goal.overflow_sub-result-2
overflow_sub-result-2 c =
    without_fits (2 ^ 64) _ _ (apart _ _ _ _ (produced c) (plan c)) _ _ (supplement c) (omega arith)

pub returns : goal.returns
returns c =
    (without_is (2 ^ 64) _ _ (apart _ _ _ _ (produced c) (plan c)) _ _ (supplement c) (omega arith)).is
    ∙ ap (λ z. (c.args.metered.produced.0 -ℤ c.args.metered.plan.0) -ℤ z) c.supplement-supplement.ensures
