use Rattle.std.proofs.Common.{◌≡◌, ◌+◌, ◌*◌, ◌^◌, ◌<◌, refl, ap, ◌∙◌, arith, w64, SFits, rules}
use Rattle.integers.specs.Sums.{sum_to}
use Rattle.integers.proofs.Distances.{near_weaker, near_zero}
use Rattle.billing.proofs.Wide.{Reads, from64, total_fits, total_more, total_near}
use Rattle.billing.proofs.trade.sum_to.Goals as goal

energy : (g : _) (c : goal.After-from-total g) → Reads (2 ^ 63) c.from-total.result c.energy.result.0
energy g c = let f : SFits w64 c.energy.result.0 = search rules in from64 _ _ f c.from-total.ensures

few : (g : _) (c : goal.After-from-total g) → c.loop-number.number * 2 ^ 63 + 2 ^ 63 < 2 ^ 127
few g c = let most : c.args.count < 2 ^ 64 = search rules in omega (arith, c.loop-number-test.true)

pub loop-number-init : goal.loop-number-init
unfolding sum_to
loop-number-init g c = record { near = near_zero (0 * 2 ^ 63); sum = λ f is. refl }

pub overflow_add-total : goal.overflow_add-total
overflow_add-total g c = total_fits c.loop-number.number _ _ _ c.loop-number.invariant.near (energy g c) (few g c)

pub loop-number-preserved : goal.loop-number-preserved
loop-number-preserved g c =
    record {
      near = total_near c.loop-number.number _ _ _ c.loop-number.invariant.near (energy g c) (few g c);
      sum = λ f is. total_more c.loop-number.number _ _ _ c.loop-number.invariant.near (energy g c) (few g c) f (c.loop-number.invariant.sum f is) (is _ _ c.energy.ensures);
    }

pub returns : goal.returns
returns g c =
    let last : c.loop-number.number ≡ c.args.count = omega arith in
    record {
      value = λ f is. c.loop-number.invariant.sum f is ∙ ap (λ n. sum_to n f) last;
      bound = near_weaker (c.loop-number.number * 2 ^ 63) (c.args.count * 2 ^ 63) _ (omega arith) c.loop-number.invariant.near;
    }
