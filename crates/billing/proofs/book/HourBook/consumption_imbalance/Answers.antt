use Rattle.std.proofs.Common.{◌≡◌, ◌+◌, ◌^◌, ℤ, ◌+ℤ◌, ◌-ℤ◌, refl, ap, ◌∙◌, arith, w64, SFits, rules}
use mir.Syntax.{w128}
use Rattle.std.specs.Int.{saturate_to_bits}
use Rattle.std.proofs.lemmas.Int.{ints, to_z-of_z}
use Rattle.billing.proofs.Wide.{from64, looser, apart, with_fits, with_is, without_fits, without_is}
use Rattle.billing.proofs.book.HourBook.consumption_imbalance.Goals as goal

pub overflow_add-own : goal.overflow_add-own
overflow_add-own c =
    let f : SFits w64 c.args.metered.plan.0 = search rules in
    let g : SFits w64 c.args.metered.consumed.0 = search rules in
    with_fits (2 ^ 64) _ _ (apart _ _ _ _ (from64 _ _ f c.from.ensures) (from64 _ _ g c.from-2.ensures)) _ _ (record { is = refl; near = c.trade_outside-outside.ensures.bound }) (omega arith)

pub overflow_sub-own-2 : goal.overflow_sub-own-2
overflow_sub-own-2 c =
    let f : SFits w64 c.args.metered.plan.0 = search rules in
    let g : SFits w64 c.args.metered.consumed.0 = search rules in
    let h : SFits w64 c.supplement-supplement.result.0 = search rules in
    without_fits (2 ^ 64 + 2 ^ 66) _ _
    (with_is (2 ^ 64) _ _ (apart _ _ _ _ (from64 _ _ f c.from.ensures) (from64 _ _ g c.from-2.ensures)) _ _ (record { is = refl; near = c.trade_outside-outside.ensures.bound }) (omega arith))
    _ _ (looser _ _ (from64 _ _ h c.from-3.ensures)) (omega arith)

joined : (y t u i d o s i' o' s' : ℤ) → y ≡ saturate_to_bits 127 (t +ℤ u) → t ≡ i → u ≡ (d +ℤ o) -ℤ s → i ≡ i' → o ≡ o' → s ≡ s' → y ≡ saturate_to_bits 127 ((d +ℤ (i' +ℤ o')) -ℤ s')
joined y t u i d o s i' o' s' e p q inside outside supplement = e ∙ ap (saturate_to_bits 127) (omega (arith, ints))

pub returns : goal.returns
returns c =
    let f : SFits w64 c.args.metered.plan.0 = search rules in
    let g : SFits w64 c.args.metered.consumed.0 = search rules in
    let h : SFits w64 c.supplement-supplement.result.0 = search rules in
    let i : SFits w128 c.trade_inside.result = search rules in
    let k : SFits w128 c.saturating_add.result = search rules in
    let rest =
    without_is (2 ^ 64 + 2 ^ 66) _ _
    (with_is (2 ^ 64) _ _ (apart _ _ _ _ (from64 _ _ f c.from.ensures) (from64 _ _ g c.from-2.ensures)) _ _ (record { is = refl; near = c.trade_outside-outside.ensures.bound }) (omega arith))
    _ _ (looser _ _ (from64 _ _ h c.from-3.ensures)) (omega arith) in
    joined _ _ _ c.trade_inside.result _ c.trade_outside-outside.result c.supplement-supplement.result.0 _ _ _
    (to_z-of_z w128 _ k ∙ c.saturating_add.ensures) (to_z-of_z w128 _ i) rest.is c.trade_inside.ensures c.trade_outside-outside.ensures.value c.supplement-supplement.ensures
