use Rattle.std.proofs.Common.{get_or, refl, sym, ap, ◌∙◌, rules}
use Rattle.std.proofs.lemmas.Fn.{says_at}
use Rattle.market.specs.Words.{no_activation, same_direction}
use Rattle.market.specs.declared.words.Activation.{Activation}
use Rattle.market.specs.declared.words.Direction.TheVariants.{Up, Down}
use Rattle.register.proofs.Running.{running_adds, running_keeps, running_all, adds_none, adds_other}
use Rattle.register.proofs.totals.totals.Goals as goal
use Rattle.register.proofs.totals.totals.Goals.{then-counts+in-Up, then-counts+in-Down, else-counts}

pub loop-place-preserved : goal.loop-place-preserved
loop-place-preserved g c = λ test tells.
    let a : Activation = get_or c.args.activations.now c.loop-place.place no_activation in
    let is = tells a c.counts.result (says_at g.F.Fn c.counts.ensures refl) in
    let within = c.loop-place-test.true in
    let inv = c.loop-place.invariant test tells in
    elim c.if-counts.branch [
      | then-counts+in-Up w ↦ (
        running_adds _ Up _ _ _ _ w.saturating_add-up.result w.energy-energy.result.0 inv.0 within
            (sym is ∙ w.if-counts.true) w.in-Up.is w.energy-energy.ensures.value
            w.energy-energy.ensures.bound w.saturating_add-up.ensures (search rules) w.up-is,
        running_keeps _ Down _ _ _ _ inv.1 within (adds_other test Down a (ap (same_direction Down) w.in-Up.is)) w.down-is,
      )
      | then-counts+in-Down w ↦ (
        running_keeps _ Up _ _ _ _ inv.0 within (adds_other test Up a (ap (same_direction Up) w.in-Down.is)) w.up-is,
        running_adds _ Down _ _ _ _ w.saturating_add-down.result w.energy-energy.result.0 inv.1 within
            (sym is ∙ w.if-counts.true) w.in-Down.is w.energy-energy.ensures.value
            w.energy-energy.ensures.bound w.saturating_add-down.ensures (search rules) w.down-is,
      )
      | else-counts w ↦
          let off = sym is ∙ w.if-counts.false in (
            running_keeps _ Up _ _ _ _ inv.0 within (adds_none test Up a off) w.up-is,
            running_keeps _ Down _ _ _ _ inv.1 within (adds_none test Down a off) w.down-is,
          )
    ]

pub returns : goal.returns
returns g c =
    record {
      up = λ test tells. running_all _ Up _ c.loop-place.place _ (c.loop-place.invariant test tells).0 c.loop-place-test.false c.loop-place.auto.place-end;
      down = λ test tells. running_all _ Down _ c.loop-place.place _ (c.loop-place.invariant test tells).1 c.loop-place-test.false c.loop-place.auto.place-end;
    }
