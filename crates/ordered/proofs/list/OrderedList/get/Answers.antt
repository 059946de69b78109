use Rattle.std.proofs.Common.{ap, ◌∙◌}
use Rattle.std.specs.List.{slice_get}
use Rattle.ordered.proofs.Ensured.{got}
use Rattle.ordered.proofs.list.OrderedList.get.Goals as goal

pub returns : goal.returns
returns g c =
    got c.deref.result.now c.args.place c.get.result c.get.ensures.lookup
    ∙ ap (λ ys. slice_get ys c.args.place) c.deref.ensures.value
