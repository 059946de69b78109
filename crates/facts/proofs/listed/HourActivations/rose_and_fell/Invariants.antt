use Rattle.std.proofs.Common.{◌≡◌, ◌-◌}
use Rattle.register.specs.Totals.{Few}
use Rattle.facts.specs.Minutes.{delta, rises, falls, any_below}
use Rattle.facts.proofs.listed.HourActivations.rose_and_fell.Given as goal

abbrev pub invariant-loop-minute : goal.invariant-loop-minute
invariant-loop-minute l =
    let hour = l.self.hour in
    let activations = l.self.activations.now in
    Few activations → (l.before ≡ delta hour activations (l.minute - 1))
    × (l.rose ≡ any_below (rises hour activations) l.minute)
    × (l.fell ≡ any_below (falls hour activations) l.minute)
