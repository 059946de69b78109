use Rattle.std.proofs.Common.{subst, w64, ◌∙◌, of_calls, rules, tests}
use Rattle.std.proofs.lemmas.Fn.{fold_over, fronts, slice_gives}
use Rattle.std.proofs.lemmas.Int.{to_z-of_z}
use Rattle.facts.proofs.Swings.{Running, running_more, running_none}
use Rattle.facts.proofs.listed.HourActivations.delta.Goals as goal

pub returns : goal.returns
returns c = λ short.
    let hour = c.args.self.now.hour in
    let minute = c.args.minute in
    let run = subst (λ xs. Running hour minute xs c.fold.result) c.iter.ensures.rest
    (fold_over fronts (λ y. y.now) _ (Running hour minute) _
    (λ xs y x z f' run k. (running_more hour minute xs x.now y z run (search (rules, tests, of_calls)), search (rules, tests, of_calls)))
    _ _ _ _ (slice_gives c.iter.result) (running_none hour minute) c.fold.ensures.ran) in
    to_z-of_z w64 c.fold.result (search rules) ∙ run.sum short
