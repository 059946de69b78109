use Rattle.std.proofs.Common.{◌≡◌, ◌+◌, ◌-◌, ◌≤◌, ap, ◌∙◌, arith, w64, rules}
use Rattle.register.specs.Totals.{Few}
use Rattle.market.specs.Figures.{minutes_in_hour}
use Rattle.std.proofs.lemmas.Int.{to_z-of_z}
use Rattle.facts.specs.Minutes.{delta}
use Rattle.facts.proofs.Courses.{rose_more, fell_more, rose_all, fell_all, reads}
use Rattle.facts.proofs.listed.HourActivations.rose_and_fell.Goals as goal

pub loop-minute-preserved : goal.loop-minute-preserved
loop-minute-preserved c = λ short.
    let hour = c.args.self.now.hour in
    let activations = c.args.self.now.activations.now in
    let m = c.loop-minute.minute in
    let inv = c.loop-minute.invariant short in
    let here = to_z-of_z w64 c.delta-here.result (search rules) ∙ c.delta-here.ensures short in
    let one : 1 ≤ m = c.loop-minute.auto.minute in
    let same : m ≡ m + 1 - 1 = omega arith in (
      here ∙ ap (delta hour activations) same,
      rose_more hour activations m _ _ _ one inv.1 inv.0 here,
      fell_more hour activations m _ _ _ one inv.2 inv.0 here,
    )

pub returns : goal.returns
returns c =
    let hour = c.args.self.now.hour in
    let activations = c.args.self.now.activations.now in
    let end : c.loop-minute.minute ≡ minutes_in_hour = omega arith in
    let rose = λ (short : Few activations). rose_all hour activations c.loop-minute.minute c.loop-minute.rose end (c.loop-minute.invariant short).1 in
    let fell = λ (short : Few activations). fell_all hour activations c.loop-minute.minute c.loop-minute.fell end (c.loop-minute.invariant short).2 in
    record {
      value = λ short. let r = rose short in let f = fell short in cc;
      reading = λ short. reads hour activations _ _ (rose short) (fell short);
    }
