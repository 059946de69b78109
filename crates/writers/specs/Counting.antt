-- A text that is counted. Assumes nothing.
use Rattle.std.specs.Prelude.{◌≡◌, ℕ, ◌+◌, ◌-◌, ◌^◌, List, length, min}
use Rattle.std.proofs.Common.{arith, length-append}
use Rattle.writers.specs.declared.sink.Counter.{Counter}
use Rattle.writers.specs.Laws.{SinkLaws}

-- a count past the largest number stays there
abbrev pub saturated : ℕ → ℕ
saturated n = min n (2 ^ 64 - 1)

-- so many more bytes are counted as the text has
abbrev pub counted : Counter → List ℕ → Counter → Type 0
counted s text t = (before : ℕ) → s.count ≡ saturated before → t.count ≡ saturated (before + length text)

pub counted_laws : SinkLaws counted
counted_laws = record {
  nothing = λ s before so_far. omega arith;
  append = λ {s} {t} {u} {first} {second} one two before so_far. omega (arith, length-append first second, two (before + length first) (one before so_far));
}
