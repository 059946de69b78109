-- The balance delta, one activation after the other.
use Rattle.std.proofs.Common.{◌≡◌, ℕ, ◌-◌, ◌*◌, ◌^◌, ◌<◌, ◌≤◌, List, [], ◌∷◌, ◌++◌, length, ℤ, pos, ◌+ℤ◌, ◌-ℤ◌, refl, ◌∙◌, arith}
use Rattle.std.specs.Int.{saturate_to_bits}
use Rattle.std.proofs.lemmas.List.{length_push}
use Rattle.std.proofs.lemmas.Int.{ints}
use Rattle.std.proofs.lemmas.List.Sums.{sum_by_push}
use Rattle.units.specs.declared.Position.{Position}
use Rattle.market.specs.declared.words.Activation.{Activation}
use Rattle.market.specs.declared.words.Direction.TheVariants.{Up, Down}
use Rattle.register.specs.Totals.{Few}
use Rattle.facts.specs.Minutes.{power_of, power, delta}

held : (z : ℤ) (up down : ℕ) → up < 2 ^ 61 → down < 2 ^ 61 → z ≡ pos up -ℤ pos down → saturate_to_bits 63 z ≡ z
held z up down u d e = grind (arith, ints)

module _ (hour : Position) (minute : ℕ) where
  -- z is the delta of the activations, each of which has a power below 2^32
  pub record Running (activations : List Activation) (z : ℤ) : Type 0 where
    pub sum : Few activations → z ≡ delta hour activations minute
    pub up : power hour Up minute activations ≤ length activations * (2 ^ 32 - 1)
    pub down : power hour Down minute activations ≤ length activations * (2 ^ 32 - 1)

  -- z is y and the swing of one more activation together, as far as 64 bits hold it
  abbrev pub Swung : Activation → ℤ → ℤ → Type 0
  Swung a y z =
      (g : ℤ) × (g ≡ pos (power_of hour Up minute a) -ℤ pos (power_of hour Down minute a)) × (power_of hour Up minute a < 2 ^ 32) × (power_of hour Down minute a < 2 ^ 32)
      × (z ≡ saturate_to_bits 63 (y +ℤ g))

  pub running_none : Running [] (pos 0)
  running_none = record { sum = λ _. refl; up = omega arith; down = omega arith }

  pub running_more : (activations : List Activation) (a : Activation) (y z : ℤ) → Running activations y → Swung a y z → Running (activations ++ a ∷ []) z
  running_more activations a y z run (g, swing, u, d, plus) =
      let up = sum_by_push (power_of hour Up minute) activations a in
      let down = sum_by_push (power_of hour Down minute) activations a in
      let longer = length_push activations a in
      let up-bound = run.up in
      let down-bound = run.down in
      record {
        sum = λ short.
            let before = run.sum (omega arith) in
            let after : (y +ℤ g) ≡ delta hour (activations ++ a ∷ []) minute = omega (arith, ints) in
            plus ∙ held (y +ℤ g) (power hour Up minute (activations ++ a ∷ [])) (power hour Down minute (activations ++ a ∷ [])) (omega arith) (omega arith) after ∙ after;
        up = omega arith;
        down = omega arith;
      }
