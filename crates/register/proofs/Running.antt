-- A running total over the first activations of a list, in one direction.
use Rattle.std.proofs.Common.{◌≡◌, ℕ, ◌+◌, ◌-◌, ◌*◌, ◌^◌, ◌<◌, ◌≤◌, min, Bool, true, false, List, length, get_or, take, ℤ, pos, ◌+ℤ◌, ap, ◌∙◌, arith, w64, SFits, to_z, of_z}
use Rattle.std.specs.Int.{saturate_to_bits}
use Rattle.std.proofs.lemmas.List.{take_all}
use Rattle.std.proofs.lemmas.Int.{to_z-of_z, to_z_pos}
use Rattle.std.proofs.lemmas.List.Sums.{sum_by_more}
use Rattle.market.specs.declared.words.Activation.{Activation}
use Rattle.market.specs.declared.words.Direction.{Direction}
use Rattle.register.specs.Totals.{adds, total_of, greatest_total, Total}
use Rattle.market.specs.Words.{energy_of, no_activation, same_direction}

-- z is the sum over the first n activations, each of which adds less than 2^35
pub record Running (counts : Activation → Bool) (direction : Direction) (activations : List Activation) (n : ℕ) (z : ℤ) : Type 0 where
  pub sum : z ≡ pos (min (total_of counts direction (take n activations)) greatest_total)
  pub bound : total_of counts direction (take n activations) ≤ n * (2 ^ 35 - 1)

pub adds_energy : (counts : Activation → Bool) (direction : Direction) (a : Activation)
    → counts a ≡ true → a.direction ≡ direction → adds counts direction a ≡ energy_of a
adds_energy counts direction a c d = grind (arith, c, d)

pub adds_none : (counts : Activation → Bool) (direction : Direction) (a : Activation)
    → counts a ≡ false → adds counts direction a ≡ 0
adds_none counts direction a c = grind (arith, c)

pub adds_other : (counts : Activation → Bool) (direction : Direction) (a : Activation)
    → same_direction direction a.direction ≡ false → adds counts direction a ≡ 0
adds_other counts direction a d = grind (arith, d)

module _ (counts : Activation → Bool) (direction : Direction) (activations : List Activation) (n : ℕ) (y z : ℤ) where
  -- one more, which counts: s is y and its energy g together, as far as 64 bits hold it
  pub running_adds : (s g : ℤ) → Running counts direction activations n y → n < length activations
      → counts (get_or activations n no_activation) ≡ true → (get_or activations n no_activation).direction ≡ direction
      → g ≡ pos (energy_of (get_or activations n no_activation)) → energy_of (get_or activations n no_activation) < 2 ^ 35
      → s ≡ saturate_to_bits 63 (y +ℤ to_z w64 (of_z w64 g)) → SFits w64 s → z ≡ to_z w64 (of_z w64 s)
      → Running counts direction activations (n + 1) z
  running_adds s g run within counted way is small plus fits as_read =
      let a : Activation = get_or activations n no_activation in
      let more = sum_by_more (adds counts direction) activations n no_activation within in
      let adding = adds_energy counts direction a counted way in
      let read = ap (λ v. to_z w64 (of_z w64 v)) is ∙ to_z_pos w64 (energy_of a) (omega arith) in
      let with_read = ap (λ v. saturate_to_bits 63 (y +ℤ v)) read in
      let with-sum = ap (λ v. saturate_to_bits 63 (v +ℤ pos (energy_of a))) run.sum in
      let onto = as_read ∙ to_z-of_z w64 s fits ∙ plus ∙ with_read ∙ with-sum in
      record { sum = onto ∙ ap pos (omega arith); bound = omega (arith, run.bound) }

  -- one more, which adds nothing
  pub running_keeps : Running counts direction activations n y → n < length activations
      → adds counts direction (get_or activations n no_activation) ≡ 0 → z ≡ y
      → Running counts direction activations (n + 1) z
  running_keeps run within is same =
      let more = sum_by_more (adds counts direction) activations n no_activation within in
      record { sum = same ∙ run.sum ∙ ap pos (omega arith); bound = omega (arith, run.bound) }

pub running_all : (counts : Activation → Bool) (direction : Direction) (activations : List Activation) (n : ℕ) (z : ℤ)
    → Running counts direction activations n z → length activations ≤ n → n ≤ length activations → Total activations (total_of counts direction activations) z
running_all counts direction activations n z run past within =
    let all = ap (total_of counts direction) (take_all n activations past) in
    record {
      capped = run.sum ∙ ap (λ t. pos (min t greatest_total)) all;
      exact = λ short. run.sum ∙ ap pos (omega (arith, run.bound));
    }
