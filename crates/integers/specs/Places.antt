-- Values by number, with another value at one place.
use Rattle.std.specs.Prelude.{ℕ, cond, ◌==◌}

abbrev pub at : {X : Type 0} → ℕ → X → (ℕ → X) → ℕ → X
at k x f j = cond (j == k) x (f j)

-- by position first, then by party
abbrev pub at_party : {X : Type 0} → ℕ → ℕ → X → (ℕ → ℕ → X) → ℕ → ℕ → X
at_party h p x f = at h (at p x (f h)) f
