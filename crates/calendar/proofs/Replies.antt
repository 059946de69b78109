-- A call is answered within the day, and refused past it.
use Rattle.std.proofs.Common.{◌≡◌, ℕ, ◌<◌, cond, ltb, ℤ, Ok, Err, Result, ap, ◌∙◌}
use Rattle.std.proofs.lemmas.Bool.{cond_below}
use Rattle.refusal.specs.declared.Refusal.{Refusal}
use Rattle.calendar.specs.declared.Instant.{Instant}

pub within : {X : Type 0} (k h : ℕ) (x y : X) (e : Refusal) → k < h → x ≡ y → ◌≡◌ {A = Result X Refusal} (Ok x) (cond (ltb k h) (Ok y) (Err e))
within {X} k h x y e lt same = ap (λ (z : X). Ok z) same ∙ cond_below k h (Ok y) (Err e) lt

abbrev pub instant : ℤ → Instant
instant t = record { 0 = t }
