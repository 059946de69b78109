-- What comes of a call that may be refused.
use Rattle.std.specs.Prelude.{◌≡◌, Some, None, Ok, Err, Option, Result}
use Rattle.refusal.specs.declared.Refusal.{Refusal}

-- where a row of the table applies, the call is refused so and nothing has moved;
-- where none does, it is accepted, with an answer of which this is done, and it is never refused otherwise
abbrev pub Outcome : {X : Type 0} → Option Refusal → Result X Refusal → Type 0 → (X → Type 0) → Type 0
Outcome (Some refusal) r Unmoved Done = (r ≡ Err refusal) × Unmoved
Outcome None (Ok x) Unmoved Done = Done x
Outcome None (Err refusal) Unmoved Done = ⊥
