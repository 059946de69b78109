-- What a check's answer says of its rows.
use Rattle.std.proofs.Common.{◌≡◌, ℕ, Some, None, Ok, Err, Option, refl, arith}
use Rattle.refusal.specs.declared.Refusal.{Refusal}
use Rattle.rows.specs.Rows.{checked}

pub lets_through : (row : Option Refusal) (u : Unit) → Ok u ≡ checked row → row ≡ None
lets_through None u e = refl
lets_through (Some refusal) u e = absurd (let z : ◌≡◌ {A = ℕ} 0 1 = cc in omega arith)

pub refuses : (row : Option Refusal) (refusal : Refusal) → Err refusal ≡ checked row → row ≡ Some refusal
refuses None refusal e = absurd (let z : ◌≡◌ {A = ℕ} 0 1 = cc in omega arith)
refuses (Some other) refusal e = cc
