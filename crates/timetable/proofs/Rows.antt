-- Where no row refuses, each is passed by.
use Rattle.std.proofs.Common.{◌≡◌, ℕ, Bool, true, false, None, Option, refl, arith}
use Rattle.refusal.specs.declared.Refusal.{Refusal}
use Rattle.refusal.specs.Rows.{row}

pub passed : (applies : Bool) (refusal : Refusal) (below : Option Refusal) → row applies refusal below ≡ None → (applies ≡ false) × (below ≡ None)
passed true refusal below e = absurd (let z : ◌≡◌ {A = ℕ} 0 1 = cc in omega arith)
passed false refusal below e = (refl, e)
