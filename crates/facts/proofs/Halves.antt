-- Halves rounded down.
use Rattle.std.proofs.Common.{ℤ, pos, negsuc, ◌+ℤ◌, ◌≤ℤ◌, ◌<ℤ◌, Some, None, Option, refl, arith}
use Rattle.std.proofs.lemmas.Int.{ints}
use Rattle.units.specs.declared.Price.{Price}
use Rattle.facts.specs.Middle.{half, middle, MidpointOrSpot}

half_below : (z : ℤ) → (half z +ℤ half z) ≤ℤ z
half_below (pos n) = omega (arith, ints)
half_below (negsuc n) = omega (arith, ints)

half_next : (z : ℤ) → z <ℤ ((half z +ℤ pos 1) +ℤ (half z +ℤ pos 1))
half_next (pos n) = omega (arith, ints)
half_next (negsuc n) = omega (arith, ints)

pub middle_is : (up down : Option Price) (spot : Price) → MidpointOrSpot up down spot (middle up down spot)
middle_is None None spot = refl
middle_is None (Some q) spot = refl
middle_is (Some p) None spot = refl
middle_is (Some p) (Some q) spot = record { not_above = half_below (p.0 +ℤ q.0); no_next = half_next (p.0 +ℤ q.0) }
