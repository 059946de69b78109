-- Numbers of 64 bits, signed.
use Rattle.std.specs.Prelude.{◌≡◌, ◌-◌, ◌^◌, ℤ, pos, neg_ℤ, ◌≤ℤ◌}
use Rattle.std.specs.Int.{saturate_to_bits}

-- z fits 64 bits
pub record Fits (z : ℤ) : Type 0 where
  pub low : neg_ℤ (pos (2 ^ 63)) ≤ℤ z
  pub high : z ≤ℤ pos (2 ^ 63 - 1)

-- z where it fits 64 bits, else the greatest or the least number that does
abbrev pub capped : ℤ → ℤ
capped z = saturate_to_bits 63 z

-- r is z as far as 64 bits hold it
pub record Held (z r : ℤ) : Type 0 where
  pub value : r ≡ capped z
  pub exact : Fits z → r ≡ z
