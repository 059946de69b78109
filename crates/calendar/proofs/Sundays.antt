-- Sundays are seven days apart, so a month's last one falls on its last seven days.
use Rattle.std.proofs.Common.{◌≡◌, ℕ, ◌+◌, ◌-◌, ◌%◌, ◌<◌, ◌≤◌, arith}

-- base is the number of the month's first day, n its length
pub first : (base n : ℕ) → 7 ≤ n → 1 ≤ n - (base + (n - 1) + 6) % 7
first base n h = omega arith

pub is_sunday : (base n : ℕ) → 7 ≤ n → (base + ((n - (base + (n - 1) + 6) % 7) - 1)) % 7 ≡ 1
is_sunday base n h = omega arith

pub none_later : (base n e : ℕ) → 7 ≤ n → n - (base + (n - 1) + 6) % 7 < e → e ≤ n → (base + (e - 1)) % 7 ≡ 1 → ⊥
none_later base n e h later within s = omega arith
