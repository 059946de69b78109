-- Energy in whole kilowatt-hours of a power in whole kilowatts over whole minutes.
use Rattle.std.specs.Prelude.{◌≡◌, ℕ, ◌+◌, ◌*◌, ◌/◌, ◌≤◌}

-- kilowatts times minutes over sixty, a half rounded up
unfoldable pub energy : ℕ → ℕ → ℕ
energy power minutes = (power * minutes + 30) / 60

-- what holds of the energy whichever way a half is rounded
pub record Lawful (power minutes e : ℕ) : Type 0 where
  -- no more than a half away from power times minutes over sixty
  pub least : power * minutes ≤ 60 * e + 30
  pub greatest : 60 * e ≤ power * minutes + 30
  -- some, from a thousand kilowatts and one minute on
  pub positive : 1_000 ≤ power → 1 ≤ minutes → 1 ≤ e
  -- over at most an hour, at most what the whole hour gives
  pub bounded : minutes ≤ 60 → e ≤ power
  pub powerless : power ≡ 0 → e ≡ 0
  pub instant : minutes ≡ 0 → e ≡ 0
