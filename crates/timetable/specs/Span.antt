-- The instants that a day's start and its clock can have. Assumes nothing.
use Rattle.std.specs.Prelude.{ℤ, pos, neg_ℤ, ◌≤ℤ◌}
use Rattle.market.specs.Figures.{latest_clock}

-- from the first clock of the first day to the latest clock
abbrev pub Spanned : ℤ → Type 0
Spanned t = (neg_ℤ (pos 3_000) ≤ℤ t) × (t ≤ℤ pos latest_clock)
