-- What holds of the times of every timetable. Assumes nothing.
use Rattle.std.specs.Prelude.{ℕ, ◌≤◌}
use Rattle.market.specs.Figures.{most_hours, most_parties}
use Rattle.timetable.specs.Opening.{Times}
use Rattle.timetable.specs.Prices.{Within}
use Rattle.timetable.specs.Span.{Spanned}

pub record Bounded (t : Times) : Type 0 where
  pub hours_most : t.opening.hours ≤ most_hours
  pub parties_most : t.parties ≤ most_parties
  pub spot_within : (h : ℕ) → Within (t.opening.spot h)
  pub start_spanned : Spanned t.opening.start
  pub clock_spanned : Spanned t.clock
