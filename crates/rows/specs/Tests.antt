-- The tests that rows share. Assumes nothing.
use Rattle.std.specs.Prelude.{ℕ, ◌+◌, Bool, ◌&&◌, ◌||◌, ℤ, ◌==◌, int_le, nat_le, nat_lt}
use Rattle.units.specs.declared.Price.{Price}
use Rattle.market.specs.declared.words.Activation.{Activation}
use Rattle.market.specs.declared.words.Direction.{Direction}
use Rattle.market.specs.declared.words.Direction.TheVariants.{Up, Down}
use Rattle.market.specs.Figures.{first_outside, outside_parties, least_bid_volume, greatest_bid_volume, least_special_volume, greatest_special_volume, minutes_in_hour}
use Rattle.notices.specs.declared.notice.Notice.{Notice}
use Rattle.timetable.specs.Opening.{Times, entered}
use Rattle.timetable.specs.Prices.{within_limit}

-- from the least to the greatest, both included
abbrev pub between : ℤ → ℤ → ℤ → Bool
between least x greatest = int_le least x && int_le x greatest

-- a counterparty outside the area
abbrev pub outside : ℕ → Bool
outside n = nat_le first_outside n && nat_lt n (first_outside + outside_parties)

-- entered or outside
abbrev pub known : Times → ℕ → Bool
known t n = entered t n || outside n

-- to the outside, or to oneself
abbrev pub wrong_pair : Notice → Bool
wrong_pair n = outside n.counterparty.0 || n.sender.0 == n.counterparty.0

-- the first minute is 0 to 59, the last is above it and at most 60
abbrev pub minutes_fit : ℕ → ℕ → Bool
minutes_fit first last = nat_lt first last && nat_le last minutes_in_hour

abbrev pub bid_fits : ℕ → Price → Bool
bid_fits volume price = nat_le least_bid_volume volume && (nat_le volume greatest_bid_volume && within_limit price)

abbrev pub special_fits : Activation → Bool
special_fits a = minutes_fit a.minutes.first a.minutes.last && (nat_le least_special_volume a.volume.0 && (nat_le a.volume.0 greatest_special_volume && within_limit a.price))

-- upward spot or more, downward spot or less
abbrev pub right_side : Direction → Price → Price → Bool
right_side Up spot price = int_le spot.0 price.0
right_side Down spot price = int_le price.0 spot.0
