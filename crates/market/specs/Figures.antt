-- The figures of the rules, under the words of src/figures.rt.
use Rattle.std.specs.Prelude.{ℕ}

-- the power of a bid, and of a special activation, in kilowatts
abbrev pub least_bid_volume : ℕ
least_bid_volume = 5_000

abbrev pub greatest_bid_volume : ℕ
greatest_bid_volume = 50_000

abbrev pub least_special_volume : ℕ
least_special_volume = 1

abbrev pub greatest_special_volume : ℕ
greatest_special_volume = 50_000

-- how far a price may lie from zero, either way, in cents per megawatt-hour
abbrev pub price_limit : ℕ
price_limit = 1_000_000

-- the energy of a plan, of a meter reading and of a notice, for one hour, in kilowatt-hours
abbrev pub plan_limit : ℕ
plan_limit = 5_000_000

abbrev pub reading_limit : ℕ
reading_limit = 5_000_000

abbrev pub notice_limit : ℕ
notice_limit = 1_000_000

-- an activation ends at this minute of its hour at the latest
abbrev pub minutes_in_hour : ℕ
minutes_in_hour = 60

-- how long an activation lasts to set a price
abbrev pub price_setting_minutes : ℕ
price_setting_minutes = 10

-- how long before its hour a plan, a notice, a bid or a withdrawal is due
abbrev pub gate_minutes : ℕ
gate_minutes = 45

-- how long before the day's start the clock stands when a day is opened, and the latest instant it may be set to
abbrev pub opening_lead_minutes : ℕ
opening_lead_minutes = 2_880

abbrev pub latest_clock : ℕ
latest_clock = 60_000_000

-- the longest day has so many hours
abbrev pub most_hours : ℕ
most_hours = 25

-- parties are numbered from 0 as they are entered, the counterparties outside the area from `first_outside`
abbrev pub most_parties : ℕ
most_parties = 32

abbrev pub first_outside : ℕ
first_outside = 32

abbrev pub outside_parties : ℕ
outside_parties = 8

-- how many notices, standing bids, receipts and activations there is room for
abbrev pub most_notices : ℕ
most_notices = 1_024

abbrev pub most_bids : ℕ
most_bids = 512

abbrev pub most_receipts : ℕ
most_receipts = 100_000

abbrev pub most_activations : ℕ
most_activations = 512
