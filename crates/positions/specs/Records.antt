-- Words for one record.
use Rattle.std.specs.Prelude.{Bool, ◌&&◌, ℤ, pos, is_some, Some, None, Option}
use Rattle.std.specs.Option.{option_map}
use Rattle.units.specs.declared.KilowattHours.{KilowattHours}
use Rattle.positions.specs.declared.record.Meter.{Meter}
use Rattle.positions.specs.declared.record.Meter.TheVariants.{Production, Consumption}
use Rattle.positions.specs.declared.record.PositionRecord.{PositionRecord}

-- nothing planned and nothing read
abbrev pub no_record : PositionRecord
no_record = record { plan = record { 0 = pos 0 }; produced = None; consumed = None }

abbrev pub plan_in : PositionRecord → ℤ
plan_in r = r.plan.0

-- what the meter read, in kilowatt-hours
abbrev pub reading_in : Meter → PositionRecord → Option ℤ
reading_in Production r = option_map (λ e. e.0) r.produced
reading_in Consumption r = option_map (λ e. e.0) r.consumed

abbrev pub both_read : PositionRecord → Bool
both_read r = is_some r.produced && is_some r.consumed

abbrev pub with_reading : Meter → KilowattHours → PositionRecord → PositionRecord
with_reading Production x r = record { plan = r.plan; produced = Some x; consumed = r.consumed }
with_reading Consumption x r = record { plan = r.plan; produced = r.produced; consumed = Some x }
