-- What a table holds for each position and party, and what a call leaves in it.
use Rattle.std.specs.Prelude.{◌≡◌, ℕ, zero, suc, Bool, true, cond, ◌&&◌, ℤ, pos, is_some, Some, None, vec_items, Option, [], slice_index_or}
use Rattle.integers.specs.Places.{at_party}
use Rattle.positions.specs.declared.record.Meter.{Meter}
use Rattle.positions.specs.declared.record.Meter.TheVariants.{Production, Consumption}
use Rattle.positions.specs.declared.record.PositionRecord.{PositionRecord}
use Rattle.positions.specs.declared.table.PositionTable.{PositionTable}
use Rattle.positions.specs.Figures.{in_table}
use Rattle.positions.specs.Records.{no_record, plan_in, reading_in}

-- the record of the position and party, an empty one outside the table
unfoldable pub records_of : PositionTable → ℕ → ℕ → PositionRecord
records_of t h p = cond (in_table h p) (slice_index_or (slice_index_or (vec_items t.hours) h []) p no_record) no_record

-- what each party planned at each position; nothing outside the table
abbrev pub plans_of : PositionTable → ℕ → ℕ → ℤ
plans_of t h p = plan_in (records_of t h p)

-- what the meter of each party read at each position; nothing outside the table
abbrev pub readings_of : Meter → PositionTable → ℕ → ℕ → Option ℤ
readings_of m t h p = reading_in m (records_of t h p)

abbrev pub other_meter : Meter → Meter
other_meter Production = Consumption
other_meter Consumption = Production

-- the value of the position and party, where the table has it
abbrev pub put : {X : Type 0} → ℕ → ℕ → X → (ℕ → ℕ → X) → ℕ → ℕ → X
put h p x f = cond (in_table h p) (at_party h p x f) f

pub record Empty (t : PositionTable) : Type 0 where
  pub plans : plans_of t ≡ (λ h p. pos 0)
  pub readings : (m : Meter) → readings_of m t ≡ (λ h p. None)

-- the plan of one party at one position is x, and all else is as it was
pub record Planned (h p : ℕ) (x : ℤ) (t after : PositionTable) : Type 0 where
  pub plans : plans_of after ≡ put h p x (plans_of t)
  pub readings : (m : Meter) → readings_of m after ≡ readings_of m t

-- the reading of one meter of one party at one position is x, and all else is as it was
pub record Read (m : Meter) (h p : ℕ) (x : ℤ) (t after : PositionTable) : Type 0 where
  pub plans : plans_of after ≡ plans_of t
  pub reading : readings_of m after ≡ put h p (Some x) (readings_of m t)
  pub other : readings_of (other_meter m) after ≡ readings_of (other_meter m) t

-- whether all below n have both
unfoldable pub complete_to : ℕ → (ℕ → Option ℤ) → (ℕ → Option ℤ) → Bool
complete_to zero f g = true
complete_to (suc n) f g = (is_some (f n) && is_some (g n)) && complete_to n f g
