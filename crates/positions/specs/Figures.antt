-- The size of the table.
use Rattle.std.specs.Prelude.{ℕ, Bool, ◌&&◌, nat_lt}
use Rattle.market.specs.Figures.{most_hours, most_parties}

-- whether the table has a record for the position and party
abbrev pub in_table : ℕ → ℕ → Bool
in_table h p = nat_lt h most_hours && nat_lt p most_parties
