use Rattle.std.proofs.Common.{◌≡◌, ℕ, ◌-◌, ◌^◌, [], false, length, decimal, append-nil, arith}
use Rattle.std.specs.Fmt.{padded_integral, char_count, format_spec}
use Rattle.calendar.specs.Printed.{places}
use Rattle.calendar.proofs.printed.DateDisplay.fmt.Goals as goal

in_places : (k n : ℕ) → padded_integral (format_spec 32 0 4 k (2 ^ 64 - 1)) false [] (decimal n) ≡ places k n
unfolding padded_integral char_count
in_places k n = let e : k - length (decimal n) - 0 - 0 ≡ k - length (decimal n) = omega arith in simp (e, append-nil)

pub returns-clause-writes : goal.returns-clause-writes
returns-clause-writes g c = simp (c.laid_out.ensures, c.laid_out-2.ensures, c.laid_out-3.ensures, in_places) at c.write.ensures.writes
