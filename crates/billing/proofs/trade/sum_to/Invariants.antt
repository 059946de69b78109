use Rattle.std.proofs.Common.{◌≡◌, ℕ, ◌*◌, ◌^◌, ℤ}
use Rattle.units.specs.declared.KilowattHours.{KilowattHours}
use Rattle.integers.specs.Near.{Near}
use Rattle.integers.specs.Sums.{sum_to}
use Rattle.billing.proofs.trade.sum_to.Given as goal

abbrev pub invariant-loop-number : goal.invariant-loop-number
invariant-loop-number g l = record {
  near : Near (l.number * 2 ^ 63) l.total;
  sum : (f : ℕ → ℤ) → ((k : ℕ) (e : KilowattHours) → goal.F-post g l.energy k e → e.0 ≡ f k) → l.total ≡ sum_to l.number f;
}
