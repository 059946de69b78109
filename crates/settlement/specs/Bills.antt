-- The accounts of two days as docs/sums.md bills them: of the two parties and of the operator.
use Rattle.std.specs.Prelude.{List, [], ◌∷◌, ℤ, pos, neg_ℤ}
use Rattle.settlement.specs.declared.bills.WorkedDay.{WorkedDay}
use Rattle.settlement.specs.declared.bills.WorkedDay.TheVariants.{Sample, Mixed}

abbrev pub bill_of : WorkedDay → List ℤ
bill_of Sample = pos 20_500_000 ∷ neg_ℤ (pos 21_000_000) ∷ pos 500_000 ∷ []
bill_of Mixed = pos 3_540_000 ∷ pos 1_980_000 ∷ neg_ℤ (pos 5_520_000) ∷ []
