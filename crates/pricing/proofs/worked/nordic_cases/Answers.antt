use Rattle.std.proofs.Common.{◌≡◌, [], ◌∷◌, refl}
use Rattle.pricing.specs.Worked.{nordic_cases}
use Rattle.pricing.proofs.WorkedHours.{row, regular_at, nordic_regular}
use Rattle.pricing.proofs.worked.nordic_cases.Goals as goal

pub returns : goal.returns
returns c =
    let rows : (c.by.result ∷ c.by-2.result ∷ c.by-3.result ∷ c.by-4.result ∷ []) ≡ nordic_cases = row c.by.ensures.hour (row c.by-2.ensures.hour (row c.by-3.ensures.hour (row c.by-4.ensures.hour refl))) in
    record { table = rows; regular = regular_at rows nordic_regular }
