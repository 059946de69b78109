use Rattle.std.proofs.Common.{◌≡◌, [], ◌∷◌, refl}
use Rattle.pricing.specs.Worked.{dutch_cases}
use Rattle.pricing.proofs.WorkedHours.{row, regular_at, dutch_regular}
use Rattle.pricing.proofs.worked.dutch_cases.Goals as goal

pub returns : goal.returns
returns c =
    let rows : (c.by.result ∷ c.by-2.result ∷ c.by-3.result ∷ c.by-4.result ∷ c.by-5.result ∷ c.by-6.result ∷ c.by-7.result ∷ []) ≡ dutch_cases = row c.by.ensures.hour (row c.by-2.ensures.hour (row c.by-3.ensures.hour (row c.by-4.ensures.hour (row c.by-5.ensures.hour (row c.by-6.ensures.hour (row c.by-7.ensures.hour refl)))))) in
    record { table = rows; regular = regular_at rows dutch_regular }
