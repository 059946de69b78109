-- The tables of worked hours, row by row, and that their hours are regular. Assumes nothing.
use Rattle.std.proofs.Common.{◌≡◌, List, ◌∷◌, sym, subst, arith}
use Rattle.std.proofs.lemmas.Int.{ints}
use Rattle.std.specs.List.{AllByRecursion}
use Rattle.pricing.specs.declared.PricedHour.{PricedHour}
use Rattle.pricing.specs.Policies.{Regular}
use Rattle.pricing.specs.Worked.{nordic_cases, dutch_cases}

abbrev AllRegular : List PricedHour → Type 0
AllRegular = AllByRecursion (λ h. Regular h.facts)

pub row : {x y : PricedHour} {xs ys : List PricedHour} → x ≡ y → xs ≡ ys → (x ∷ xs) ≡ (y ∷ ys)
row p q = cc

pub regular_at : {xs ys : List PricedHour} → xs ≡ ys → AllRegular ys → AllRegular xs
regular_at e h = subst AllRegular (sym e) h

pub nordic_regular : AllRegular nordic_cases
nordic_regular = search (arith, ints)

pub dutch_regular : AllRegular dutch_cases
dutch_regular = search (arith, ints)
