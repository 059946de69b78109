-- The hours that docs/pricing.md prices by hand. Assumes nothing.
use Rattle.std.specs.Prelude.{Bool, true, false, List, [], ◌∷◌, ℤ, pos, neg_ℤ}
use Rattle.units.specs.declared.Price.{Price}
use Rattle.pricing.specs.declared.Facts.{Facts}
use Rattle.pricing.specs.declared.PricedHour.{PricedHour}
use Rattle.pricing.specs.Policies.{four}

abbrev cents : ℤ → Price
cents z = record { 0 = z }

-- spot, up price, down price; net energy; went up, went down; rose, fell. The middle price is -2 in all of them.
abbrev hour : ℤ → ℤ → ℤ → ℤ → Bool → Bool → Bool → Bool → Facts
hour spot up down net went-up went-down rose fell = record { spot = cents spot; up_price = cents up; down_price = cents down; middle = cents (neg_ℤ (pos 2)); net_energy = record { 0 = net }; rose = rose; fell = fell; went_up = went-up; went_down = went-down }

-- The hour is priced at a and b for production's surplus and shortfall, at c and d for those of consumption and trade.
abbrev priced : Facts → ℤ → ℤ → ℤ → ℤ → PricedHour
priced f a b c d = record { facts = f; prices = four (cents a) (cents b) (cents c) (cents d) }

abbrev pub nordic_cases : List PricedHour
nordic_cases =
    priced (hour (pos 3000) (pos 3500) (pos 3000) (pos 5000) true false false false) (pos 3000) (pos 3500) (pos 3500) (pos 3500)
    ∷ priced (hour (pos 3000) (pos 3000) (pos 2500) (neg_ℤ (pos 5000)) false true false false) (pos 2500) (pos 3000) (pos 2500) (pos 2500)
    ∷ priced (hour (pos 3000) (pos 3500) (pos 2500) (pos 0) false false false false) (pos 3000) (pos 3000) (pos 3000) (pos 3000)
    ∷ priced (hour (pos 3000) (pos 3500) (neg_ℤ (pos 4000)) (pos 1) true true false false) (pos 3000) (pos 3500) (pos 3500) (pos 3500)
    ∷ []

-- The Dutch cases share their prices: net energy; went up, went down; rose, fell.
abbrev listed : ℤ → Bool → Bool → Bool → Bool → Facts
listed = hour (pos 3000) (pos 3500) (pos 2500)

abbrev pub dutch_cases : List PricedHour
dutch_cases =
    priced (listed (pos 0) false false false false) (neg_ℤ (pos 2)) (neg_ℤ (pos 2)) (neg_ℤ (pos 2)) (neg_ℤ (pos 2))
    ∷ priced (listed (pos 5000) true false false false) (pos 3500) (pos 3500) (pos 3500) (pos 3500)
    ∷ priced (listed (neg_ℤ (pos 5000)) false true false false) (pos 2500) (pos 2500) (pos 2500) (pos 2500)
    ∷ priced (listed (pos 5000) true true true false) (pos 3500) (pos 3500) (pos 3500) (pos 3500)
    ∷ priced (listed (pos 5000) true true false true) (pos 2500) (pos 2500) (pos 2500) (pos 2500)
    ∷ priced (listed (pos 5000) true true true true) (pos 2500) (pos 3500) (pos 2500) (pos 3500)
    ∷ priced (listed (pos 5000) true true false false) (pos 2500) (pos 3500) (pos 2500) (pos 3500)
    ∷ []
