-- Either of two policies. Assumes nothing.
use Rattle.pricing.specs.declared.Facts.{Facts}
use Rattle.pricing.specs.declared.Prices.{Prices}
use Rattle.pricing.specs.declared.policies.Either.{Either}
use Rattle.pricing.specs.declared.policies.Either.TheVariants.{First, Second}

-- The meaning of the policy that it holds.
abbrev pub meaning_held : {P Q : Type 0} → (P → Facts → Prices) → (Q → Facts → Prices) → Either P Q → Facts → Prices
meaning_held m n (First p) = m p
meaning_held m n (Second q) = n q
