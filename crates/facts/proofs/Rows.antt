-- The table of worked hours, row by row.
use Rattle.std.proofs.Common.{◌≡◌, List, [], ◌∷◌, ap, ◌∙◌}
use Rattle.market.specs.declared.words.Activation.{Activation}
use Rattle.pricing.specs.declared.Facts.{Facts}
use Rattle.facts.specs.Worked.{facts_with}

pub row : {x y : Facts} {xs ys : List Facts} → x ≡ y → xs ≡ ys → (x ∷ xs) ≡ (y ∷ ys)
row p q = cc

pub one : {a b : Activation} {r : Facts} → a ≡ b → r ≡ facts_with (a ∷ []) → r ≡ facts_with (b ∷ [])
one e h = h ∙ ap (λ a. facts_with (a ∷ [])) e

pub two : {a b x y : Activation} {r : Facts} → a ≡ b → x ≡ y → r ≡ facts_with (a ∷ x ∷ []) → r ≡ facts_with (b ∷ y ∷ [])
two {a} {b} {x} {y} e f h = h ∙ ap (λ a. facts_with (a ∷ x ∷ [])) e ∙ ap (λ x. facts_with (b ∷ x ∷ [])) f
