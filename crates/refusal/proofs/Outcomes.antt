-- An outcome from the row that applies, or from none.
use Rattle.std.proofs.Common.{◌≡◌, Some, None, Ok, Err, Option, Result, sym, refl, subst}
use Rattle.refusal.specs.declared.Refusal.{Refusal}
use Rattle.refusal.specs.Outcome.{Outcome}

module _ {X : Type 0} (row : Option Refusal) (Unmoved : Type 0) (Done : X → Type 0) where
  pub accepted : (x : X) → row ≡ None → Done x → Outcome row (Ok x) Unmoved Done
  accepted x e done = subst (λ o. Outcome o (Ok x) Unmoved Done) (sym e) done

  pub refused : (refusal : Refusal) → row ≡ Some refusal → Unmoved → Outcome row (Err refusal) Unmoved Done
  refused refusal e unmoved = subst (λ o. Outcome o (Err refusal) Unmoved Done) (sym e) (refl, unmoved)

-- an outcome said in other words
pub outcome_map : {X : Type 0} (row : Option Refusal) (r : Result X Refusal) (U V : Type 0) (D E : X → Type 0) → (U → V) → ((x : X) → row ≡ None → D x → E x) → Outcome row r U D → Outcome row r V E
outcome_map (Some refusal) r U V D E u d o = (o.0, u o.1)
outcome_map None (Ok x) U V D E u d o = d x refl o
outcome_map None (Err refusal) U V D E u d o = absurd o

-- of two tables that both let the call through
pub outcome_instead : {X : Type 0} (row other : Option Refusal) (r : Result X Refusal) (U V : Type 0) (D E : X → Type 0) → row ≡ None → other ≡ None → ((x : X) → D x → E x) → Outcome other r U D → Outcome row r V E
outcome_instead row other (Ok x) U V D E e f d o = accepted row V E x e (d x (subst (λ z. Outcome z (Ok x) U D) f o))
outcome_instead row other (Err refusal) U V D E e f d o = absurd (subst (λ z. Outcome z (Err refusal) U D) f o)

-- what is done, whatever the answer
pub outcome_done : {X : Type 0} (row : Option Refusal) (r : Result X Refusal) (U D : Type 0) → row ≡ None → Outcome row r U (λ _. D) → D
outcome_done {X} row (Ok x) U D e o = subst (λ z. Outcome z (Ok x) U (λ _. D)) e o
outcome_done {X} row (Err refusal) U D e o = absurd (subst (λ z. Outcome {X = X} z (Err refusal) U (λ _. D)) e o)
