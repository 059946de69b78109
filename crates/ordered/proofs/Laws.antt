-- What follows from the laws of a total order. Assumes nothing.
use Rattle.std.proofs.Common.{◌≡◌, Bool, true, false, ◌⊎◌, refl, inl, inr}
use Rattle.std.proofs.lemmas.Bool.{both_ways, false≢true}
use Rattle.ordered.specs.Order.{exactly_one, TotalOrder}

-- the first of three alone
abbrev pub Alone : Bool → Bool → Bool → Type 0
Alone p q r = (p ≡ true) × (q ≡ false) × (r ≡ false)

abbrev pub OneOf : Bool → Bool → Bool → Type 0
OneOf p q r = Alone p q r ⊎ (Alone q p r ⊎ Alone r p q)

one_of : (p q r : Bool) → exactly_one p q r ≡ true → OneOf p q r
one_of true true r h = absurd (false≢true h)
one_of true false true h = absurd (false≢true h)
one_of true false false h = inl (refl, refl, refl)
one_of false true true h = absurd (false≢true h)
one_of false true false h = inr (inl (refl, refl, refl))
one_of false false true h = inr (inr (refl, refl, refl))
one_of false false false h = absurd (false≢true h)

module _ {X : Type 0} {before same : X → X → Bool} (o : TotalOrder before same) where
  -- before, same or after
  pub sides : (a b : X) → OneOf (before a b) (same a b) (before b a)
  sides a b = one_of (before a b) (same a b) (before b a) (o.one a b)

  pub only_before : (a b : X) → before a b ≡ true → (same a b ≡ false) × (before b a ≡ false)
  only_before a b h =
      elim (sides a b) [ inl w ↦ (w.1, w.2) | inr (inl w) ↦ absurd (both_ways _ w.1 h) | inr (inr w) ↦ absurd (both_ways _ w.1 h) ]

  pub only_same : (a b : X) → same a b ≡ true → (before a b ≡ false) × (before b a ≡ false)
  only_same a b h =
      elim (sides a b) [ inl w ↦ absurd (both_ways _ w.1 h) | inr (inl w) ↦ (w.1, w.2) | inr (inr w) ↦ absurd (both_ways _ w.2 h) ]

  pub same_itself : (a : X) → same a a ≡ true
  same_itself a =
      elim (sides a a) [ inl w ↦ absurd (both_ways _ w.2 w.0) | inr (inl w) ↦ w.0 | inr (inr w) ↦ absurd (both_ways _ w.1 w.0) ]

  pub same_back : (a b : X) → same a b ≡ true → same b a ≡ true
  same_back a b h =
      let n = only_same a b h in
      elim (sides b a) [ inl w ↦ absurd (both_ways _ n.1 w.0) | inr (inl w) ↦ w.0 | inr (inr w) ↦ absurd (both_ways _ n.0 w.0) ]

  pub not_same_back : (a b : X) → same a b ≡ false → same b a ≡ false
  not_same_back a b h =
      elim (sides b a) [ inl w ↦ w.1 | inr (inl w) ↦ absurd (both_ways _ h (same_back b a w.0)) | inr (inr w) ↦ w.2 ]

  pub not_same_after : (a b : X) → before a b ≡ true → same b a ≡ false
  not_same_after a b h = not_same_back a b (only_before a b h).0

  pub same_before : (a b c : X) → same a b ≡ true → before b c ≡ true → before a c ≡ true
  same_before a b c s h =
      let n = only_same a b s in
      elim (sides a c) [
        | inl w ↦ w.0
        | inr (inl w) ↦ absurd (both_ways _ (only_before b c h).0 (o.same_on b a c (same_back a b s) w.0))
        | inr (inr w) ↦ absurd (both_ways _ n.1 (o.before_on b c a h w.0))
      ]

  pub before_same : (a b c : X) → before a b ≡ true → same b c ≡ true → before a c ≡ true
  before_same a b c h s =
      let n = only_same b c s in
      elim (sides a c) [
        | inl w ↦ w.0
        | inr (inl w) ↦ absurd (both_ways _ (only_before a b h).0 (o.same_on a c b w.0 (same_back b c s)))
        | inr (inr w) ↦ absurd (both_ways _ n.1 (o.before_on c a b w.0 h))
      ]
