-- An order by keys is a total order, and a comparison of the keys answers by it. Assumes nothing.
use Rattle.std.proofs.Common.{◌≡◌, Bool, true, Ordering, Less, Equal, Greater, sym, refl, ap, ◌∙◌}
use Rattle.std.proofs.lemmas.Bool.{false≢true}
use Rattle.std.specs.Cmp.{IsTotalOrder, Equal-is}
use Rattle.std.specs.Ordering.{MatchOrdering as ByAnswer, is_eq, is_lt, ordering_reverse}
use Rattle.ordered.specs.Order.{ByKey, TotalOrder, exactly_one}

lesser_is : (r : Ordering) → is_lt r ≡ true → r ≡ Less
lesser_is Less h = refl
lesser_is Equal h = absurd (false≢true h)
lesser_is Greater h = absurd (false≢true h)

one_answer : (r : Ordering) → exactly_one (is_lt r) (is_eq r) (is_lt (ordering_reverse r)) ≡ true
one_answer Less = refl
one_answer Equal = refl
one_answer Greater = refl

module _ {X K : Type 0} {R : K → K → Ordering} {key : X → K} {before same : X → X → Bool} (b : ByKey R key before same) where
  before_less : (x y : X) → before x y ≡ true → R (key x) (key y) ≡ Less
  before_less x y h = lesser_is _ (sym (b.lesser x y) ∙ h)

  same_equal : (x y : X) → same x y ≡ true → R (key x) (key y) ≡ Equal
  same_equal x y h = (Equal-is _).0 (sym (b.equal x y) ∙ h)

  pub total_order : IsTotalOrder R → TotalOrder before same
  total_order o = record {
    one = λ x y. rw (b.lesser x y, b.equal x y, b.lesser y x, o.antisymm (key y) (key x)) (one_answer (R (key x) (key y)));
    before_on = λ x y z h k. b.lesser x z ∙ ap is_lt (o.trans (key x) (key y) (key z) (before_less x y h) (before_less y z k));
    same_on = λ x y z h k. b.equal x z ∙ ap is_eq (o.congr (key x) (key y) (key z) (same_equal x y h) ∙ same_equal y z k);
  }

  compared_as : TotalOrder before same → (x y : X) (r : Ordering) → before x y ≡ is_lt r → same x y ≡ is_eq r → ByAnswer r (before x y ≡ true) (same x y ≡ true) (before y x ≡ true)
  compared_as o x y Less lesser equal = lesser
  compared_as o x y Equal lesser equal = equal
  compared_as o x y Greater lesser equal = rw (lesser, equal) at (o.one x y)

  -- what a comparison of the keys answers
  pub compared : TotalOrder before same → (x y : X) (r : Ordering) → r ≡ R (key x) (key y) → ByAnswer r (before x y ≡ true) (same x y ≡ true) (before y x ≡ true)
  compared o x y r e = compared_as o x y r (b.lesser x y ∙ ap is_lt (sym e)) (b.equal x y ∙ ap is_eq (sym e))
