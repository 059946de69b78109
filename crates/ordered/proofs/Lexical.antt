-- An order by one number, then the next, is a total order. Assumes nothing.
--     lex_order numbers         the order of records by their numbers
--     lex_compared numbers      what a comparison answers that compares the numbers
--     lex_key numbers key       the same order by keys that compare as those numbers do
--     tuples                    shows by simp that tuples of numbers do
use Rattle.std.proofs.Common.{◌≡◌, ℕ, true, false, ◌⊎◌, List, [], ◌∷◌, ℤ, pos, negsuc, Ordering, Less, Equal, Greater, sym, refl, ap, ◌∙◌, inl, inr, arith}
use lib.Signed.{lt_z}
use Rattle.std.proofs.lemmas.Bool.{and_parts, cases_order, eq-eqb, eqb-true, false≢true, le-ltb, lt-ltb, ne_eqb}
use Rattle.std.proofs.lemmas.Cmp.{int_cmp_total, lists_total, tied_itself}
use Rattle.std.specs.Cmp.Lexicographic.{slice_cmp}
use Rattle.std.specs.Ordering.{MatchOrdering as ByAnswer, int_cmp, is_eq, is_lt, nat_cmp, ordering_then}
use Rattle.ordered.specs.Lex.{eq_z, lex_before, lex_same}
use Rattle.ordered.specs.Order.{ByKey, TotalOrder}
use Rattle.ordered.proofs.Keyed.{compared, total_order}

-- ---- one number

eq_z-itself : (x : ℤ) → eq_z x x ≡ true
eq_z-itself (pos n) = eq-eqb n n refl
eq_z-itself (negsuc n) = eq-eqb n n refl

eq_z-true : (x y : ℤ) → eq_z x y ≡ true → x ≡ y
eq_z-true (pos m) (pos n) h = ap pos (eqb-true m n h)
eq_z-true (pos m) (negsuc n) h = absurd (false≢true h)
eq_z-true (negsuc m) (pos n) h = absurd (false≢true h)
eq_z-true (negsuc m) (negsuc n) h = ap negsuc (eqb-true m n h)

lt_z-itself : (x : ℤ) → lt_z x x ≡ false
lt_z-itself (pos n) = le-ltb n n (omega arith)
lt_z-itself (negsuc n) = le-ltb n n (omega arith)

-- x is below y, and so neither equal to it nor above
abbrev Below : ℤ → ℤ → Type 0
Below x y = (lt_z x y ≡ true) × (eq_z x y ≡ false) × (lt_z y x ≡ false) × (eq_z y x ≡ false)

sides : (x y : ℤ) → Below x y ⊎ ((x ≡ y) ⊎ Below y x)
sides (pos m) (pos n) =
    elim (cases_order m n) [
      | inl e ↦ inr (inl (ap pos e))
      | inr (inl l) ↦ inl (lt-ltb m n l, ne_eqb m n (omega arith), le-ltb n m (omega arith), ne_eqb n m (omega arith))
      | inr (inr l) ↦ inr (inr (lt-ltb n m l, ne_eqb n m (omega arith), le-ltb m n (omega arith), ne_eqb m n (omega arith)))
    ]
sides (pos m) (negsuc n) = inr (inr (refl, refl, refl, refl))
sides (negsuc m) (pos n) = inl (refl, refl, refl, refl)
sides (negsuc m) (negsuc n) =
    elim (cases_order m n) [
      | inl e ↦ inr (inl (ap negsuc e))
      | inr (inl l) ↦ inr (inr (lt-ltb m n l, ne_eqb n m (omega arith), le-ltb n m (omega arith), ne_eqb m n (omega arith)))
      | inr (inr l) ↦ inl (lt-ltb n m l, ne_eqb m n (omega arith), le-ltb m n (omega arith), ne_eqb n m (omega arith))
    ]

-- ---- lists of them

before_is : (xs ys : List ℤ) → lex_before xs ys ≡ is_lt (slice_cmp int_cmp xs ys)
unfolding lex_before
before_is [] [] = refl
before_is [] (y ∷ ys) = refl
before_is (x ∷ xs) [] = refl
before_is (x ∷ xs) (y ∷ ys) =
    elim (sides x y) [
      | inl w ↦ rw w.0 refl
      | inr (inl e) ↦ rw (← e, lt_z-itself x, eq_z-itself x) (before_is xs ys)
      | inr (inr w) ↦ rw (w.2, w.3, w.0) refl
    ]

same_is : (xs ys : List ℤ) → lex_same xs ys ≡ is_eq (slice_cmp int_cmp xs ys)
unfolding lex_same
same_is [] [] = refl
same_is [] (y ∷ ys) = refl
same_is (x ∷ xs) [] = refl
same_is (x ∷ xs) (y ∷ ys) =
    elim (sides x y) [
      | inl w ↦ rw (w.0, w.1) refl
      | inr (inl e) ↦ rw (← e, lt_z-itself x, eq_z-itself x) (same_is xs ys)
      | inr (inr w) ↦ rw (w.2, w.3, w.0) refl
    ]

module _ {X : Type 0} (numbers : X → List ℤ) where
  pub lex_key : {K : Type 0} {R : K → K → Ordering} (key : X → K) → ((a b : X) → R (key a) (key b) ≡ slice_cmp int_cmp (numbers a) (numbers b)) → ByKey R key (λ a b. lex_before (numbers a) (numbers b)) (λ a b. lex_same (numbers a) (numbers b))
  lex_key key alike = record {
    lesser = λ a b. before_is (numbers a) (numbers b) ∙ ap is_lt (sym (alike a b));
    equal = λ a b. same_is (numbers a) (numbers b) ∙ ap is_eq (sym (alike a b));
  }

  pub lex_order : TotalOrder (λ a b. lex_before (numbers a) (numbers b)) (λ a b. lex_same (numbers a) (numbers b))
  lex_order = total_order (lex_key {R = slice_cmp int_cmp} numbers (λ a b. refl)) (lists_total int_cmp_total)

  pub lex_compared : (a b : X) (r : Ordering) → r ≡ slice_cmp int_cmp (numbers a) (numbers b) → ByAnswer r (lex_before (numbers a) (numbers b) ≡ true) (lex_same (numbers a) (numbers b) ≡ true) (lex_before (numbers b) (numbers a) ≡ true)
  lex_compared = compared (lex_key {R = slice_cmp int_cmp} numbers (λ a b. refl)) lex_order

pub lex_same-itself : (xs : List ℤ) → lex_same xs xs ≡ true
lex_same-itself xs = same_is xs xs ∙ ap is_eq (tied_itself (lists_total int_cmp_total) xs)

-- the same numbers are equal
pub lex_same-true : (xs ys : List ℤ) → lex_same xs ys ≡ true → xs ≡ ys
unfolding lex_same
lex_same-true [] [] h = refl
lex_same-true [] (y ∷ ys) h = absurd (false≢true h)
lex_same-true (x ∷ xs) [] h = absurd (false≢true h)
lex_same-true (x ∷ xs) (y ∷ ys) h =
    let p = and_parts (eq_z x y) (lex_same xs ys) h in
    ap (λ z. z ∷ xs) (eq_z-true x y p.0) ∙ ap (λ zs. y ∷ zs) (lex_same-true xs ys p.1)

-- ---- keys that are tuples, which std compares from the left

pub unsigned_cmp : (x y : ℕ) → nat_cmp x y ≡ int_cmp (pos x) (pos y)
unsigned_cmp x y =
    elim (cases_order x y) [
      | inl e ↦ rw (← e, le-ltb x x (omega arith), eq-eqb x x refl) refl
      | inr (inl l) ↦ rw (lt-ltb x y l) refl
      | inr (inr l) ↦ rw (le-ltb x y (omega arith), lt-ltb y x l, ne_eqb x y (omega arith)) refl
    ]

pub then_Equal : (o : Ordering) → ordering_then o Equal ≡ o
then_Equal Less = refl
then_Equal Equal = refl
then_Equal Greater = refl

pub then_then : (o p q : Ordering) → ordering_then (ordering_then o p) q ≡ ordering_then o (ordering_then p q)
then_then Less p q = refl
then_then Equal p q = refl
then_then Greater p q = refl

pub ruleset tuples = (unsigned_cmp, then_Equal, then_then)
