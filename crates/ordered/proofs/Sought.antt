-- What a search by a comparison finds in a list that rises, and where it puts what it does not find. Assumes nothing.
use Rattle.std.proofs.Common.{◌≡◌, ℕ, ◌≤◌, Bool, true, if◌then◌else◌, List, length, get_or, Ok, Err, Bor, Ordering, Less, Equal, Greater, Result, refl, ap, subst, inl, inr, arith}
use Rattle.std.proofs.lemmas.Bool.{both_ways, cases_lt}
use Rattle.std.proofs.lemmas.Fn.{always_returns_same}
use Rattle.std.specs.Fn.{Called, ComputesKey, Mut}
use Rattle.std.specs.List.Sorted.{IsBinarySearchResult, IsNonDecreasingBy, IsSearchInRange}
use Rattle.std.specs.Ordering.{MatchOrdering as ByAnswer, ordering_index}
use Rattle.ordered.specs.Order.{Sought, TotalOrder, rises}
use Rattle.ordered.proofs.Laws.{not_same_after, only_before, only_same, sides}
use Rattle.ordered.proofs.Rising.{before_far}

module _ {X : Type 0} {before same : X → X → Bool} (o : TotalOrder before same) (x : X) where
  -- what comparing y with x answers
  abbrev Answers : X → Ordering → Type 0
  Answers y r = ByAnswer r (before y x ≡ true) (same y x ≡ true) (before x y ≡ true)

  abbrev answer : X → Ordering
  answer y = if before y x then Less else if same y x then Equal else Greater

  is_answer : (y : X) (r : Ordering) → Answers y r → r ≡ answer y
  is_answer y Less h = rw h refl
  is_answer y Equal h = rw ((only_same o y x h).0, h) refl
  is_answer y Greater h = rw ((only_before o x y h).1, not_same_after o x y h) refl

  answers : (y : X) → Answers y (answer y)
  answers y =
      elim (sides o y x) [
        | inl w ↦ rw w.0 refl
        | inr (inl w) ↦ rw (w.1, w.0) refl
        | inr (inr w) ↦ rw (w.1, w.2) w.0
      ]

  -- the answers rise as the records do
  rising_answers : (a b : X) (r s : Ordering) → before a b ≡ true → Answers a r → Answers b s → ordering_index r ≤ ordering_index s
  rising_answers a b Less s h p q = omega arith
  rising_answers a b Equal Less h p q = absurd (both_ways _ (only_before o a x (o.before_on a b x h q)).0 p)
  rising_answers a b Equal Equal h p q = omega arith
  rising_answers a b Equal Greater h p q = omega arith
  rising_answers a b Greater Less h p q = absurd (both_ways _ (only_before o b x q).1 (o.before_on x a b p h))
  rising_answers a b Greater Equal h p q = absurd (both_ways _ (only_same o b x q).1 (o.before_on x a b p h))
  rising_answers a b Greater Greater h p q = omega arith

  module _ (compare : X → Ordering) (comparing : (y : X) → Answers y (compare y)) (xs : List X) where
    searchable : rises before xs ≡ true → IsNonDecreasingBy (λ y. ordering_index (compare y)) xs
    searchable h i j d low high =
        elim (cases_lt i j) [
          | inl l ↦ rising_answers (get_or xs i d) (get_or xs j d) _ _ (before_far o xs i j d h l high) (comparing _) (comparing _)
          | inr l ↦ let e : i ≡ j = omega arith in omega (arith, ap (λ k. ordering_index (compare (get_or xs k d))) e)
        ]

    pub sought : (r : Result ℕ ℕ) → IsSearchInRange r (length xs) → IsBinarySearchResult compare xs r → Sought before same xs x r
    sought (Ok k) within level = (within, subst (Answers (get_or xs k x)) (level x) (comparing _))
    sought (Err k) within parted = (
      within,
      λ h.
          let p = parted (searchable h) in
          (λ i d low high. subst (Answers (get_or xs i d)) (p.0 i d low high) (comparing _), λ i d low high. subst (Answers (get_or xs i d)) (p.1 i d low high) (comparing _)),
    )

  -- by a closure that compares each record with x
  pub searched : {F : Type 0} {g : Mut F (Bor X × Unit {0}) Ordering} {f : F} (xs : List X) (r : Result ℕ ℕ)
      → IsSearchInRange r (length xs)
      → ((compare : X → Ordering) → ComputesKey g compare f → IsBinarySearchResult compare xs r)
      → ((a : Bor X × Unit {0}) (q : Ordering) (f' : F) → Called g f a q f' → Answers a.0.now q × (f' ≡ f)) → Sought before same xs x r
  searched {g = g} {f = f} xs r within position compares =
      sought answer answers xs r within
      (position answer (always_returns_same g (λ a q. q ≡ answer a.0.now) f (λ a q f' called. let c = compares a q f' called in (is_answer a.0.now q c.0, c.1))))
