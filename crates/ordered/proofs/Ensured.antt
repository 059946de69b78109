-- What `get`, `put` and `find` ensure, from what they call ensures. Assumes nothing.
use Rattle.std.proofs.Common.{◌≡◌, ℕ, ◌<◌, ◌≤◌, Bool, true, false, ◌||◌, ltb, List, length, get_or, is_some, IfSome, Some, None, Ok, Err, Option, Result, sym, refl, ap, Bor}
use Rattle.std.proofs.lemmas.Option.{slice_get_past, slice_get_read}
use Rattle.std.proofs.lemmas.Bool.{both_ways, le-ltb, or_from, or_right}
use Rattle.std.specs.List.{slice_get}
use Rattle.std.specs.List.Sorted.{IsPartitionPoint}
use Rattle.std.specs.Option.{option_map}
use Rattle.std.specs.Slice.{IsGetResult}
use Rattle.std.specs.Result.{result_ok}
use Rattle.ordered.specs.Order.{SameAt, Sought, TotalOrder, held, rises}
use Rattle.ordered.proofs.Rising.{held_at, not_held_between, one_place}

-- what a slice's `get` answers
pub got : {X : Type 0} (xs : List X) (i : ℕ) (r : Option (Bor X)) → IsGetResult xs i i r → option_map (λ x. x.now) r ≡ slice_get xs i
got xs i None h = sym (slice_get_past xs i h.3)
got xs i (Some y) h = sym (slice_get_read xs (length xs) i y.now refl h.3.0 h.1)

module _ {X : Type 0} {before same : X → X → Bool} (o : TotalOrder before same) where
  abbrev Takes : List X → ℕ → X → Bool
  Takes xs n x = ltb (length xs) n || held same x xs

  pub replaced_test : (xs : List X) (n k : ℕ) (x d : X) → k < length xs → same (get_or xs k d) x ≡ true → true ≡ Takes xs n x
  replaced_test xs n k x d w s = sym (or_right (ltb (length xs) n) (held same x xs) (held_at o xs k x d w s))

  pub full_test : (xs : List X) (n k : ℕ) (x : X) → n ≤ length xs → IsPartitionPoint (λ y. before y x ≡ true) (λ y. before x y ≡ true) xs k → false ≡ Takes xs n x
  full_test xs n k x l p =
      sym (or_from (ltb (length xs) n) (held same x xs) (le-ltb (length xs) n l) (not_held_between o xs k x p))

  -- ---- `find`, whose answer is the search's `Ok`
  pub found_some : (xs : List X) (x : X) (s : Result ℕ ℕ) → Sought before same xs x s → IfSome (result_ok s) (λ k. SameAt same xs k x)
  found_some xs x (Ok k) h = h
  found_some xs x (Err k) h = tt

  pub found_only : (xs : List X) (x : X) (s : Result ℕ ℕ) → Sought before same xs x s → rises before xs ≡ true → (k : ℕ) → SameAt same xs k x → result_ok s ≡ Some k
  found_only xs x (Ok j) h r k e = ap Some (one_place o xs j k x x r h.0 e.0 h.1 e.1)
  found_only xs x (Err j) h r k e = absurd (both_ways (held same x xs) (not_held_between o xs j x (h.1 r)) (held_at o xs k x x e.0 e.1))

  pub found_test : (xs : List X) (x : X) (s : Result ℕ ℕ) → Sought before same xs x s → rises before xs ≡ true → is_some (result_ok s) ≡ held same x xs
  found_test xs x (Ok k) h r = sym (held_at o xs k x x h.0 h.1)
  found_test xs x (Err k) h r = sym (not_held_between o xs k x (h.1 r))
