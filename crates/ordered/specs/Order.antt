-- What a total order of records is, and what a list of records is to it. Assumes nothing.
--     TotalOrder before same      before and same are a total order: each record has one place, before, at or after another's
--     ByKey cmp key before same   before and same are what a comparison of the records' keys answers
--     rises before xs             each record of xs stands before the next
--     held same x xs              some record of xs is the same as x
--     SameAt same xs k x          the record at place k of xs is the same as x
--     placed before x xs          xs with x put at its place: those before x, x, and those after x
--     without same x xs           xs less the record that is the same as x
--     Sought before same xs x r   what seeking x in xs answers
use Rattle.std.specs.Prelude.{◌≡◌, ℕ, ◌<◌, ◌≤◌, Bool, true, false, not, ◌&&◌, ◌||◌, List, [], ◌∷◌, ◌++◌, length, Ok, Err, filter, Result, slice_index_or}
use Rattle.std.specs.List.Sorted.{IsPartitionPoint}
use Rattle.std.specs.Ordering.{is_eq, is_lt}
use Rattle.std.specs.declared.cmp.Ordering.{Ordering}

abbrev pub exactly_one : Bool → Bool → Bool → Bool
exactly_one true q r = not (q || r)
exactly_one false true r = not r
exactly_one false false r = r

-- That same goes both ways and is true of a record and itself, and that before passes on through same, follow (proofs/Laws).
pub record TotalOrder {X : Type 0} (before same : X → X → Bool) : Type 0 where
  pub one : (a b : X) → exactly_one (before a b) (same a b) (before b a) ≡ true
  pub before_on : (a b c : X) → before a b ≡ true → before b c ≡ true → before a c ≡ true
  pub same_on : (a b c : X) → same a b ≡ true → same b c ≡ true → same a c ≡ true

-- As a comparison of keys is a total order, before and same are then one (proofs/Keyed).
pub record ByKey {X K : Type 0} (cmp : K → K → Ordering) (key : X → K) (before same : X → X → Bool) : Type 0 where
  pub lesser : (a b : X) → before a b ≡ is_lt (cmp (key a) (key b))
  pub equal : (a b : X) → same a b ≡ is_eq (cmp (key a) (key b))

abbrev pub rises : {X : Type 0} → (X → X → Bool) → List X → Bool
rises before [] = true
rises before (x ∷ []) = true
rises before (x ∷ (y ∷ ys)) = before x y && rises before (y ∷ ys)

abbrev pub held : {X : Type 0} → (X → X → Bool) → X → List X → Bool
held same x [] = false
held same x (y ∷ ys) = same y x || held same x ys

abbrev pub placed : {X : Type 0} → (X → X → Bool) → X → List X → List X
placed before x xs = filter (λ y. before y x) xs ++ x ∷ filter (λ y. before x y) xs

abbrev pub without : {X : Type 0} → (X → X → Bool) → X → List X → List X
without same x xs = filter (λ y. not (same y x)) xs

abbrev pub SameAt : {X : Type 0} → (X → X → Bool) → List X → ℕ → X → Type 0
SameAt same xs k x = (k < length xs) × (same (slice_index_or xs k x) x ≡ true)

-- `Ok k`: the record at k is the same. `Err k`: k is where x would be inserted, if xs rises.
abbrev pub Sought : {X : Type 0} → (X → X → Bool) → (X → X → Bool) → List X → X → Result ℕ ℕ → Type 0
Sought before same xs x (Ok k) = SameAt same xs k x
Sought before same xs x (Err k) = (k ≤ length xs) × (rises before xs ≡ true → IsPartitionPoint (λ y. before y x ≡ true) (λ y. before x y ≡ true) xs k)
