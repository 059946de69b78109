-- Whether each of the first parties has both readings.
use Rattle.std.proofs.Common.{◌≡◌, ℕ, zero, suc, ◌+◌, ◌&&◌, [], ◌∷◌, ◌++◌, map, Bool, true, false, ℤ, is_some, Option, sym, refl, ap, ◌∙◌, arith}
use Rattle.std.specs.List.{list_all, range_with_len}
use Rattle.std.proofs.lemmas.List.{map-id}
use Rattle.std.proofs.lemmas.List.Folds.{list_all-append}
use Rattle.std.proofs.lemmas.List.FromFn.{map-range_with_len_more}
use Rattle.positions.specs.Tables.{complete_to}

last_first : (a b : Bool) → (a && (b && true)) ≡ (b && a)
last_first true true = refl
last_first true false = refl
last_first false true = refl
last_first false false = refl

one_more : (n : ℕ) → range_with_len 0 (suc n) ≡ range_with_len 0 n ++ (n ∷ [])
one_more n =
    let next : suc n ≡ n + 1 = omega arith in
    sym (map-id (range_with_len 0 (suc n)))
    ∙ ap (λ m. map (λ (p : ℕ). p) (range_with_len 0 m)) next
    ∙ map-range_with_len_more (λ (p : ℕ). p) 0 n n (omega arith)
    ∙ ap (λ ps. ps ++ (n ∷ [])) (map-id (range_with_len 0 n))

module _ (f g : ℕ → Option ℤ) where
  both : ℕ → Bool
  both p = is_some (f p) && is_some (g p)

  pub complete_all : (n : ℕ) → list_all (λ p. is_some (f p) && is_some (g p)) (range_with_len 0 n) ≡ complete_to n f g
  unfolding complete_to both
  complete_all zero = refl
  complete_all (suc n) =
      ap (list_all both) (one_more n) ∙ list_all-append both (range_with_len 0 n) (n ∷ [])
      ∙ last_first (list_all both (range_with_len 0 n)) (both n) ∙ ap (λ b. both n && b) (complete_all n)
