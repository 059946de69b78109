-- Whether the balance delta rose or fell in some minute so far.
use Rattle.std.proofs.Common.{◌≡◌, ℕ, ◌+◌, ◌-◌, ◌<◌, ◌≤◌, Bool, true, false, ◌||◌, List, ℤ, ◌<ℤ◌, Decides, sym, refl, ap, ◌∙◌, add-one, arith}
use lib.Signed.{lt_z}
use Rattle.std.proofs.lemmas.Int.{ints}
use Rattle.std.proofs.lemmas.Bool.{lt-ltb}
use Rattle.std.proofs.lemmas.Bool.Decides.{Decides-and, Decides-at, Decides-below_or, Decides-like, Decides-ltb}
use Rattle.units.specs.declared.Position.{Position}
use Rattle.market.specs.declared.words.Activation.{Activation}
use Rattle.market.specs.Figures.{minutes_in_hour}
use Rattle.facts.specs.Minutes.{delta, rises, falls, any_below, rose, fell, Rose, Fell}

or_turned : (s t : Bool) → (s || t) ≡ (t || s)
or_turned true true = refl
or_turned true false = refl
or_turned false true = refl
or_turned false false = refl

-- one minute more
any_more : (passes : ℕ → Bool) (n : ℕ) (s t : Bool) → s ≡ any_below passes n → t ≡ passes n → (s || t) ≡ any_below passes (n + 1)
any_more passes n s t e h =
    let turned = or_turned (any_below passes n) (passes n) in
    ap (λ b. b || t) e ∙ ap (λ b. any_below passes n || b) h ∙ turned ∙ sym (ap (any_below passes) (add-one n))

decides-lt_z : (y z : ℤ) → Decides (lt_z y z) (y <ℤ z)
decides-lt_z y z = (λ h. grind (arith, ints), λ h. grind (arith, ints))

module _ (hour : Position) (activations : List Activation) where
  rises_at : (n : ℕ) (y z : ℤ) → 1 ≤ n → y ≡ delta hour activations (n - 1) → z ≡ delta hour activations n → lt_z y z ≡ rises hour activations n
  rises_at n y z one e h = let l = lt-ltb 0 n one in rw (l, e, h)

  falls_at : (n : ℕ) (y z : ℤ) → 1 ≤ n → y ≡ delta hour activations (n - 1) → z ≡ delta hour activations n → lt_z z y ≡ falls hour activations n
  falls_at n y z one e h = let l = lt-ltb 0 n one in rw (l, e, h)

  pub rose_more : (n : ℕ) (s : Bool) (y z : ℤ) → 1 ≤ n → s ≡ any_below (rises hour activations) n → y ≡ delta hour activations (n - 1) → z ≡ delta hour activations n
      → (s || lt_z y z) ≡ any_below (rises hour activations) (n + 1)
  rose_more n s y z one so_far e h = any_more (rises hour activations) n s (lt_z y z) so_far (rises_at n y z one e h)

  pub fell_more : (n : ℕ) (s : Bool) (y z : ℤ) → 1 ≤ n → s ≡ any_below (falls hour activations) n → y ≡ delta hour activations (n - 1) → z ≡ delta hour activations n
      → (s || lt_z z y) ≡ any_below (falls hour activations) (n + 1)
  fell_more n s y z one so_far e h = any_more (falls hour activations) n s (lt_z z y) so_far (falls_at n y z one e h)

  pub rose_all : (n : ℕ) (s : Bool) → n ≡ minutes_in_hour → s ≡ any_below (rises hour activations) n → s ≡ rose hour activations
  unfolding rose
  rose_all n s e h = h ∙ ap (any_below (rises hour activations)) e

  pub fell_all : (n : ℕ) (s : Bool) → n ≡ minutes_in_hour → s ≡ any_below (falls hour activations) n → s ≡ fell hour activations
  unfolding fell
  fell_all n s e h = h ∙ ap (any_below (falls hour activations)) e

  -- the deltas compared, from minute to minute
  some_minute : (passes : ℕ → Bool) (P : ℕ → Type 0) → ((m : ℕ) → Decides (passes m) ((1 ≤ m) × P m)) → (n : ℕ) → Decides (any_below passes n) ((m : ℕ) × (1 ≤ m) × (m < n) × P m)
  some_minute passes P each n =
      Decides-like (any_below passes n)
      (λ s. (s.0, s.2.0, s.1, s.2.1))
      (λ s. (s.0, s.2, (s.1, s.3)))
      (Decides-below_or passes (λ m. (1 ≤ m) × P m) (any_below passes) each refl (λ _. refl) n)

  rose_reads : Decides (rose hour activations) (Rose hour activations)
  unfolding rose
  rose_reads =
      some_minute (rises hour activations) (λ m. delta hour activations (m - 1) <ℤ delta hour activations m)
      (λ m. Decides-and _ _ (Decides-ltb 0 m) (decides-lt_z _ _)) minutes_in_hour

  fell_reads : Decides (fell hour activations) (Fell hour activations)
  unfolding fell
  fell_reads =
      some_minute (falls hour activations) (λ m. delta hour activations m <ℤ delta hour activations (m - 1))
      (λ m. Decides-and _ _ (Decides-ltb 0 m) (decides-lt_z _ _)) minutes_in_hour

  pub reads : (r l : Bool) → r ≡ rose hour activations → l ≡ fell hour activations → Decides r (Rose hour activations) × Decides l (Fell hour activations)
  reads r l e h = (Decides-at r _ e rose_reads, Decides-at l _ h fell_reads)
