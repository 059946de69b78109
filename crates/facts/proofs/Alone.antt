-- The facts rest on the hour's listed activations and standing bids alone.
use Rattle.std.proofs.Common.{◌≡◌, ℕ, zero, suc, ◌+◌, ◌-◌, Bool, false, cond, ◌&&◌, ◌||◌, leb, List, [], ◌∷◌, map, pos, ◌-ℤ◌, sum_by, filter, unwrap_or, sym, refl, ap, ◌∙◌, arith}
use lib.Signed.{lt_z}
use Rattle.std.proofs.lemmas.List.Sums.{sum_by-cons}
use Rattle.std.proofs.lemmas.Bool.{and_left, cond_both, cond-false}
use Rattle.units.specs.declared.Position.{Position}
use Rattle.units.specs.declared.Price.{Price}
use Rattle.market.specs.declared.words.Activation.{Activation}
use Rattle.market.specs.declared.words.Bid.{Bid}
use Rattle.market.specs.declared.words.Direction.{Direction}
use Rattle.market.specs.declared.words.Direction.TheVariants.{Up, Down}
use Rattle.market.specs.Figures.{minutes_in_hour}
use Rattle.market.specs.Words.{energy_of}
use Rattle.register.specs.Totals.{adds, listed, listed_energy}
use Rattle.facts.specs.Listed.{listed_in, any_of, went}
use Rattle.facts.specs.Prices.{above, below, best, sets_price}
use Rattle.facts.specs.Middle.{stands_in, middle, lowest_standing, highest_standing}
use Rattle.facts.specs.Minutes.{power_of, power, delta, rises, falls, any_below, rose, fell}
use Rattle.facts.specs.Facts.{facts_of, facts_alone}
use Rattle.facts.proofs.Together.{together}

-- what a recursion over a list gives, where an element that does not pass leaves it as it is
module _ {X Y : Type 0} (passes : X → Bool) (F : List X → Y) (step : X → Y → Y) (unroll : (x : X) (xs : List X) → F (x ∷ xs) ≡ step x (F xs)) (skip : (x : X) (y : Y) → passes x ≡ false → step x y ≡ y) where
  over_kept : (xs : List X) → F (filter passes xs) ≡ F xs
  over_kept [] = refl
  over_kept (x ∷ xs) =
      cond_both (passes x) (x ∷ filter passes xs) (filter passes xs) (λ ys. F ys ≡ F (x ∷ xs))
      (λ t. unroll x (filter passes xs) ∙ ap (step x) (over_kept xs) ∙ sym (unroll x xs))
      (λ f. over_kept xs ∙ sym (unroll x xs ∙ skip x (F xs) f))

none_added : (n m : ℕ) → n ≡ 0 → n + m ≡ m
none_added n m e = omega arith

none_joined : (s t : Bool) → s ≡ false → (s || t) ≡ t
none_joined s t e = ap (λ b. b || t) e

module _ (hour : Position) where
  kept_again : (counts : Activation → Bool) → ((a : Activation) → listed hour a ≡ false → counts a ≡ false) → (activations : List Activation) → filter counts (filter (listed hour) activations) ≡ filter counts activations
  kept_again counts off = over_kept (listed hour) (filter counts) (λ a rest. cond (counts a) (a ∷ rest) rest) (λ _ _. refl) (λ a rest f. cond-false (counts a) _ _ (off a f))

  summed_again : (amount : Activation → ℕ) → ((a : Activation) → listed hour a ≡ false → amount a ≡ 0) → (activations : List Activation) → sum_by amount (filter (listed hour) activations) ≡ sum_by amount activations
  summed_again amount off = over_kept (listed hour) (sum_by amount) (λ a n. amount a + n) (sum_by-cons amount) (λ a n f. none_added (amount a) n (off a f))

  unlisted : (direction : Direction) (a : Activation) → listed hour a ≡ false → listed_in hour direction a ≡ false
  unlisted direction a f = and_left (listed hour a) _ f

  went_again : (direction : Direction) (activations : List Activation) → went hour direction (filter (listed hour) activations) ≡ went hour direction activations
  went_again direction =
      over_kept (listed hour) (any_of (listed_in hour direction)) (λ a s. listed_in hour direction a || s) (λ _ _. refl) (λ a s f. none_joined (listed_in hour direction a) s (unlisted direction a f))

  price_again : (beats : Price → Price → Bool) (minutes : ℕ) (spot : Price) (direction : Direction) (activations : List Activation)
      → unwrap_or (best beats (map (λ a. a.price) (filter (sets_price minutes hour direction) (filter (listed hour) activations)))) spot
      ≡ unwrap_or (best beats (map (λ a. a.price) (filter (sets_price minutes hour direction) activations))) spot
  price_again beats minutes spot direction activations =
      ap (λ rest. unwrap_or (best beats (map (λ a. a.price) rest)) spot)
      (kept_again (sets_price minutes hour direction) (λ a f. and_left (listed_in hour direction a) _ (unlisted direction a f)) activations)

  energy_again : (direction : Direction) (activations : List Activation) → listed_energy hour direction (filter (listed hour) activations) ≡ listed_energy hour direction activations
  energy_again direction =
      summed_again (adds (listed hour) direction) (λ a f. cond-false (listed_in hour direction a) (energy_of a) 0 (unlisted direction a f))

  power_again : (direction : Direction) (minute : ℕ) (activations : List Activation) → power hour direction minute (filter (listed hour) activations) ≡ power hour direction minute activations
  power_again direction minute =
      summed_again (power_of hour direction minute) (λ a f. cond-false _ a.volume.0 0 (and_left (listed_in hour direction a) _ (unlisted direction a f)))

  delta_again : (activations : List Activation) (minute : ℕ) → delta hour (filter (listed hour) activations) minute ≡ delta hour activations minute
  delta_again activations minute =
      ap (λ n. pos n -ℤ pos (power hour Down minute (filter (listed hour) activations))) (power_again Up minute activations)
      ∙ ap (λ n. pos (power hour Up minute activations) -ℤ pos n) (power_again Down minute activations)

  any_same : (p q : ℕ → Bool) → ((m : ℕ) → p m ≡ q m) → (n : ℕ) → any_below p n ≡ any_below q n
  any_same p q same zero = refl
  any_same p q same (suc n) = ap (λ b. b || any_below p n) (same n) ∙ ap (λ b. q n || b) (any_same p q same n)

  rose_again : (activations : List Activation) → rose hour (filter (listed hour) activations) ≡ rose hour activations
  unfolding rose
  rose_again activations =
      any_same (rises hour (filter (listed hour) activations)) (rises hour activations)
      (λ m.
      ap (λ z. leb 1 m && lt_z z (delta hour (filter (listed hour) activations) m)) (delta_again activations (m - 1))
      ∙ ap (λ z. leb 1 m && lt_z (delta hour activations (m - 1)) z) (delta_again activations m))
      minutes_in_hour

  fell_again : (activations : List Activation) → fell hour (filter (listed hour) activations) ≡ fell hour activations
  unfolding fell
  fell_again activations =
      any_same (falls hour (filter (listed hour) activations)) (falls hour activations)
      (λ m.
      ap (λ z. leb 1 m && lt_z (delta hour (filter (listed hour) activations) m) z) (delta_again activations (m - 1))
      ∙ ap (λ z. leb 1 m && lt_z z (delta hour activations (m - 1))) (delta_again activations m))
      minutes_in_hour

  bids_again : (bids : List Bid) → filter (stands_in hour) (filter (stands_in hour) bids) ≡ filter (stands_in hour) bids
  bids_again = over_kept (stands_in hour) (filter (stands_in hour)) (λ b bs. cond (stands_in hour b) (b ∷ bs) bs) (λ _ _. refl) (λ b bs f. cond-false (stands_in hour b) _ _ f)

  pub alone : (minutes : ℕ) (spot : Price) (activations : List Activation) (ups downs : List Bid) → facts_alone minutes spot hour activations ups downs ≡ facts_of minutes spot hour activations ups downs
  alone minutes spot activations ups downs =
      together minutes spot hour activations ups downs _ _ _ _ (rose hour (filter (listed hour) activations), fell hour (filter (listed hour) activations)) _ _
      (price_again above minutes spot Up activations) (price_again below minutes spot Down activations)
      (ap (λ bs. middle (best below (map (λ b. b.price) bs)) (highest_standing hour (filter (stands_in hour) downs)) spot) (bids_again ups)
      ∙ ap (λ bs. middle (lowest_standing hour ups) (best above (map (λ b. b.price) bs)) spot) (bids_again downs))
      (ap (λ n. pos n -ℤ pos (listed_energy hour Down (filter (listed hour) activations))) (energy_again Up activations)
      ∙ ap (λ n. pos (listed_energy hour Up activations) -ℤ pos n) (energy_again Down activations))
      (ap (λ r. (r, fell hour (filter (listed hour) activations))) (rose_again activations) ∙ ap (λ f. (rose hour activations, f)) (fell_again activations))
      (went_again Up activations) (went_again Down activations)
