-- The parties' supplements sum to the net activated energy, each activation being in one party's one portfolio.
use Rattle.std.proofs.Common.{◌≡◌, ℕ, ◌+◌, ◌<◌, Bool, true, false, cond, ◌&&◌, eqb, List, [], ◌∷◌, ℤ, pos, ◌+ℤ◌, ◌-ℤ◌, sum_by, sym, refl, ap, ◌∙◌, ⊎_elim, arith}
use Rattle.std.proofs.lemmas.Int.{ints}
use Rattle.std.proofs.ByRecursion.{All-weaker}
use Rattle.std.proofs.lemmas.List.Sums.{sum_by-cons}
use Rattle.std.proofs.lemmas.Bool.{cases_Bool}
use Rattle.market.specs.declared.words.Activation.{Activation}
use Rattle.market.specs.declared.words.Direction.{Direction}
use Rattle.market.specs.declared.words.Direction.TheVariants.{Up, Down}
use Rattle.market.specs.declared.words.Portfolio.{Portfolio}
use Rattle.market.specs.declared.words.Portfolio.TheVariants.{Production, ConsumptionAndTrade}
use Rattle.market.specs.Words.{energy_of}
use Rattle.register.specs.Totals.{of_hour, of_account, same_portfolio, adds}
use Rattle.market.specs.Words.{same_direction}
use Rattle.integers.specs.Sums.{sum_to, sum_over}
use Rattle.integers.proofs.Sums.{sum_to-same, sum_to-none, sum_to-only, sum_over-add, sum_over-same, sum_over-swap}
use Rattle.settlement.specs.Hour.{Hour, supplement, net_activated, OwnActivations}

one_more : (a b c d : ℕ) (s : ℤ) → pos c -ℤ pos d ≡ s → pos (a + c) -ℤ pos (b + d) ≡ (pos a -ℤ pos b) +ℤ s
one_more a b c d s e = omega (arith, ints)

-- the difference of two sums, term by term
pub difference : {X : Type 0} (f g : X → ℕ) (xs : List X) → pos (sum_by f xs) -ℤ pos (sum_by g xs) ≡ sum_over (λ x. pos (f x) -ℤ pos (g x)) xs
unfolding sum_over
difference f g [] = refl
difference f g (x ∷ xs) =
    ap (λ n. pos n -ℤ pos (sum_by g (x ∷ xs))) (sum_by-cons f x xs) ∙ ap (λ n. pos (f x + sum_by f xs) -ℤ pos n) (sum_by-cons g x xs) ∙ one_more (f x) (g x) (sum_by f xs) (sum_by g xs) _ (difference f g xs)

-- what an activation adds, upward less downward, where it counts
net : (Activation → Bool) → Activation → ℤ
net counts a = pos (adds counts Up a) -ℤ pos (adds counts Down a)

-- o: it is of the hour; e: it is the party's
in_one : (o e : Bool) (pf : Portfolio) (d : Direction) (n : ℕ)
    → (pos (cond ((o && (e && same_portfolio pf Production)) && same_direction Up d) n 0) -ℤ pos (cond ((o && (e && same_portfolio pf Production)) && same_direction Down d) n 0))
    +ℤ (pos (cond ((o && (e && same_portfolio pf ConsumptionAndTrade)) && same_direction Up d) n 0) -ℤ pos (cond ((o && (e && same_portfolio pf ConsumptionAndTrade)) && same_direction Down d) n 0))
    ≡ cond e (pos (cond (o && same_direction Up d) n 0) -ℤ pos (cond (o && same_direction Down d) n 0)) (pos 0)
in_one false false pf d n = refl
in_one false true pf d n = refl
in_one true false pf d n = refl
in_one true true Production Up n = omega (arith, ints)
in_one true true Production Down n = omega (arith, ints)
in_one true true ConsumptionAndTrade Up n = omega (arith, ints)
in_one true true ConsumptionAndTrade Down n = omega (arith, ints)

not_of_hour : (d : Direction) (n : ℕ) (o : Bool) → o ≡ false → pos (cond (o && same_direction Up d) n 0) -ℤ pos (cond (o && same_direction Down d) n 0) ≡ pos 0
not_of_hour d n true e = absurd (let z : ◌≡◌ {A = ℕ} 0 1 = cc in omega arith)
not_of_hour d n false e = refl

module _ (hour : Hour) where
  own : ℕ → Portfolio → Activation → ℤ
  own p pf a = net (of_account hour.position (record { 0 = p }) pf) a

  both : ℕ → Activation → ℤ
  both p a = own p Production a +ℤ own p ConsumptionAndTrade a

  -- over all parties, an activation adds what it adds to the area
  each : (a : Activation) → (of_hour hour.position a ≡ true → a.party.0 < hour.parties) → sum_to hour.parties (λ p. both p a) ≡ net (of_hour hour.position) a
  unfolding net own both
  each a entered =
      let n : ℕ = hour.parties in
      let o : Bool = of_hour hour.position a in
      let x : ℤ = net (of_hour hour.position) a in
      let split = sum_to-same n (λ p. both p a) (λ p. cond (eqb a.party.0 p) x (pos 0)) (λ p h. in_one o (eqb a.party.0 p) a.portfolio a.direction (energy_of a)) in
      ⊎_elim
      (λ t. split ∙ sum_to-only n a.party.0 x (entered t))
      (λ f.
      let none = not_of_hour a.direction (energy_of a) o f in
      split ∙ sum_to-none n (λ p. cond (eqb a.party.0 p) x (pos 0)) (λ p h. either (eqb a.party.0 p) x none) ∙ sym none)
      (cases_Bool o)
    where
      either : (b : Bool) (x : ℤ) → x ≡ pos 0 → cond b x (pos 0) ≡ pos 0
      either true x e = e
      either false x e = refl

  supplements_by_term : (p : ℕ) → supplement hour Production p +ℤ supplement hour ConsumptionAndTrade p ≡ sum_over (both p) hour.activations
  unfolding net own both
  supplements_by_term p =
      let as₁ = difference (adds (of_account hour.position (record { 0 = p }) Production) Up) (adds (of_account hour.position (record { 0 = p }) Production) Down) hour.activations in
      let as₂ = difference (adds (of_account hour.position (record { 0 = p }) ConsumptionAndTrade) Up) (adds (of_account hour.position (record { 0 = p }) ConsumptionAndTrade) Down) hour.activations in
      let joined = sum_over-add (own p Production) (own p ConsumptionAndTrade) hour.activations in
      ap (λ z. z +ℤ supplement hour ConsumptionAndTrade p) as₁ ∙ ap (λ z. sum_over (own p Production) hour.activations +ℤ z) as₂ ∙ sym joined

  pub supplements_sum : OwnActivations hour → sum_to hour.parties (λ p. supplement hour Production p +ℤ supplement hour ConsumptionAndTrade p) ≡ net_activated hour
  unfolding net
  supplements_sum owned =
      let n : ℕ = hour.parties in
      sum_to-same n _ (λ p. sum_over (both p) hour.activations) (λ p h. supplements_by_term p)
      ∙ sum_over-swap n both hour.activations
      ∙ sum_over-same (λ a. sum_to n (λ p. both p a)) (net (of_hour hour.position)) hour.activations
      (All-weaker (λ a. of_hour hour.position a ≡ true → a.party.0 < n) (λ a. sum_to n (λ p. both p a) ≡ net (of_hour hour.position) a) each hour.activations owned)
      ∙ sym (difference (adds (of_hour hour.position) Up) (adds (of_hour hour.position) Down) hour.activations)
