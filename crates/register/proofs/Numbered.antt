-- Numbers of arrival are given in turn, so a new one is the same as none that is held.
use Rattle.std.proofs.Common.{◌≡◌, ℕ, ◌+◌, ◌<◌, Bool, true, false, cond, ◌||◌, ltb, List, [], ◌∷◌, length, sym, refl, ap, ◌∙◌, subst, ⊎_elim, arith}
use Rattle.std.specs.List.{AllByRecursion}
use Rattle.std.proofs.ByRecursion.{All-weaker}
use Rattle.std.proofs.lemmas.Bool.{and_parts, and_from, ltb-true, lt-ltb, or_left, cond-true, cond-false, cases_Bool}
use Rattle.ordered.specs.Order.{held, placed, rises}
use Rattle.ordered.proofs.Lexical.{lex_order, lex_same-true}
use Rattle.ordered.proofs.Placed.{all_placed, length_placed}
use Rattle.ordered.proofs.Rising.{not_held}
use Rattle.market.specs.declared.words.Activation.{Activation}
use Rattle.market.specs.Order.{activation_key, activation_before, activation_same}
use Rattle.register.specs.Arrivals.{arrived_below}
use Rattle.register.specs.Registered.{arrived, with_activation}

abbrev Earlier : ℕ → Activation → Type 0
Earlier n a = a.arrival < n

earlier_from : (n : ℕ) (xs : List Activation) → arrived_below n xs ≡ true → AllByRecursion (Earlier n) xs
earlier_from n [] h = tt
earlier_from n (x ∷ xs) h =
    let p = and_parts (ltb x.arrival n) (arrived_below n xs) h in (ltb-true x.arrival n p.0, earlier_from n xs p.1)

to_earlier : (n : ℕ) (xs : List Activation) → AllByRecursion (Earlier n) xs → arrived_below n xs ≡ true
to_earlier n [] a = refl
to_earlier n (x ∷ xs) a = and_from (ltb x.arrival n) (arrived_below n xs) (lt-ltb x.arrival n a.0) (to_earlier n xs a.1)

same_arrival : (a b : Activation) → activation_same a b ≡ true → a.arrival ≡ b.arrival
same_arrival a b h = let e = lex_same-true (activation_key a) (activation_key b) h in cc

not_same : (n : ℕ) (x : Activation) → x.arrival ≡ n → (y : Activation) → Earlier n y → activation_same y x ≡ false
not_same n x is y h =
    ⊎_elim (λ t. absurd (omega (arith, same_arrival y x t))) (λ e. e) (cases_Bool (activation_same y x))

module _ (xs : List Activation) (a : Activation) (rising : rises activation_before xs ≡ true) (numbered : arrived_below (length xs) xs ≡ true) where
  not_yet : held activation_same (arrived (length xs) a) xs ≡ false
  not_yet =
      not_held (lex_order activation_key) (arrived (length xs) a) xs
      (All-weaker (Earlier (length xs)) (λ y. activation_same y (arrived (length xs) a) ≡ false) (not_same (length xs) (arrived (length xs) a) refl) xs (earlier_from (length xs) xs numbered))

  longer : length (with_activation a xs) ≡ length xs + 1
  unfolding with_activation
  longer = length_placed (lex_order activation_key) xs (arrived (length xs) a) rising ∙ cond-false _ _ _ not_yet

  all_earlier : AllByRecursion (Earlier (length xs + 1)) (with_activation a xs)
  unfolding with_activation
  all_earlier =
      all_placed (lex_order activation_key) (Earlier (length xs + 1)) xs (arrived (length xs) a) (omega arith)
      (All-weaker (Earlier (length xs)) (Earlier (length xs + 1)) (λ y h. omega arith) xs (earlier_from (length xs) xs numbered))

  still_numbered : arrived_below (length (with_activation a xs)) (with_activation a xs) ≡ true
  still_numbered =
      subst (λ n. arrived_below n (with_activation a xs) ≡ true) (sym longer) (to_earlier (length xs + 1) (with_activation a xs) all_earlier)

  -- what the list answers and holds once the activation is put under the number n
  module _ (n : ℕ) (is : n ≡ length xs) (ys : List Activation) (space : ℕ) (ok : Bool) (room : n < space) (answer : ok ≡ (ltb (length xs) space || held activation_same (arrived n a) xs)) (after : ys ≡ cond ok (placed activation_before (arrived n a) xs) xs) where
    pub entered : ys ≡ with_activation a xs
    unfolding with_activation
    entered =
        let yes : ok ≡ true = answer ∙ or_left (ltb (length xs) space) _ (lt-ltb (length xs) space (omega arith)) in
        after ∙ cond-true ok _ _ yes ∙ ap (λ k. placed activation_before (arrived k a) xs) is

    pub entered_numbered : arrived_below (length ys) ys ≡ true
    entered_numbered = subst (λ zs. arrived_below (length zs) zs ≡ true) (sym entered) still_numbered
