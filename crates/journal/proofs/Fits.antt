-- How large the amounts of a day are, from what every run keeps.
use Rattle.std.proofs.Common.{◌≡◌, ℕ, ◌*◌, ◌^◌, ◌<◌, Bool, List, [], ◌∷◌, ℤ, pos, neg_ℤ, Some, None, Option, sym, refl, subst, arith}
use Rattle.std.proofs.lemmas.Int.{ints}
use Rattle.std.specs.List.{AllByRecursion}
use Rattle.std.proofs.ByRecursion.{All-weaker}
use Rattle.std.proofs.lemmas.Bool.{cond_both}
use Rattle.market.specs.Figures.{notice_limit, price_setting_minutes}
use Rattle.notices.specs.Order.{notice_same, energy_of}
use Rattle.notices.specs.Kept.{value_like}
use Rattle.pricing.specs.declared.Prices.{Prices}
use Rattle.pricing.specs.Policies.{Bounded}
use Rattle.integers.specs.Near.{Near}
use Rattle.integers.specs.Sums.{sum_to}
use Rattle.integers.proofs.Distances.{near_zero, near_weaker, near_neg, near-sum_to}
use Rattle.settlement.specs.Bounds.{HourFits, PricesFit}
use Rattle.settlement.proofs.Bounds.{due_small}
use Rattle.journal.specs.Figures.{Figures, hour_at, facts_at}
use Rattle.journal.specs.Reckoned.{due_to_party, taken, if_settled, settled_at}
use Rattle.journal.specs.Kept.{ActivationSound, Kept}
use Rattle.journal.proofs.Grounds.{grounds_of}
use Rattle.journal.proofs.Law.{regular, hour_cancels}

-- what holds of 0 and of every value holds of the one that is looked up
looked_up : {X : Type 0} (P : ℤ → Type 0) (same : X → X → Bool) (value : X → ℤ) (x : X) (xs : List X) → P (pos 0) → AllByRecursion (λ y. P (value y)) xs → P (value_like same value x xs)
unfolding value_like
looked_up P same value x [] zero all = zero
looked_up P same value x (y ∷ xs) zero all = cond_both (same y x) (value y) (value_like same value x xs) P (λ _. all.0) (λ _. looked_up P same value x xs zero all.1)

pub hour_fits : (f : Figures) → Kept f → (h : ℕ) → HourFits (hour_at f h)
hour_fits f k h =
    record {
      parties = k.terms.few_parties;
      plan = k.energies.plans_fit h;
      produced = k.energies.produced_fit h;
      consumed = k.energies.consumed_fit h;
      notice = λ p q. looked_up (Near notice_limit) notice_same energy_of _ f.notices (near_zero notice_limit) k.energies.notices_fit;
      few = k.trades.few;
      activations = All-weaker (ActivationSound f.opening f.parties) _ (λ a s. s.fits) f.activations k.trades.activated;
    }

-- the prices of a policy that shows the rules
pub prices_fit : (f : Figures) → Kept f → (h : ℕ) → h < f.opening.hours → (prices : Prices) → Bounded prices → PricesFit (facts_at f h) prices
prices_fit f k h within prices bounded = let r = regular f k h within in record { up = r.up_within; down = r.down_within; bounded = bounded }

-- what is due in an hour to a party
pub due_near : (f : Figures) → Kept f → (h : ℕ) → h < f.opening.hours → (prices : Prices) → Bounded prices → (p : ℕ) → Near (2 ^ 48) (due_to_party p prices (facts_at f h) (hour_at f h))
due_near f k h within prices bounded p = due_small price_setting_minutes (facts_at f h) prices (hour_at f h) (hour_fits f k h) (prices_fit f k h within prices bounded) p

settled_near : (f : Figures) → Kept f → (h p : ℕ) → Near (2 ^ 48) (settled_at (due_to_party p) f h)
settled_near f k h p = by (f.settled h) refl
  where
    by : (o : Option Prices) → f.settled h ≡ o → Near (2 ^ 48) (if_settled o (λ prices. due_to_party p prices (facts_at f h) (hour_at f h)))
    by None e = near_zero (2 ^ 48)
    by (Some prices) e =
        let r = k.settlements.rules h prices e in
        let within = k.settlements.in_the_day h prices e in
        due_near f k h within prices (subst Bounded (sym r.is) (r.shows.bounded (facts_at f h) (regular f k h within))) p

-- the account of a party
pub account_near : (f : Figures) → Kept f → (p : ℕ) → Near (25 * 2 ^ 48) (sum_to f.opening.hours (settled_at (due_to_party p) f))
account_near f k p =
    near_weaker (f.opening.hours * 2 ^ 48) (25 * 2 ^ 48) _ (omega (arith, k.terms.opened.few_hours)) (near-sum_to f.opening.hours (2 ^ 48) (settled_at (due_to_party p) f) (λ h _. settled_near f k h p))

-- and the operator's
pub operator_near : (f : Figures) → Kept f → Near (25 * (32 * 2 ^ 48)) (sum_to f.opening.hours (settled_at taken f))
operator_near f k =
    near_weaker (f.opening.hours * (32 * 2 ^ 48)) (25 * (32 * 2 ^ 48)) _ (omega (arith, k.terms.opened.few_hours)) (near-sum_to f.opening.hours (32 * 2 ^ 48) (settled_at taken f) (λ h _. taken_near h))
  where
    twice : (x y : ℤ) → x ≡ neg_ℤ y → y ≡ neg_ℤ x
    twice x y e = omega (arith, ints)

    taken_near : (h : ℕ) → Near (32 * 2 ^ 48) (settled_at taken f h)
    taken_near h =
        subst (Near (32 * 2 ^ 48)) (sym (twice _ _ (hour_cancels f (grounds_of f k) h)))
        (near_neg (32 * 2 ^ 48) _
        (near_weaker (f.parties * 2 ^ 48) (32 * 2 ^ 48) _ (omega (arith, k.terms.few_parties)) (near-sum_to f.parties (2 ^ 48) (λ p. settled_at (due_to_party p) f h) (λ p _. settled_near f k h p))))
