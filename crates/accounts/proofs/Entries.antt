-- The accounts once one of their entries is written.
use Rattle.std.proofs.Common.{◌≡◌, ℕ, ◌<◌, cond, eqb, ltb, List, length, get_or, set, replicate, ℤ, pos, ◌+ℤ◌, ◌-ℤ◌, Some, None, Option, option_copied, unwrap_or, Bor, sym, refl, ap, ◌∙◌, ⊎_elim, arith, get_or-set_other, get_or-set_same}
use mathlib.Core.Path.{fun_ext}
use Rattle.std.proofs.lemmas.List.{get_or-replicate, get_or_past}
use Rattle.std.specs.Option.{UnwrapsOrElse, option_flatten}
use Rattle.std.specs.Slice.{IsItemAt}
use Rattle.std.proofs.lemmas.Option.{none-some, same_Some}
use Rattle.std.proofs.lemmas.Bool.{cases_Bool, cases_eq, cond_both, cond-true, cond-false, eq-eqb, ne_eqb, lt-ltb, ltb-false, ltb-true}
use Rattle.units.specs.declared.Mills.{Mills}
use Rattle.pricing.specs.declared.Prices.{Prices}
use Rattle.market.specs.Figures.{most_hours, most_parties}
use Rattle.integers.specs.Places.{at}
use Rattle.accounts.specs.declared.Accounts.{Accounts}
use Rattle.accounts.specs.Booked.{amounts_of, operator_of, settled_of, capped, Opened, Booked, Settled}

nothing : Mills
nothing = record { 0 = pos 0 }

-- the first n entries of a list as values by number
module _ {X Y : Type 0} (n : ℕ) (d : X) (f : X → Y) (z : Y) where
  seen : List X → ℕ → Y
  seen xs j = cond (ltb j n) (f (get_or xs j d)) z

  entered : (xs : List X) (k : ℕ) (y : X) → k < n → k < length xs → seen (set xs k y) ≡ at k (f y) (seen xs)
  unfolding seen
  entered xs k y below within =
      fun_ext (λ j.
      ⊎_elim
      (λ e.
      ap (λ i. cond (ltb i n) (f (get_or (set xs k y) i d)) z) e
      ∙ (cond-true (ltb k n) (f (get_or (set xs k y) k d)) z (lt-ltb k n below)
      ∙ (ap f (get_or-set_same xs k y d within)
      ∙ sym (cond-true (eqb j k) (f y) (cond (ltb j n) (f (get_or xs j d)) z) (eq-eqb j k e)))))
      (λ e.
      ap (λ w. cond (ltb j n) (f w) z) (get_or-set_other xs k j y d e)
      ∙ sym (cond-false (eqb j k) (f y) (cond (ltb j n) (f (get_or xs j d)) z) (ne_eqb j k e)))
      (cases_eq j k))

  read_all : (xs : List X) (j : ℕ) → length xs ≡ n → f d ≡ z → f (get_or xs j d) ≡ seen xs j
  unfolding seen
  read_all xs j all is =
      cond_both (ltb j n) (f (get_or xs j d)) z (λ w. f (get_or xs j d) ≡ w) (λ e. refl)
      (λ e. ap f (get_or_past xs j d (omega (arith, all, ltb-false j n e))) ∙ is)

  none_yet : (xs : List X) → ((k : ℕ) → k < n → f (get_or xs k d) ≡ z) → seen xs ≡ (λ j. z)
  unfolding seen
  none_yet xs each =
      fun_ext (λ j.
      ⊎_elim
      (λ e. cond-true (ltb j n) (f (get_or xs j d)) z e ∙ each j (ltb-true j n e))
      (λ e. cond-false (ltb j n) (f (get_or xs j d)) z e)
      (cases_Bool (ltb j n)))

pub or_nothing : (o : Option Mills) (m : Mills) → UnwrapsOrElse o (λ y. y.0 ≡ pos 0) m → m.0 ≡ (unwrap_or o (record { 0 = pos 0 })).0
or_nothing None m is = is
or_nothing (Some y) m is = ap (λ z. z.0) is

-- what is read of one account and of one hour
pub amount_read : (a : Accounts) (p : ℕ) → length a.parties ≡ most_parties → (get_or a.parties p (record { 0 = pos 0 })).0 ≡ amounts_of a p
unfolding amounts_of seen nothing
amount_read a p all = read_all most_parties nothing (λ y. y.0) (pos 0) a.parties p all refl

pub settled_read : (a : Accounts) (h : ℕ) → length a.settled ≡ most_hours → get_or a.settled h None ≡ settled_of a h
unfolding settled_of seen
settled_read a h all = read_all most_hours None (λ y. y) None a.settled h all refl

pub flattened : {X : Type 0} (o : Option (Option X)) → option_flatten o ≡ unwrap_or o None
flattened None = refl
flattened (Some o) = refl

-- an account that was found
pub found : (xs : List Mills) (p : ℕ) (o : Option (Bor Mills)) (m : Mills) → IsItemAt xs p o → Some m ≡ option_copied o → (p < length xs) × (m.0 ≡ (get_or xs p (record { 0 = pos 0 })).0)
found xs p None m item is = absurd (none-some m (sym is))
found xs p (Some x) m item is =
    (ltb-true p (length xs) (sym item.0), ap (λ y. y.0) (same_Some m x.now is ∙ item.4 (omega arith) (record { 0 = pos 0 })))

module _ (a after : Accounts) where
  same_amounts : after.parties ≡ a.parties → amounts_of after ≡ amounts_of a
  unfolding amounts_of
  same_amounts e = ap {B = ℕ → ℤ} (λ (xs : List Mills) j. cond (ltb j most_parties) (get_or xs j (record { 0 = pos 0 })).0 (pos 0)) e

  same_settled : after.settled ≡ a.settled → settled_of after ≡ settled_of a
  unfolding settled_of
  same_settled e = ap {B = ℕ → Option Prices} (λ (xs : List (Option Prices)) j. cond (ltb j most_hours) (get_or xs j None) None) e

  new_amount : (p : ℕ) (m : Mills) → p < most_parties → p < length a.parties → after.parties ≡ set a.parties p m → amounts_of after ≡ at p m.0 (amounts_of a)
  unfolding amounts_of seen nothing
  new_amount p m below within e =
      ap (seen most_parties nothing (λ y. y.0) (pos 0)) e ∙ entered most_parties nothing (λ y. y.0) (pos 0) a.parties p m below within

  new_settled : (h : ℕ) (q : Prices) → h < most_hours → h < length a.settled → after.settled ≡ set a.settled h (Some q) → settled_of after ≡ at h (Some q) (settled_of a)
  unfolding settled_of seen
  new_settled h q below within e =
      ap (seen most_hours None (λ y. y) None) e ∙ entered most_hours None (λ y. y) None a.settled h (Some q) below within

  pub was_booked : (p : ℕ) (x : ℤ) (m : Mills) → p < most_parties → p < length a.parties → after.parties ≡ set a.parties p m → m.0 ≡ capped (amounts_of a p +ℤ x) → after.operator.0 ≡ capped (a.operator.0 -ℤ x) → after.settled ≡ a.settled → Booked p x a after
  was_booked p x m below within parties is operator settled =
      record {
        amounts =
            (new_amount p m below within parties ∙ ap (λ y. at p y (amounts_of a)) is)
            ∙ sym (cond-true (ltb p most_parties) (at p (capped (amounts_of a p +ℤ x)) (amounts_of a)) (amounts_of a) (lt-ltb p most_parties below));
        operator = operator ∙ sym (cond-true (ltb p most_parties) (capped (operator_of a -ℤ x)) (operator_of a) (lt-ltb p most_parties below));
        settled = same_settled settled;
      }

  pub was_settled : (h : ℕ) (q : Prices) → h < most_hours → h < length a.settled → after.settled ≡ set a.settled h (Some q) → after.parties ≡ a.parties → after.operator ≡ a.operator → Settled h q a after
  was_settled h q below within settled parties operator =
      record {
        amounts = same_amounts parties;
        operator = ap (λ m. m.0) operator;
        settled = new_settled h q below within settled ∙ sym (cond-true (ltb h most_hours) (at h (Some q) (settled_of a)) (settled_of a) (lt-ltb h most_hours below));
      }

pub was_opened : (a : Accounts) → a.parties ≡ replicate most_parties (record { 0 = pos 0 }) → a.operator.0 ≡ pos 0 → a.settled ≡ replicate most_hours None → Opened a
unfolding amounts_of settled_of seen nothing
was_opened a parties operator settled =
    record {
      amounts = none_yet most_parties nothing (λ y. y.0) (pos 0) a.parties (λ k l. ap (λ y. y.0) (ap (λ xs. get_or xs k nothing) parties ∙ get_or-replicate most_parties k nothing nothing l));
      operator = operator;
      settled = none_yet most_hours None (λ y. y) None a.settled (λ k l. ap (λ xs. get_or xs k None) settled ∙ get_or-replicate most_hours k None None l);
    }
