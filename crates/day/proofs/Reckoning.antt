-- What a metered day keeps, and what it answers.
use Rattle.std.proofs.Common.{◌≡◌, ℕ, ◌*◌, ◌^◌, ◌<◌, ◌≤◌, Bool, true, false, cond, ltb, ℤ, pos, ◌+ℤ◌, ◌-ℤ◌, neg_ℤ, Some, None, Ok, Err, Option, Result, sym, refl, ap, ◌∙◌, subst, arith}
use mathlib.Core.Logic.{∥∥₁_elim, ∥∥₁_map}
use lib.IntN.{ℤ_set}
use Rattle.std.proofs.lemmas.Int.{ints}
use Rattle.std.proofs.lemmas.Bool.{cond-true}
use Rattle.refusal.specs.declared.Refusal.{Refusal}
use Rattle.refusal.proofs.Outcomes.{accepted}
use Rattle.market.specs.Figures.{most_hours, price_setting_minutes}
use Rattle.accounts.specs.declared.Accounts.{Accounts}
use Rattle.accounts.specs.Booked.{amounts_of, operator_of, settled_of, Opened}
use Rattle.accounts.specs.Booked as booking
use Rattle.positions.specs.declared.record.Meter.{Meter}
use Rattle.positions.specs.declared.record.Meter.TheVariants.{Production, Consumption}
use Rattle.pricing.specs.declared.Facts.{Facts}
use Rattle.pricing.specs.declared.PricedHour.{PricedHour}
use Rattle.pricing.specs.declared.Prices.{Prices}
use Rattle.pricing.specs.Policies.{ShowsRules, priced_by}
use Rattle.integers.specs.Near.{Near}
use Rattle.integers.specs.Places.{at}
use Rattle.integers.specs.Sums.{sum_to}
use Rattle.integers.proofs.Distances.{near_cond, near_zero}
use Rattle.settlement.specs.Bounds.{PricesFit}
use Rattle.settlement.specs.Payments.{due_to, operator_takes}
use Rattle.settlement.proofs.MoneyLaw.{money_sums}
use Rattle.journal.specs.Figures.{Metered, Figures, times_of, hour_at, facts_at}
use Rattle.journal.specs.Journal.{Entry, Reading, Settled, with_settled, after}
use Rattle.journal.specs.Refused.{is_settled, is_complete, settle_refused}
use Rattle.journal.specs.Lawful.{Lawful}
use Rattle.journal.specs.Kept.{Kept}
use Rattle.journal.specs.Made.{Made}
use Rattle.journal.specs.Reckoned.{Booking, due_to_party, taken, settled_at, booked, account_at, operator_at}
use Rattle.journal.proofs.Accounts.{nothing_settled, step, same_opening}
use Rattle.journal.proofs.Fits.{prices_fit, account_near, operator_near}
use Rattle.journal.proofs.Kept.{kept_after}
use Rattle.journal.proofs.Law.{own, regular}
use Rattle.journal.proofs.Accepted.{settling}
use Rattle.book.specs.declared.book.Book.{Book}
use Rattle.book.specs.View.{shown}
use Rattle.book.specs.Bills.{Roomy, Billed}
use Rattle.book.proofs.Opened.{lawful_opening}
use Rattle.book.proofs.Through.{kept_of}
use Rattle.day.specs.Parts.{metered_of, Reckoned}

-- a sum over the settled hours, after a lawful call
sum_after : (booking : Booking) (e : Entry) (f : Figures) → Kept f → Lawful e f → sum_to (after e f).opening.hours (settled_at booking (after e f)) ≡ sum_to f.opening.hours (settled_at booking f) +ℤ booked booking e f
sum_after booking e f k l = ap (λ o. sum_to o.hours (settled_at booking (after e f))) (same_opening e f l) ∙ step booking e f k l

-- a day just finished
pub finished : (b : Book) (a : Accounts) → Opened a → ∥ Reckoned (metered_of b a) a ∥₁
finished b a new =
    ∥∥₁_map b.sound (λ s.
    let f : Figures = metered_of b a in
    let none : (h : ℕ) → f.settled h ≡ None = λ h. ap (λ g. g h) new.settled in
    record {
      kept = subst (λ g. Kept (shown Metered g b)) (sym new.settled) (kept_of Metered b.timetable b.positions b.notices b.ladder b.register s);
      amounts = λ p. ap (λ g. g p) new.amounts ∙ both (ltb p f.parties) (account_at f p) (nothing_settled (due_to_party p) f.opening.hours f none);
      operator = new.operator ∙ sym (nothing_settled taken f.opening.hours f none);
    })
  where
    both : (t : Bool) (x : ℤ) → x ≡ pos 0 → pos 0 ≡ cond t x (pos 0)
    both true x e = sym e
    both false x e = refl

-- after a reading
read_parties : (h p : ℕ) (meter : Meter) (x : ℤ) (f : Figures) → (after (Reading h p meter x) f).parties ≡ f.parties
read_parties h p Production x f = refl
read_parties h p Consumption x f = refl

plus_none : (x y z : ℤ) → z ≡ y +ℤ pos 0 → x ≡ y → x ≡ z
plus_none x y z e d = omega (arith, ints, e, d)

read_sums : (f : Figures) (a : Accounts) (h p : ℕ) (meter : Meter) (x : ℤ) → Lawful (Reading h p meter x) f → Reckoned f a → Reckoned (after (Reading h p meter x) f) a
read_sums f a h p meter x l s =
    let e : Entry = Reading h p meter x in
    let g : Figures = after e f in
    record {
      kept = kept_after e f s.kept l;
      amounts = λ q.
          s.amounts q
          ∙ ap (λ n. cond (ltb q n) (account_at f q) (pos 0)) (sym (read_parties h p meter x f))
          ∙ ap (λ z. cond (ltb q g.parties) z (pos 0)) (plus_none (account_at f q) (account_at f q) (account_at g q) (sum_after (due_to_party q) e f s.kept l) refl);
      operator = plus_none (operator_of a) (operator_at f) (operator_at g) (sum_after taken e f s.kept l) s.operator;
    }

pub read_reckoned : (b d : Book) (a : Accounts) (row : Option Refusal) (r : Result Unit Refusal) (h p : ℕ) (meter : Meter) (x : ℤ) → Made row (λ _. Reading h p meter x) r (metered_of b a) (metered_of d a) → ∥ Reckoned (metered_of b a) a ∥₁ → ∥ Reckoned (metered_of d a) a ∥₁
read_reckoned b d a row r h p meter x made old =
    ∥∥₁_map old (by row r made)
  where
    by : (row : Option Refusal) (r : Result Unit Refusal) → Made row (λ _. Reading h p meter x) r (metered_of b a) (metered_of d a) → Reckoned (metered_of b a) a → Reckoned (metered_of d a) a
    by (Some refusal) r m s = subst (λ g. Reckoned g a) (sym m.1) s
    by None (Ok u) m s = subst (λ g. Reckoned g a) (sym m.1) (read_sums (metered_of b a) a h p meter x m.0 s)
    by None (Err refusal) m s = absurd m

-- settling

in_the_day : (h n : ℕ) → h < n → n ≤ 25 → ltb h most_hours ≡ true
in_the_day h n l m = grind (arith, l, m)

module _ (b : Book) (a a₁ a₂ : Accounts) (h : ℕ) (priced : PricedHour) (m : Facts → Prices) (shows : ShowsRules m)
    (none : settle_refused (metered_of b a) h ≡ None) (is : priced ≡ priced_by m (facts_at (metered_of b a) h))
    (kept-settled : settled_of a₁ ≡ settled_of a) (marked : booking.Settled h priced.prices a₁ a₂) where
  lawful : Lawful (Settled h m) (metered_of b a)
  lawful = (refl, (none, shows))

  within : h < (metered_of b a).opening.hours
  within = (settling (times_of (metered_of b a)) h (is_settled (metered_of b a) h) (is_complete (metered_of b a) h) none).0

  pub settled_is : metered_of b a₂ ≡ after (Settled h m) (metered_of b a)
  settled_is =
      let there = in_the_day h (metered_of b a).opening.hours within (lawful_opening b.timetable).few_hours in
      ap (λ g. shown Metered g b) (marked.settled ∙ cond-true (ltb h most_hours) (at h (Some priced.prices) (settled_of a₁)) (settled_of a₁) there ∙ ap (at h (Some priced.prices)) kept-settled)
      ∙ ap (λ q. with_settled h q (metered_of b a)) (ap (λ p. p.prices) is)

  pub settled_made : Made {X = Unit} (settle_refused (metered_of b a) h) (λ _. Settled h m) (Ok tt) (metered_of b a) (metered_of b a₂)
  settled_made =
      accepted {X = Unit} (settle_refused (metered_of b a) h) (metered_of b a₂ ≡ metered_of b a) (λ _. Lawful (Settled h m) (metered_of b a) × (metered_of b a₂ ≡ after (Settled h m) (metered_of b a))) tt none (lawful, settled_is)

  module _ (s : Reckoned (metered_of b a) a) where
    fits : PricesFit priced.facts priced.prices
    fits =
        let r = regular (metered_of b a) s.kept h within in
        let facts = facts_at (metered_of b a) h in
        subst (λ p. PricesFit p.facts p.prices) (sym is) (prices_fit (metered_of b a) s.kept h within (m facts) (shows.bounded facts r))

    roomy : Roomy a
    roomy =
        let f : Figures = metered_of b a in
        record {
          amounts = λ p. subst (Near (25 * 2 ^ 48)) (sym (s.amounts p)) (near_cond (25 * 2 ^ 48) (ltb p f.parties) (account_at f p) (pos 0) (account_near f s.kept p) (near_zero (25 * 2 ^ 48)));
          operator = subst (Near (25 * (32 * 2 ^ 48))) (sym s.operator) (operator_near f s.kept);
        }

    module _ (billed : Billed (metered_of b a).parties (due_to price_setting_minutes priced.facts priced.prices (hour_at (metered_of b a) h)) a a₁) where
      due_is : (p : ℕ) → due_to price_setting_minutes priced.facts priced.prices (hour_at (metered_of b a) h) p ≡ booked (due_to_party p) (Settled h m) (metered_of b a)
      due_is p =
          ap (λ x. due_to price_setting_minutes x.facts x.prices (hour_at (metered_of b a) h) p) is

      new_amounts : (p : ℕ) → amounts_of a₂ p ≡ cond (ltb p (metered_of b a).parties) (account_at (after (Settled h m) (metered_of b a)) p) (pos 0)
      new_amounts p =
          let f : Figures = metered_of b a in
          ap (λ g. g p) marked.amounts ∙ billed.amounts p ∙ add (ltb p f.parties) _ _ _ _ (s.amounts p) (due_is p) (sum_after (due_to_party p) (Settled h m) f s.kept lawful)
        where
          add : (t : Bool) (x u v w : ℤ) → x ≡ cond t u (pos 0) → v ≡ w → {z : ℤ} → z ≡ u +ℤ w → x +ℤ cond t v (pos 0) ≡ cond t z (pos 0)
          add true x u v w e d {z} n = omega (arith, ints, e, d, n)
          add false x u v w e d {z} n = omega (arith, ints, e)

      new_operator : operator_of a₂ ≡ operator_at (after (Settled h m) (metered_of b a))
      new_operator =
          let f : Figures = metered_of b a in
          let sums = money_sums price_setting_minutes priced.facts (hour_at f h) priced.prices (own f s.kept h) in
          let takes : operator_takes price_setting_minutes priced.facts priced.prices (hour_at f h) ≡ booked taken (Settled h m) f =
          ap (λ x. operator_takes price_setting_minutes x.facts x.prices (hour_at f h)) is in
          marked.operator ∙ billed.operator ∙ less _ _ _ _ _ _ s.operator sums takes (sum_after taken (Settled h m) f s.kept lawful)
        where
          less : (x u v w y z : ℤ) → x ≡ u → v ≡ neg_ℤ w → w ≡ y → z ≡ u +ℤ y → x -ℤ v ≡ z
          less x u v w y z e d n q = omega (arith, ints, e, d, n, q)

      settled_sums : Reckoned (metered_of b a₂) a₂
      settled_sums =
          subst (λ g. Reckoned g a₂) (sym settled_is) (record { kept = kept_after (Settled h m) (metered_of b a) s.kept lawful; amounts = new_amounts; operator = new_operator })

  pub settled_reckoned : (PricesFit priced.facts priced.prices → Roomy a → Billed (metered_of b a).parties (due_to price_setting_minutes priced.facts priced.prices (hour_at (metered_of b a) h)) a a₁) → ∥ Reckoned (metered_of b a) a ∥₁ → ∥ Reckoned (metered_of b a₂) a₂ ∥₁
  settled_reckoned bill old = ∥∥₁_map old (λ s. settled_sums s (bill (fits s) (roomy s)))

-- questions

pub account_is : (b : Book) (a : Accounts) (p : ℕ) (x : ℤ) → ∥ Reckoned (metered_of b a) a ∥₁ → ltb p (metered_of b a).parties ≡ true → x ≡ amounts_of a p → x ≡ account_at (metered_of b a) p
account_is b a p x old entered e =
    ∥∥₁_elim old (ℤ_set _ _) (λ s. e ∙ s.amounts p ∙ cond-true (ltb p (metered_of b a).parties) (account_at (metered_of b a) p) (pos 0) entered)

pub operator_is : (b : Book) (a : Accounts) (x : ℤ) → ∥ Reckoned (metered_of b a) a ∥₁ → x ≡ operator_of a → x ≡ operator_at (metered_of b a)
operator_is b a x old e = ∥∥₁_elim old (ℤ_set _ _) (λ s. e ∙ s.operator)
