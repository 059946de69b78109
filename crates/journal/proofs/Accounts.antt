-- What the settlements booked, each when it was made, is what the figures at the end say of the settled hours.
use Rattle.std.proofs.Common.{◌≡◌, ℕ, cond, eqb, [], ◌∷◌, ℤ, pos, ◌+ℤ◌, Some, None, Option, sym, refl, ap, ◌∙◌, subst, ⊎_elim}
use Rattle.std.proofs.Math.IntN.{+ℤ_idl, +ℤ_idr}
use Rattle.std.proofs.lemmas.Bool.{cases_eq, eq-eqb, ne_eqb}
use Rattle.pricing.specs.declared.Facts.{Facts}
use Rattle.pricing.specs.declared.Prices.{Prices}
use Rattle.integers.specs.Sums.{sum_to}
use Rattle.integers.proofs.Sums.{sum_to-same, sum_to-none, sum_to-add, sum_to-only}
use Rattle.timetable.specs.Opening.{Opening}
use Rattle.positions.specs.declared.record.Meter.{Meter}
use Rattle.positions.specs.declared.record.Meter.TheVariants.{Production, Consumption}
use Rattle.journal.specs.Figures.{Figures, hour_at, facts_at}
use Rattle.journal.specs.Journal.{Entry, Journal, Reading, Settled, with_reading, with_settled, after, figures}
use Rattle.journal.specs.Reckoned.{Booking, if_settled, settled_at, booked, booked_in, policy_by, policy_of, prices_under}
use Rattle.journal.specs.Lawful.{Lawful}
use Rattle.journal.specs.Sound.{SoundEntry, SoundJournal}
use Rattle.journal.specs.Kept.{Settlements, Kept}
use Rattle.journal.proofs.Grounds.{opening_stays, of_metered, grounds}
use Rattle.journal.proofs.Sound.{sound_entry}

-- nothing is booked in an hour that is not settled
pub nothing_settled : (booking : Booking) (n : ℕ) (f : Figures) → ((h : ℕ) → f.settled h ≡ None) → sum_to n (settled_at booking f) ≡ pos 0
nothing_settled booking n f e = sum_to-none n (settled_at booking f) (λ h l. rw (e h) refl)

reading_hour : (f : Figures) (h p : ℕ) (meter : Meter) (x : ℤ) (k : ℕ) → (k ≡ h → ⊥) → hour_at (with_reading h p meter x f) k ≡ hour_at f k
reading_hour f h p Production x k n = rw (ne_eqb k h n) refl
reading_hour f h p Consumption x k n = rw (ne_eqb k h n) refl

-- a reading of an hour that is not settled leaves what is booked of every hour
reading_leaves : (booking : Booking) (f : Figures) (h p : ℕ) (meter : Meter) (x : ℤ) → f.settled h ≡ None → (k : ℕ) → settled_at booking (with_reading h p meter x f) k ≡ settled_at booking f k
unfolding facts_at
reading_leaves booking f h p meter x e k =
    ⊎_elim
    (λ same. let none : f.settled k ≡ None = ap f.settled same ∙ e in rw none refl)
    (λ other. ap (λ hour. if_settled (f.settled k) (λ m. booking m (facts_at f k) hour)) (reading_hour f h p meter x k other))
    (cases_eq k h)

-- a settlement books in its own hour
settling_books : (booking : Booking) (f : Figures) (h : ℕ) (prices : Prices) → f.settled h ≡ None → (k : ℕ)
    → settled_at booking (with_settled h prices f) k ≡ settled_at booking f k +ℤ cond (eqb h k) (booking prices (facts_at f h) (hour_at f h)) (pos 0)
unfolding facts_at
settling_books booking f h prices e k =
    ⊎_elim
    (λ same.
    let none : f.settled k ≡ None = ap f.settled same ∙ e in
    rw (eq-eqb k h same, eq-eqb h k (sym same), none) (ap (λ j. booking prices (facts_at f j) (hour_at f j)) same ∙ sym (+ℤ_idl _)))
    (λ other. rw (ne_eqb k h other, ne_eqb h k (λ back. other (sym back))) (sym (+ℤ_idr _)))
    (cases_eq k h)

sound_step : (booking : Booking) (e : Entry) (f : Figures) → Settlements f → SoundEntry e f → sum_to f.opening.hours (settled_at booking (after e f)) ≡ sum_to f.opening.hours (settled_at booking f) +ℤ booked booking e f
sound_step booking (Reading h p meter x) f s l = sum_to-same _ _ _ (λ j _. reading_leaves booking f h p meter x l.1 j) ∙ sym (+ℤ_idr _)
sound_step booking (Settled h m) f s l =
    let n : ℕ = f.opening.hours in
    let prices : Prices = m (facts_at f h) in
    let x : ℤ = booking prices (facts_at f h) (hour_at f h) in
    sum_to-same n (settled_at booking (with_settled h prices f)) (λ j. settled_at booking f j +ℤ cond (eqb h j) x (pos 0)) (λ j _. settling_books booking f h prices l.1.0 j)
    ∙ sum_to-add n (settled_at booking f) (λ j. cond (eqb h j) x (pos 0))
    ∙ ap (λ z. sum_to n (settled_at booking f) +ℤ z) (sum_to-only n h x l.1.1)
-- before the day is metered nothing is settled, whatever a call changes
sound_step booking e f s l =
    let n : ℕ = f.opening.hours in
    let u = s.unsettled (of_metered e f.stage l.0) in nothing_settled booking n (after e f) u ∙ sym (+ℤ_idr _ ∙ nothing_settled booking n f u)

-- the prices of an hour are those of its policy
Priced : Figures → (ℕ → Option (Facts → Prices)) → Type 0
Priced f policy = (h : ℕ) → f.settled h ≡ prices_under (policy h) (facts_at f h)

no_policy : (o : Option (Facts → Prices)) (facts : Facts) → prices_under o facts ≡ None → o ≡ None
no_policy None facts e = refl
no_policy (Some m) facts e = cc

priced_after : (e : Entry) (f : Figures) (policy : ℕ → Option (Facts → Prices)) → Settlements f → SoundEntry e f → Priced f policy → Priced (after e f) (λ h. policy_by e h (policy h))
unfolding Priced facts_at
priced_after (Reading h p meter x) f policy s l old = old
priced_after (Settled h m) f policy s l old = λ j.
    ⊎_elim (λ same. rw (eq-eqb j h same) (ap (λ i. Some (m (facts_at f i))) (sym same))) (λ other. rw (ne_eqb j h other) (old j)) (cases_eq j h)
priced_after e f policy s l old = λ j.
    let none : f.settled j ≡ None = s.unsettled (of_metered e f.stage l.0) j in
    none ∙ ap (λ o. prices_under o (facts_at (after e f) j)) (sym (no_policy (policy j) (facts_at f j) (sym (old j) ∙ none)))

-- a lawful call of a day, for who carries `Kept`
pub step : (booking : Booking) (e : Entry) (f : Figures) → Kept f → Lawful e f → sum_to f.opening.hours (settled_at booking (after e f)) ≡ sum_to f.opening.hours (settled_at booking f) +ℤ booked booking e f
step booking e f k l = sound_step booking e f k.settlements (sound_entry e f l)

pub same_opening : (e : Entry) (f : Figures) → Lawful e f → (after e f).opening ≡ f.opening
same_opening e f l = opening_stays e f

-- and whole journals
pub opening_of : (opening : Opening) (journal : Journal) → (figures opening journal).opening ≡ opening
opening_of opening [] = refl
opening_of opening (e ∷ journal) = opening_stays e (figures opening journal) ∙ opening_of opening journal

pub priced : (opening : Opening) (journal : Journal) → SoundJournal opening journal → (h : ℕ) → (figures opening journal).settled h ≡ prices_under (policy_of journal h) (facts_at (figures opening journal) h)
unfolding Priced
priced opening [] l = λ h. refl
priced opening (e ∷ journal) l = priced_after e (figures opening journal) (policy_of journal) (grounds opening journal l.0).settlements l.1 (priced opening journal l.0)

pub booked_sum : (booking : Booking) (opening : Opening) (journal : Journal) → SoundJournal opening journal → booked_in booking opening journal ≡ sum_to opening.hours (settled_at booking (figures opening journal))
unfolding booked_in
booked_sum booking opening [] l = sym (nothing_settled booking opening.hours (figures opening []) (λ h. refl))
booked_sum booking opening (e ∷ journal) l =
    let f : Figures = figures opening journal in
    let one : sum_to opening.hours (settled_at booking (after e f)) ≡ sum_to opening.hours (settled_at booking f) +ℤ booked booking e f =
    subst (λ o. sum_to o.hours (settled_at booking (after e f)) ≡ sum_to o.hours (settled_at booking f) +ℤ booked booking e f) (opening_of opening journal) (sound_step booking e f (grounds opening journal l.0).settlements l.1) in
    ap (λ z. z +ℤ booked booking e f) (booked_sum booking opening journal l.0) ∙ sym one
