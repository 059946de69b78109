-- A day that is opened: its hours, its prices, its clock.
use Rattle.std.proofs.Common.{◌≡◌, ℕ, zero, suc, ◌<◌, true, false, cond, not, ◌||◌, eqb, ltb, List, [], ◌∷◌, length, ℤ, pos, ◌-ℤ◌, None, Ok, Err, Result, sym, refl, ap, ◌∙◌, subst, arith, w64, to_z, of_z}
use Rattle.std.proofs.lemmas.List.{length-map}
use Rattle.std.proofs.lemmas.Int.{ints}
use Rattle.std.proofs.lemmas.Bool.{and_parts, cond-true, cond-false, eqb-false, eqb-true, lt-ltb, ltb-true, not-false, or_parts, or_right}
use Rattle.units.specs.declared.Position.{Position}
use Rattle.units.specs.declared.Price.{Price}
use Rattle.refusal.specs.declared.Refusal.{Refusal}
use Rattle.refusal.specs.declared.Refusal.TheVariants.{NotInDay, OutOfRange}
use Rattle.calendar.specs.declared.Date.{Date}
use Rattle.calendar.specs.declared.Instant.{Instant}
use Rattle.calendar.specs.declared.Mark.{Mark}
use Rattle.calendar.specs.Clock.{hours_of, start_of}
use Rattle.calendar.specs.Stamps.{ThereAndBack, position_of, stamp_of}
use Rattle.calendar.specs.Stamps as stamps
use Rattle.calendar.proofs.DayTests.{none}
use Rattle.calendar.proofs.StampLaw.{there_and_back}
use Rattle.timetable.specs.Opening.{Times, opened_by, opened_times, opening_with, opening_row, spot_of}
use Rattle.timetable.specs.Prices.{Within, each_within, price, priced, within_limit}
use Rattle.timetable.specs.Span.{Spanned}
use Rattle.timetable.proofs.Rows.{passed}
use Rattle.timetable.proofs.Starts.{starts_within}

-- its hours are those of its date, or none
abbrev pub Whole : Date → ℕ → Type 0
Whole date n = 0 < n → n ≡ hours_of date

never : Date
never = record { year = 0; month = 0; day = 0 }

no_hours : 0 ≡ hours_of never
unfolding never
no_hours = none never refl

pub turns : (date : Date) (n : ℕ) → Whole date n → ThereAndBack n
turns date zero whole = subst ThereAndBack (sym no_hours) (there_and_back never)
turns date (suc n) whole = subst ThereAndBack (sym (whole (omega arith))) (there_and_back date)

pub past_day : {X : Type 0} (h n : ℕ) (r : Result X Refusal) → false ≡ ltb h n → ◌≡◌ {A = Result X Refusal} (Err NotInDay) (cond (ltb h n) r (Err NotInDay))
past_day h n r e = sym (cond-false (ltb h n) r (Err NotInDay) (sym e))

pub stamped : (date : Date) (n h : ℕ) (r : Result (ℕ × Mark) Refusal) → Whole date n → true ≡ ltb h n → r ≡ cond (ltb h (hours_of date)) (Ok (stamp_of (hours_of date) h)) (Err NotInDay) → r ≡ cond (ltb h n) (Ok (stamp_of n h)) (Err NotInDay)
stamped date n h r whole there e =
    let lt = ltb-true h n (sym there) in
    e ∙ ap (λ k. cond (ltb h k) (Ok (stamp_of k h)) (Err NotInDay)) (sym (whole (omega arith)))

pub no_such_hour : (n number : ℕ) (mark : Mark) → (number < 256 → ⊥) → ◌≡◌ {A = Result Position Refusal} (Err NotInDay) (stamps.in_day (position_of n number mark))
no_such_hour n number mark far = ap stamps.in_day (sym (cond-true _ None _ (or_right (eqb n 0) (ltb 23 number) (lt-ltb 23 number (omega arith)))))

pub within_fact : (p : Price) → within_limit p ≡ true → Within p
within_fact p e = record { low = grind (arith, ints); high = grind (arith, ints) }

pub zero_within : Within (price (pos 0))
zero_within = within_fact (price (pos 0)) refl

-- the spot price of an hour, also past the day's hours
pub spot_of_within : (ps : List Price) (h : ℕ) → each_within ps ≡ true → Within (spot_of ps h)
spot_of_within [] h all = zero_within
spot_of_within (p ∷ ps) zero all = within_fact p (and_parts (within_limit p) (each_within ps) all).0
spot_of_within (p ∷ ps) (suc h) all = spot_of_within ps h (and_parts (within_limit p) (each_within ps) all).1

-- what a day is opened on
pub record Accepted (date : Date) (xs : List ℤ) : Type 0 where
  pub long : length xs ≡ hours_of date
  pub some : 0 < hours_of date
  pub within : each_within (priced xs) ≡ true

pub accepted : (date : Date) (xs : List ℤ) → opening_row date xs ≡ None → Accepted date xs
accepted date xs e =
    let a = passed (not (eqb (length xs) (hours_of date))) NotInDay _ e in
    let b = or_parts (eqb (hours_of date) 0) (not (each_within (priced xs))) (passed (eqb (hours_of date) 0 || not (each_within (priced xs))) OutOfRange None a.1).0 in
    let some = eqb-false (hours_of date) 0 b.0 in
    record { long = eqb-true (length xs) (hours_of date) (not-false _ a.0); some = omega arith; within = not-false _ b.1 }

module _ (date : Date) (xs : List ℤ) (ps : List Price) (start : Instant) (row : opening_row date xs ≡ None) (are : ps ≡ priced xs) (starts : Ok start ≡ cond (ltb 0 (hours_of date)) (Ok (record { 0 = start_of date })) (Err OutOfRange)) where
  long : length ps ≡ hours_of date
  long = ap length are ∙ length-map xs price ∙ (accepted date xs row).long

  pub start_is : start.0 ≡ start_of date
  start_is =
      let e = starts ∙ cond-true (ltb 0 (hours_of date)) (Ok (record { 0 = start_of date })) (Err OutOfRange) (lt-ltb 0 (hours_of date) (accepted date xs row).some) in
      let s : start ≡ record { 0 = start_of date } = cc in
      ap (λ (i : Instant). i.0) s

  pub whole_day : Whole date (length ps)
  whole_day h = long

  pub prices_within : each_within ps ≡ true
  prices_within = ap each_within are ∙ (accepted date xs row).within

  pub start_spanned : Spanned start.0
  start_spanned = subst Spanned (sym start_is) (starts_within date (accepted date xs row).some).0

  clock_is : to_z w64 (of_z w64 (to_z w64 (of_z w64 start.0) -ℤ pos 2_880)) ≡ start.0 -ℤ pos 2_880
  clock_is = let s = start_spanned in omega (arith, ints)

  pub clock_spanned : Spanned (to_z w64 (of_z w64 (to_z w64 (of_z w64 start.0) -ℤ pos 2_880)))
  clock_spanned = subst Spanned (sym (clock_is ∙ ap (λ z. z -ℤ pos 2_880) start_is)) (starts_within date (accepted date xs row).some).1

  pub opened_times_lem : ◌≡◌ {A = Times} (record { opening = record { date = date; hours = length ps; start = start.0; spot = spot_of ps }; clock = to_z w64 (of_z w64 (to_z w64 (of_z w64 start.0) -ℤ pos 2_880)); parties = 0 }) (opened_times date xs)
  opened_times_lem =
      let l = long in
      let s = start_is in
      let k = clock_is ∙ ap (λ z. z -ℤ pos 2_880) start_is in
      let p = ap spot_of are in
      let o : ◌≡◌ {A = Times} (opened_times date xs) (opened_by None (opening_with date xs)) = ap (λ r. opened_by r (opening_with date xs)) row in
      cc
