-- The local clock through a day: what day it is of the year's five kinds, how far ahead of UTC the clock is, and what it shows.
use Rattle.std.proofs.Common.{◌≡◌, ℕ, ◌+◌, ◌*◌, ◌<◌, ◌≤◌, true, false, ltb, ℤ, pos, ◌+ℤ◌, ◌-ℤ◌, ◌≤ℤ◌, ◌<ℤ◌, sym, refl, ap, ◌∙◌, subst, ⊎_elim, arith}
use Rattle.std.proofs.lemmas.Int.{ints}
use Rattle.std.proofs.lemmas.Bool.{cases_Bool, cases_order, and_from, and_left, and_right, lt-ltb, le-ltb, le-leb, lt-leb, ltb-true, ltb-false, cond-true, cond-false, cond_both}
use Rattle.calendar.specs.declared.Date.{Date}
use Rattle.calendar.specs.Dates.{leap_year, day_number, day_of, LastSunday, Covered}
use Rattle.calendar.specs.Clock.{SummerTime, Ahead, last_sunday, march_change, october_change, on_last_sunday, hours_of, starts_in_summer, start_ahead, ahead_in, ahead_at, start_at}
use Rattle.calendar.proofs.DayTests.{covered_from, last_sunday_is, last_sunday_only, on_last_from, on_last_yes, on_march, on_october, ordinary, has_hours}
use Rattle.calendar.proofs.Years.{changes, year_gap, in_year, same_day}
use Rattle.calendar.proofs.Months.{to_year_more, year_most}

-- a day d, by the changes m and o of its year, with its hours and how far ahead the clock is at its start
pub data Kind (d m o : ℕ) : ℕ → ℕ → Type 0 where
  early : d < m → Kind d m o 24 60
  march : d ≡ m → Kind d m o 23 60
  summer : m < d → d < o → Kind d m o 24 120
  october : d ≡ o → Kind d m o 25 120
  late : o < d → Kind d m o 24 60

pub start_summer : (date : Date) → march_change date.year < day_of date → day_of date ≤ october_change date.year → start_ahead date ≡ 120
unfolding starts_in_summer
start_summer date a b = cond-true _ 120 60 (and_from _ _ (lt-ltb _ _ a) (le-leb _ _ b))

pub start_early : (date : Date) → day_of date ≤ march_change date.year → start_ahead date ≡ 60
unfolding starts_in_summer
start_early date a = cond-false _ 120 60 (and_left _ _ (le-ltb _ _ a))

pub start_late : (date : Date) → october_change date.year < day_of date → start_ahead date ≡ 60
unfolding starts_in_summer
start_late date b = cond-false _ 120 60 (and_right _ _ (lt-leb _ _ b))

-- a date falls on the change of month k just where its test says so
module _ (date : Date) (c : Covered date) (k : ℕ) (first : 1 ≤ k) (last : k ≤ 12) where
  falls_on : day_of date ≡ day_number date.year k (last_sunday date.year k) → on_last_sunday k date ≡ true
  falls_on e =
      let l = last_sunday_is date.year k first last in
      let s = same_day (leap_year date.year) date.month k date.day (last_sunday date.year k) c.first c.within l.first l.within (omega arith) in
      on_last_from k date first last s.0 (subst (LastSunday date.year k) (sym s.1) l)

  falls_off : (day_of date ≡ day_number date.year k (last_sunday date.year k) → ⊥) → on_last_sunday k date ≡ false
  falls_off n =
      ⊎_elim
      (λ t. let a = on_last_yes k date first last t in absurd (n (at_change a.0 (last_sunday_only date.year k first last date.day a.1))))
      (λ e. e)
      (cases_Bool (on_last_sunday k date))
    where
      at_change : date.month ≡ k → date.day ≡ last_sunday date.year k → day_of date ≡ day_number date.year k (last_sunday date.year k)
      at_change e f = ap (λ m. day_number date.year m date.day) e ∙ ap (day_number date.year k) f

-- a date on which the clock is not changed
on_neither : (date : Date) → Covered date → (day_of date ≡ march_change date.year → ⊥) → (day_of date ≡ october_change date.year → ⊥) → 24 ≡ hours_of date
on_neither date c a b = ordinary date (covered_from date c) (falls_off date c 3 (omega arith) (omega arith) a) (falls_off date c 10 (omega arith) (omega arith) b)

to_kind : (d m o : ℕ) {h s h' s' : ℕ} → h' ≡ h → s ≡ s' → Kind d m o h' s' → Kind d m o h s
to_kind d m o {h} {s} {h'} {s'} e f k = subst (λ x. Kind d m o x s) e (subst (λ x. Kind d m o h' x) (sym f) k)

pub kind_of : (date : Date) → Covered date → Kind (day_of date) (march_change date.year) (october_change date.year) (hours_of date) (start_ahead date)
kind_of date c =
    let d : ℕ = day_of date in
    let m : ℕ = march_change date.year in
    let o : ℕ = october_change date.year in
    let g = changes date.year in
    let cov = covered_from date c in
    ⊎_elim
    (λ e. to_kind d m o (on_march date cov (falls_on date c 3 (omega arith) (omega arith) e)) (start_early date (omega arith)) (march e))
    (⊎_elim
    (λ h. to_kind d m o (on_neither date c (λ e. omega arith) (λ e. omega arith)) (start_early date (omega arith)) (early h))
    (λ h.
    ⊎_elim
    (λ e. to_kind d m o (on_october date cov (falls_off date c 3 (omega arith) (omega arith) (λ f. omega arith)) (falls_on date c 10 (omega arith) (omega arith) e)) (start_summer date (omega arith) (omega arith)) (october e))
    (⊎_elim
    (λ k. to_kind d m o (on_neither date c (λ e. omega arith) (λ e. omega arith)) (start_summer date h (omega arith)) (summer h k))
    (λ k. to_kind d m o (on_neither date c (λ e. omega arith) (λ e. omega arith)) (start_late date k) (late k)))
    (cases_order d o)))
    (cases_order d m)

-- within a day, summer time is what lies between the changes of its year
module _ (date : Date) (c : Covered date) (t : ℤ) (low : pos (1440 * day_of date) ≤ℤ (t +ℤ pos 120)) (high : t ≤ℤ pos (1440 * day_of date + 1440)) where
  summer_bounds : SummerTime t → (pos (1440 * march_change date.year + 60) ≤ℤ t) × (t <ℤ pos (1440 * october_change date.year + 60))
  summer_bounds (y, (a, (b, s))) =
      let from : pos (1440 * march_change y + 60) ≤ℤ t = rw (last_sunday_only y 3 (omega arith) (omega arith) a s.march) at s.from in
      let to : t <ℤ pos (1440 * october_change y + 60) = rw (last_sunday_only y 10 (omega arith) (omega arith) b s.october) at s.to in
      let g = changes y in
      let year = in_year date c in
      ⊎_elim
      (λ e. subst (λ z. (pos (1440 * march_change z + 60) ≤ℤ t) × (t <ℤ pos (1440 * october_change z + 60))) e (from, to))
      (⊎_elim
      (λ h. absurd (let gap = year_gap y date.year s.year h in omega (arith, ints)))
      (λ h. absurd (let gap = year_gap date.year y c.from h in let more = to_year_more date.year c.from in let most = year_most date.year in omega (arith, ints))))
      (cases_order y date.year)

  is_summer : pos (1440 * march_change date.year + 60) ≤ℤ t → t <ℤ pos (1440 * october_change date.year + 60) → SummerTime t
  is_summer from to = (
    date.year,
    (
      last_sunday date.year 3,
      (
        last_sunday date.year 10,
        record {
          year = c.from;
          march = last_sunday_is date.year 3 (omega arith) (omega arith);
          october = last_sunday_is date.year 10 (omega arith) (omega arith);
          from = from;
          to = to;
        },
      ),
    ),
  )

  ahead_summer : pos (1440 * march_change date.year + 60) ≤ℤ t → t <ℤ pos (1440 * october_change date.year + 60) → Ahead t 120
  ahead_summer from to = record { summer = λ _. refl; winter = λ n. absurd (n (is_summer from to)) }

  ahead_winter : ((pos (1440 * march_change date.year + 60) ≤ℤ t) × (t <ℤ pos (1440 * october_change date.year + 60)) → ⊥) → Ahead t 60
  ahead_winter n = record { summer = λ s. absurd (n (summer_bounds s)); winter = λ _. refl }

-- how far ahead the clock is at each position, by the kind of day
ahead_by : (date : Date) (c : Covered date) (h s p : ℕ) → Kind (day_of date) (march_change date.year) (october_change date.year) h s → p < h → Ahead ((pos (1440 * day_of date) -ℤ pos s) +ℤ pos (60 * p)) (ahead_in h s p)
ahead_by date c h s p (early k) within = let g = changes date.year in ahead_winter date c _ (omega (arith, ints)) (omega (arith, ints)) (λ b. omega (arith, ints))
ahead_by date c h s p (march e) within =
    let g = changes date.year in
    cond_both (ltb p 2) 60 120 (Ahead _) (λ b. let l = ltb-true p 2 b in ahead_winter date c _ (omega (arith, ints)) (omega (arith, ints)) (λ b. omega (arith, ints))) (λ b. let l = ltb-false p 2 b in ahead_summer date c _ (omega (arith, ints)) (omega (arith, ints)) (omega (arith, ints)) (omega (arith, ints)))
ahead_by date c h s p (summer k l) within = let g = changes date.year in ahead_summer date c _ (omega (arith, ints)) (omega (arith, ints)) (omega (arith, ints)) (omega (arith, ints))
ahead_by date c h s p (october e) within =
    let g = changes date.year in
    cond_both (ltb p 3) 120 60 (Ahead _) (λ b. let l = ltb-true p 3 b in ahead_summer date c _ (omega (arith, ints)) (omega (arith, ints)) (omega (arith, ints)) (omega (arith, ints))) (λ b. let l = ltb-false p 3 b in ahead_winter date c _ (omega (arith, ints)) (omega (arith, ints)) (λ b. omega (arith, ints)))
ahead_by date c h s p (late k) within = let g = changes date.year in ahead_winter date c _ (omega (arith, ints)) (omega (arith, ints)) (λ b. omega (arith, ints))

pub ahead_law : (date : Date) (p : ℕ) → p < hours_of date → Ahead (start_at date p) (ahead_at date p)
ahead_law date p h = let c = has_hours date (omega arith) in ahead_by date c (hours_of date) (start_ahead date) p (kind_of date c) h
