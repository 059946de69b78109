-- What the tests of a date say: whether it is covered, whether it is a last Sunday, and so how many hours it has.
use Rattle.std.proofs.Common.{◌≡◌, ℕ, ◌+◌, ◌-◌, ◌<◌, ◌≤◌, Bool, true, false, cond, ◌⊎◌, ◌==◌, sym, subst, ⊎_elim, arith, lit≤}
use Rattle.std.proofs.lemmas.Bool.{cases_Bool, cases_order, both_ways, and_parts, and_from, leb-true, le-leb, eqb-true, eq-eqb, ne_eqb, and_left}
use Rattle.std.proofs.lemmas.Bool.Decides.{nat_tests}
use Rattle.calendar.specs.declared.Date.{Date}
use Rattle.calendar.specs.Dates.{leap_year, month_days, days_to_year, days_to_month, LastSunday, Covered}
use Rattle.calendar.specs.Clock.{last_sunday, covered, on_last_sunday, hours_of, DayHours}
use Rattle.calendar.proofs.Months.{month_least, month_most, is_month}
use Rattle.calendar.proofs.Sundays as sundays

pub covered_yes : (date : Date) → covered date ≡ true → Covered date
covered_yes date e =
    let a = and_parts _ _ e in
    let b = and_parts _ _ a.1 in
    let c = and_parts _ _ b.1 in
    record { from = leb-true _ _ a.0; to = leb-true _ _ b.0; first = leb-true _ _ c.0; within = leb-true _ _ c.1 }

pub covered_from : (date : Date) → Covered date → covered date ≡ true
covered_from date c =
    and_from _ _ (le-leb _ _ c.from) (and_from _ _ (le-leb _ _ c.to) (and_from _ _ (le-leb _ _ c.first) (le-leb _ _ c.within)))

pub covered_no : (date : Date) → covered date ≡ false → Covered date → ⊥
covered_no date e c = both_ways (covered date) e (covered_from date c)

-- the month's last Sunday is there, and there is no other
module _ (y m : ℕ) (first : 1 ≤ m) (last : m ≤ 12) where
  pub last_sunday_is : LastSunday y m (last_sunday y m)
  last_sunday_is =
      let least = month_least (leap_year y) m first last in
      let base : ℕ = days_to_year (y - 2000) + days_to_month (leap_year y) m in
      record {
        first = sundays.first base (month_days y m) (omega arith);
        within = omega arith;
        sunday = sundays.is_sunday base (month_days y m) (omega arith);
        none_later = λ e later within s. sundays.none_later base (month_days y m) e (omega arith) later within s;
      }

  pub last_sunday_only : (d : ℕ) → LastSunday y m d → d ≡ last_sunday y m
  last_sunday_only d l =
      let k = last_sunday_is in
      ⊎_elim (λ e. e) (⊎_elim (λ h. absurd (l.none_later (last_sunday y m) h k.within k.sunday)) (λ h. absurd (k.none_later d h l.within l.sunday))) (cases_order d (last_sunday y m))

pub on_last_yes : (m : ℕ) (date : Date) → 1 ≤ m → m ≤ 12 → on_last_sunday m date ≡ true → (date.month ≡ m) × LastSunday date.year m date.day
on_last_yes m date first last e =
    let a = and_parts _ _ e in
    (eqb-true _ _ a.0, subst (LastSunday date.year m) (sym (eqb-true _ _ a.1)) (last_sunday_is date.year m first last))

pub on_last_from : (m : ℕ) (date : Date) → 1 ≤ m → m ≤ 12 → date.month ≡ m → LastSunday date.year m date.day → on_last_sunday m date ≡ true
on_last_from m date first last e l =
    and_from _ _ (eq-eqb _ _ e) (eq-eqb _ _ (last_sunday_only date.year m first last date.day l))

-- whether a date in month m is its last Sunday
pub last_of : (m : ℕ) (date : Date) {b : Bool} → date.month ≡ m → b ≡ (date.day == last_sunday date.year date.month) → on_last_sunday m date ≡ b
last_of m date e l = rw (eq-eqb _ _ e) (rw e at (sym l))

pub other_month : (m : ℕ) (date : Date) → (date.month ≡ m → ⊥) → on_last_sunday m date ≡ false
other_month m date n = and_left _ _ (ne_eqb date.month m n)

-- the hours by what the tests answered
pub none : (date : Date) → covered date ≡ false → 0 ≡ hours_of date
unfolding hours_of
none date c = simp c

pub on_march : (date : Date) → covered date ≡ true → on_last_sunday 3 date ≡ true → 23 ≡ hours_of date
unfolding hours_of
on_march date c m = simp (c, m)

pub on_october : (date : Date) → covered date ≡ true → on_last_sunday 3 date ≡ false → on_last_sunday 10 date ≡ true → 25 ≡ hours_of date
unfolding hours_of
on_october date c m o = simp (c, m, o)

pub ordinary : (date : Date) → covered date ≡ true → on_last_sunday 3 date ≡ false → on_last_sunday 10 date ≡ false → 24 ≡ hours_of date
unfolding hours_of
ordinary date c m o = simp (c, m, o)

hours_rule : (date : Date) → DayHours date (hours_of date)
hours_rule date =
    record {
      outside = λ n. ⊎_elim (λ c. absurd (n (covered_yes date c))) (λ c. sym (none date c)) (cases_Bool (covered date));
      march = λ c m l. sym (on_march date (covered_from date c) (on_last_from 3 date (lit≤ tt) (lit≤ tt) m l));
      october =
          λ c m l.
          sym
          (on_october date (covered_from date c) (other_month 3 date (λ e. omega arith)) (on_last_from 10 date (lit≤ tt) (lit≤ tt) m l));
      other =
          λ c m o.
          sym
          (ordinary date (covered_from date c) (⊎_elim (λ e. let a = on_last_yes 3 date (lit≤ tt) (lit≤ tt) e in absurd (m a.0 a.1)) (λ e. e) (cases_Bool (on_last_sunday 3 date))) (⊎_elim (λ e. let a = on_last_yes 10 date (lit≤ tt) (lit≤ tt) e in absurd (o a.0 a.1)) (λ e. e) (cases_Bool (on_last_sunday 10 date))));
    }

pub ruled : (date : Date) (h : ℕ) → h ≡ hours_of date → DayHours date h
ruled date h e = rw e (hours_rule date)

pub with_hours : (date : Date) → 0 < hours_of date → covered date ≡ true
with_hours date h = ⊎_elim (λ c. c) (λ c. absurd (omega (arith, none date c))) (cases_Bool (covered date))

pub has_hours : (date : Date) → 0 < hours_of date → Covered date
has_hours date h = covered_yes date (with_hours date h)

some_by : (march october : Bool) → 0 < cond march 23 (cond october 25 24)
some_by march october = grind (arith, nat_tests)

pub some_hours : (date : Date) → covered date ≡ true → 0 < hours_of date
unfolding hours_of
some_hours date c = rw c (some_by (on_last_sunday 3 date) (on_last_sunday 10 date))

-- the hours of a covered date, by its month and by whether it is a last Sunday
pub ruleset hours_by_kind = (last_of, other_month, with_hours, on_march, on_october, ordinary)

-- the numbers of a date that has hours
pub record Bounds (date : Date) : Type 0 where
  pub from : 2000 ≤ date.year
  pub to : date.year ≤ 2099
  pub first_month : 1 ≤ date.month
  pub last_month : date.month ≤ 12
  pub first_day : 1 ≤ date.day
  pub last_day : date.day ≤ 31

pub bounds : (date : Date) → 0 < hours_of date → Bounds date
bounds date h =
    let c = has_hours date h in
    let most = month_most (leap_year date.year) date.month in
    let month = is_month (leap_year date.year) date.month date.day c.first c.within in
    omega arith

-- a day has 23, 24 or 25 hours, or none
abbrev pub Length : ℕ → Type 0
Length h = (h ≡ 0) ⊎ ((h ≡ 23) ⊎ ((h ≡ 24) ⊎ (h ≡ 25)))

length_by : (has march october : Bool) → Length (cond has (cond march 23 (cond october 25 24)) 0)
length_by has march october = grind (arith, nat_tests)

pub length_of : (date : Date) → Length (hours_of date)
unfolding hours_of
length_of date = length_by (covered date) (on_last_sunday 3 date) (on_last_sunday 10 date)

pub hours_most : (date : Date) → hours_of date ≤ 25
hours_most date = omega (arith, length_of date)
