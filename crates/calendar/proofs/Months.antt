-- What holds of the lengths of months and years, leap or not.
use Rattle.std.proofs.Common.{◌≡◌, ℕ, zero, suc, ◌+◌, ◌-◌, ◌*◌, ◌≤◌, Bool, true, false, map, sum, drop, refl, sym, subst, ap, ◌∙◌, ⊎_elim, add-one, one-add, sub-one, arith, lit≤}
use Rattle.std.specs.List.{AllByRecursion, range_with_len}
use Rattle.std.proofs.lemmas.List.{get_or_past}
use Rattle.std.proofs.lemmas.List.FromFn.{sum_by-map-range_with_len_more}
use Rattle.std.proofs.ByRecursion.{All-get_or}
use Rattle.std.proofs.lemmas.Bool.{cases_lt, cond_both}
use Rattle.calendar.specs.Dates.{leap_year, year_days, month_lengths, month_length, days_to_year, days_to_month}

-- a month has from 28 to 31 days
pub month_most : (b : Bool) (m : ℕ) → month_length b m ≤ 31
month_most b m = ⊎_elim (λ h. All-get_or (λ x. x ≤ 31) (month_lengths b) m 0 h (most b)) (λ h. let e = get_or_past (month_lengths b) m 0 h in omega (arith, e)) (cases_lt m 13)
  where
    most : (b : Bool) → AllByRecursion (λ x. x ≤ 31) (month_lengths b)
    most true = omega arith
    most false = omega arith

pub month_least : (b : Bool) (m : ℕ) → 1 ≤ m → m ≤ 12 → 28 ≤ month_length b m
month_least b zero first last = omega arith
month_least b (suc k) first last = All-get_or (λ x. 28 ≤ x) (drop 1 (month_lengths b)) k 0 (omega arith) (least b)
  where
    least : (b : Bool) → AllByRecursion (λ x. 28 ≤ x) (drop 1 (month_lengths b))
    least true = omega arith
    least false = omega arith

pub year_most : (y : ℕ) → year_days y ≤ 366
year_most y = cond_both (leap_year y) 366 365 (λ n. n ≤ 366) (λ _. lit≤ tt) (λ _. lit≤ tt)

pub to_month_more : (b : Bool) (m : ℕ) → days_to_month b (m + 1) ≡ days_to_month b m + month_length b m
unfolding days_to_month
to_month_more b m = rw add-one

pub to_year_more : (y : ℕ) → 2000 ≤ y → days_to_year (y + 1 - 2000) ≡ days_to_year (y - 2000) + year_days y
unfolding days_to_year
to_year_more y from =
    let one : y + 1 - 2000 ≡ suc (y - 2000) = omega arith in
    let same : 2000 + (y - 2000) ≡ y = omega arith in
    rw (one, same)

pub to_year_most : (k : ℕ) → days_to_year k ≤ 366 * k
unfolding days_to_year
to_year_most zero = omega arith
to_year_most (suc k) = let r = to_year_most k in let most = year_most (2000 + k) in omega arith

pub to_month_most : (b : Bool) (m : ℕ) → days_to_month b m ≤ 31 * m
unfolding days_to_month
to_month_most b zero = omega arith
to_month_most b (suc m) = let r = to_month_most b m in let most = month_most b m in omega arith

-- what g adds up step by step, from a on, is the sum over the range
added_up : (f g : ℕ → ℕ) (a : ℕ) → g 0 ≡ 0 → ((k : ℕ) → g (suc k) ≡ g k + f (a + k)) → (k : ℕ) → sum (map f (range_with_len a k)) ≡ g k
added_up f g a first more zero = sym first
added_up f g a first more (suc k) =
    let last = sum_by-map-range_with_len_more (λ x. x) f a k (a + k) refl in
    let P : ℕ → Type 0 = λ n. sum (map f (range_with_len a n)) ≡ sum (map f (range_with_len a k)) + f (a + k) in
    subst P (add-one k) last ∙ ap (λ n. n + f (a + k)) (added_up f g a first more k) ∙ sym (more k)

pub years_added_up : (k : ℕ) → sum (map year_days (range_with_len 2000 k)) ≡ days_to_year k
unfolding days_to_year
years_added_up = added_up year_days days_to_year 2000 refl (λ k. refl)

pub months_added_up : (b : Bool) (m : ℕ) → 1 ≤ m → sum (map (month_length b) (range_with_len 1 (m - 1))) ≡ days_to_month b m
unfolding days_to_month
months_added_up b zero first = absurd (omega arith)
months_added_up b (suc k) first = rw sub-one (added_up (month_length b) (λ k. days_to_month b (suc k)) 1 refl (λ k. rw one-add) k)

-- a day that a month has shows that it is a month
pub is_month : (b : Bool) (m d : ℕ) → 1 ≤ d → d ≤ month_length b m → (1 ≤ m) × (m ≤ 12)
is_month b zero d first within = absurd (omega arith)
is_month b (suc k) d first within = (omega arith, ⊎_elim (λ h. omega arith) (λ h. let e = get_or_past (month_lengths b) (suc k) 0 h in absurd (omega (arith, e))) (cases_lt (suc k) 13))
