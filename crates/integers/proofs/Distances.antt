-- How far from 0 sums and products lie.
use Rattle.std.proofs.Common.{◌≡◌, ℕ, zero, suc, ◌+◌, ◌*◌, ◌<◌, ◌≤◌, Bool, true, false, cond, List, [], ◌∷◌, length, ℤ, pos, negsuc, ◌+ℤ◌, ◌-ℤ◌, ◌*ℤ◌, neg_ℤ, nat_abs, sym, refl, ap, ◌∙◌, subst, mul-le-mul, arith}
use lib.IntN.{pos-*ℤ-pos, pos-*ℤ-negsuc, negsuc-*ℤ-pos, negsuc-*ℤ-negsuc}
use Rattle.std.specs.List.{AllByRecursion}
use Rattle.std.proofs.lemmas.Int.{ints}
use Rattle.integers.specs.Near.{Near}
use Rattle.integers.specs.Sums.{sum_to, sum_over}

pub near_zero : (n : ℕ) → Near n (pos 0)
near_zero n = record { low = omega (arith, ints); high = omega (arith, ints) }

pub near_weaker : (m n : ℕ) (x : ℤ) → m ≤ n → Near m x → Near n x
near_weaker m n x h a = record { low = omega (arith, ints, a.low); high = omega (arith, ints, a.high) }

pub near_neg : (n : ℕ) (x : ℤ) → Near n x → Near n (neg_ℤ x)
near_neg n x a = record { low = omega (arith, ints, a.high); high = omega (arith, ints, a.low) }

pub near_add : (m n : ℕ) (x y : ℤ) → Near m x → Near n y → Near (m + n) (x +ℤ y)
near_add m n x y a b =
    record { low = omega (arith, ints, a.low, b.low); high = omega (arith, ints, a.high, b.high) }

pub near_sub : (m n : ℕ) (x y : ℤ) → Near m x → Near n y → Near (m + n) (x -ℤ y)
near_sub m n x y a b =
    record { low = omega (arith, ints, a.low, b.high); high = omega (arith, ints, a.high, b.low) }

pub near_cond : (n : ℕ) (b : Bool) (x y : ℤ) → Near n x → Near n y → Near n (cond b x y)
near_cond n true x y a c = a
near_cond n false x y a c = c

-- the same of its absolute value
pub near_abs : (n : ℕ) (z : ℤ) → Near n z → nat_abs z ≤ n
near_abs n (pos k) a = omega (arith, ints, a.high)
near_abs n (negsuc k) a = omega (arith, ints, a.low)

pub abs_near : (n : ℕ) (z : ℤ) → nat_abs z ≤ n → Near n z
abs_near n (pos k) h = record { low = omega (arith, ints); high = omega (arith, ints) }
abs_near n (negsuc k) h = record { low = omega (arith, ints); high = omega (arith, ints) }

abs_neg : (n : ℕ) → nat_abs (neg_ℤ (pos n)) ≡ n
abs_neg zero = refl
abs_neg (suc n) = refl

pub abs_mul : (a b : ℤ) → nat_abs (a *ℤ b) ≡ nat_abs a * nat_abs b
abs_mul (pos m) (pos n) = ap nat_abs (pos-*ℤ-pos m n)
abs_mul (pos m) (negsuc n) = ap nat_abs (pos-*ℤ-negsuc m n) ∙ abs_neg (m * suc n)
abs_mul (negsuc m) (pos n) = ap nat_abs (negsuc-*ℤ-pos m n) ∙ abs_neg (suc m * n)
abs_mul (negsuc m) (negsuc n) = ap nat_abs (negsuc-*ℤ-negsuc m n)

pub near_mul : (m n : ℕ) (x y : ℤ) → Near m x → Near n y → Near (m * n) (x *ℤ y)
near_mul m n x y a b =
    abs_near (m * n) (x *ℤ y) (subst (λ k. k ≤ m * n) (sym (abs_mul x y)) (mul-le-mul (near_abs m x a) (near_abs n y b)))

one_more : (n m : ℕ) → suc n * m ≡ n * m + m
one_more n m = omega arith

pub near-sum_to : (n m : ℕ) (f : ℕ → ℤ) → ((k : ℕ) → k < n → Near m (f k)) → Near (n * m) (sum_to n f)
unfolding sum_to
near-sum_to zero m f h = near_zero (zero * m)
near-sum_to (suc n) m f h =
    subst (λ k. Near k (sum_to n f +ℤ f n)) (sym (one_more n m))
    (near_add (n * m) m (sum_to n f) (f n) (near-sum_to n m f (λ k l. h k (omega arith))) (h n (omega arith)))

pub near-sum_over : {X : Type 0} (m : ℕ) (f : X → ℤ) (xs : List X) → AllByRecursion (λ x. Near m (f x)) xs → Near (length xs * m) (sum_over f xs)
unfolding sum_over
near-sum_over m f [] a = near_zero _
near-sum_over m f (x ∷ xs) a =
    near_weaker (m + length xs * m) (length (x ∷ xs) * m) (f x +ℤ sum_over f xs) (omega (arith, one_more (length xs) m))
    (near_add m (length xs * m) (f x) (sum_over f xs) a.0 (near-sum_over m f xs a.1))
