-- Which numbers 128 bits hold.
use Rattle.std.proofs.Common.{◌≡◌, ℕ, ◌+◌, ◌*◌, ◌^◌, ◌<◌, ℤ, pos, ◌+ℤ◌, ◌-ℤ◌, ◌*ℤ◌, neg_ℤ, sym, refl, ap, ◌∙◌, subst, arith, w32, w64, SFits, to_z, of_z}
use mir.Syntax.{w128}
use Rattle.std.proofs.lemmas.Int.{ints, to_z-of_z}
use Rattle.integers.specs.Near.{Near}
use Rattle.integers.specs.Sums.{sum_to}
use Rattle.integers.proofs.Sums.{sum_to-more}
use Rattle.integers.proofs.Distances.{near_zero, near_neg, near_add, near_sub, near_mul, near_weaker}

pub near64 : (z : ℤ) → SFits w64 z → Near (2 ^ 63) z
near64 z f = record { low = omega (arith, ints); high = omega (arith, ints) }

pub near32 : (z : ℤ) → SFits w32 z → Near (2 ^ 31) z
near32 z f = record { low = omega (arith, ints); high = omega (arith, ints) }

pub fits128 : (n : ℕ) (z : ℤ) → Near n z → n < 2 ^ 127 → SFits w128 z
fits128 n z a h = omega (arith, ints, a.low, a.high)

-- t is x, which lies within n of 0
pub record Reads (n : ℕ) (t x : ℤ) : Type 0 where
  pub is : t ≡ x
  pub near : Near n x

pub reads_near : (n : ℕ) (t x : ℤ) → Reads n t x → Near n t
reads_near n t x a = subst (λ z. Near n z) (sym a.is) a.near

-- a number of 64 bits, and one of 32, widened
pub from64 : (y z : ℤ) → SFits w64 z → y ≡ to_z w64 (of_z w64 z) → Reads (2 ^ 63) y z
from64 y z f e = record { is = e ∙ to_z-of_z w64 z f; near = near64 z f }

pub from32 : (y z : ℤ) → SFits w32 z → y ≡ to_z w32 (of_z w32 z) → Reads (2 ^ 31) y z
from32 y z f e = record { is = e ∙ to_z-of_z w32 z f; near = near32 z f }

-- what 128 bits hold reads back as it was
pub back : (n : ℕ) (t x : ℤ) → n < 2 ^ 127 → Reads n t x → Reads n (to_z w128 (of_z w128 t)) x
back n t x h a =
    record { is = ap (λ z. to_z w128 (of_z w128 z)) a.is ∙ to_z-of_z w128 x (fits128 n x a.near h); near = a.near }

pub fits : (n : ℕ) (t x : ℤ) → n < 2 ^ 127 → Reads n t x → SFits w128 t
fits n t x h a = subst (λ z. SFits w128 z) (sym a.is) (fits128 n x a.near h)

module _ (m n : ℕ) (t u x y : ℤ) (a : Reads m t x) (b : Reads n u y) where
  pub reads_add : Reads (m + n) (t +ℤ u) (x +ℤ y)
  reads_add =
      record { is = ap (λ z. z +ℤ u) a.is ∙ ap (λ z. x +ℤ z) b.is; near = near_add m n x y a.near b.near }

  pub reads_sub : Reads (m + n) (t -ℤ u) (x -ℤ y)
  reads_sub =
      record { is = ap (λ z. z -ℤ u) a.is ∙ ap (λ z. x -ℤ z) b.is; near = near_sub m n x y a.near b.near }

  pub reads_mul : Reads (m * n) (t *ℤ u) (x *ℤ y)
  reads_mul =
      record { is = ap (λ z. z *ℤ u) a.is ∙ ap (λ z. x *ℤ z) b.is; near = near_mul m n x y a.near b.near }

pub reads_neg : (n : ℕ) (t x : ℤ) → n < 2 ^ 127 → Reads n t x → Reads n (pos 0 -ℤ to_z w128 (of_z w128 t)) (neg_ℤ x)
reads_neg n t x h a =
    record { is = ap (λ z. pos 0 -ℤ z) (back n t x h a).is ∙ from_zero x; near = near_neg n x a.near }
  where
    from_zero : (z : ℤ) → pos 0 -ℤ z ≡ neg_ℤ z
    from_zero z = omega (arith, ints)

-- a sum t of n numbers of 64 bits, with one more a
module _ (n : ℕ) (t a x : ℤ) (sum : Near (n * 2 ^ 63) t) (more : Reads (2 ^ 63) a x) (few : n * 2 ^ 63 + 2 ^ 63 < 2 ^ 127) where
  read_more : Reads (2 ^ 63) (to_z w128 (of_z w128 a)) x
  read_more = back (2 ^ 63) a x (omega arith) more

  total : Reads (n * 2 ^ 63 + 2 ^ 63) (t +ℤ to_z w128 (of_z w128 a)) (t +ℤ x)
  total = reads_add (n * 2 ^ 63) (2 ^ 63) t _ t x (record { is = refl; near = sum }) read_more

  pub total_fits : SFits w128 (t +ℤ to_z w128 (of_z w128 a))
  total_fits = fits _ _ _ few total

  pub total_is : to_z w128 (of_z w128 (t +ℤ to_z w128 (of_z w128 a))) ≡ t +ℤ x
  total_is = (back _ _ _ few total).is

  pub total_near : Near ((n + 1) * 2 ^ 63) (to_z w128 (of_z w128 (t +ℤ to_z w128 (of_z w128 a))))
  total_near =
      let near = reads_near _ _ _ (back _ _ _ few total) in
      record { low = omega (arith, ints, near.low); high = omega (arith, ints, near.high) }

  pub total_more : (f : ℕ → ℤ) → t ≡ sum_to n f → x ≡ f n → to_z w128 (of_z w128 (t +ℤ to_z w128 (of_z w128 a))) ≡ sum_to (n + 1) f
  total_more f before last = total_is ∙ ap (λ z. z +ℤ x) before ∙ ap (λ z. sum_to n f +ℤ z) last ∙ sym (sum_to-more n f)

-- a less b of 64 bits, as it is read back
module _ (a b x y : ℤ) (of-a : Reads (2 ^ 63) a x) (of-b : Reads (2 ^ 63) b y) where
  pub apart : Reads (2 ^ 64) (to_z w128 (of_z w128 (to_z w128 (of_z w128 a) -ℤ to_z w128 (of_z w128 b)))) (x -ℤ y)
  apart =
      back (2 ^ 64) _ _ (omega arith) (reads_sub (2 ^ 63) (2 ^ 63) _ _ x y (back (2 ^ 63) a x (omega arith) of-a) (back (2 ^ 63) b y (omega arith) of-b))

-- and with another number, of at most 66 bits, added or taken away
module _ (n : ℕ) (t x : ℤ) (first : Reads n t x) (e z : ℤ) (second : Reads (2 ^ 66) e z) (few : n + 2 ^ 66 < 2 ^ 127) where
  with_it : Reads (n + 2 ^ 66) (t +ℤ to_z w128 (of_z w128 e)) (x +ℤ z)
  with_it = reads_add n (2 ^ 66) t _ x z first (back (2 ^ 66) e z (omega arith) second)

  without_it : Reads (n + 2 ^ 66) (t -ℤ to_z w128 (of_z w128 e)) (x -ℤ z)
  without_it = reads_sub n (2 ^ 66) t _ x z first (back (2 ^ 66) e z (omega arith) second)

  pub with_fits : SFits w128 (t +ℤ to_z w128 (of_z w128 e))
  with_fits = fits _ _ _ few with_it

  pub with_is : Reads (n + 2 ^ 66) (to_z w128 (of_z w128 (t +ℤ to_z w128 (of_z w128 e)))) (x +ℤ z)
  with_is = back _ _ _ few with_it

  pub without_fits : SFits w128 (t -ℤ to_z w128 (of_z w128 e))
  without_fits = fits _ _ _ few without_it

  pub without_is : Reads (n + 2 ^ 66) (to_z w128 (of_z w128 (t -ℤ to_z w128 (of_z w128 e)))) (x -ℤ z)
  without_is = back _ _ _ few without_it

pub looser : (y z : ℤ) → Reads (2 ^ 63) y z → Reads (2 ^ 66) y z
looser y z a = record { is = a.is; near = near_weaker (2 ^ 63) (2 ^ 66) z (omega arith) a.near }

-- three sums of money
module _ (a b e : ℤ) (of-a : Near (2 ^ 94) a) (of-b : Near (2 ^ 94) b) (of-e : Near (2 ^ 75) e) where
  two : Reads (2 ^ 95) (to_z w128 (of_z w128 a) +ℤ to_z w128 (of_z w128 b)) (a +ℤ b)
  two =
      reads_add (2 ^ 94) (2 ^ 94) _ _ a b (back (2 ^ 94) a a (omega arith) (record { is = refl; near = of-a })) (back (2 ^ 94) b b (omega arith) (record { is = refl; near = of-b }))

  three : Reads (2 ^ 95 + 2 ^ 75) (to_z w128 (of_z w128 (to_z w128 (of_z w128 a) +ℤ to_z w128 (of_z w128 b))) +ℤ to_z w128 (of_z w128 e)) ((a +ℤ b) +ℤ e)
  three =
      reads_add (2 ^ 95) (2 ^ 75) _ _ (a +ℤ b) e (back (2 ^ 95) _ _ (omega arith) two) (back (2 ^ 75) e e (omega arith) (record { is = refl; near = of-e }))

  pub three_fits : SFits w128 (to_z w128 (of_z w128 (to_z w128 (of_z w128 a) +ℤ to_z w128 (of_z w128 b))) +ℤ to_z w128 (of_z w128 e))
  three_fits = fits (2 ^ 95 + 2 ^ 75) _ _ (omega arith) three

  pub three_is : to_z w128 (of_z w128 (to_z w128 (of_z w128 (to_z w128 (of_z w128 a) +ℤ to_z w128 (of_z w128 b))) +ℤ to_z w128 (of_z w128 e))) ≡ (a +ℤ b) +ℤ e
  three_is = (back (2 ^ 95 + 2 ^ 75) _ _ (omega arith) three).is

pub two_fits : (a b : ℤ) → Near (2 ^ 94) a → Near (2 ^ 94) b → SFits w128 (to_z w128 (of_z w128 a) +ℤ to_z w128 (of_z w128 b))
two_fits a b of-a of-b = fits (2 ^ 95) _ _ (omega arith) (two a b (pos 0) of-a of-b (near_zero (2 ^ 75)))
