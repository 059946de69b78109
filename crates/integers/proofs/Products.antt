-- Products of whole numbers: they distribute over sums, and keep an order.
use Rattle.std.proofs.Common.{◌≡◌, ℕ, zero, suc, ◌*◌, ℤ, pos, negsuc, ◌+ℤ◌, ◌-ℤ◌, ◌*ℤ◌, neg_ℤ, ◌≤ℤ◌, sym, ap, ◌∙◌, subst, arith}
use lib.IntN.{+ℤ-suc_ℤ, +ℤ-pred_ℤ, +ℤ_idr, suc_ℤ-*ℤ, pred_ℤ-*ℤ, zero-*ℤ, *ℤ-zero, *ℤ_comm, pos-*ℤ-pos}
use Rattle.std.proofs.lemmas.Int.{ints}

step_up : (u v w c g : ℤ) → u ≡ v +ℤ w → g ≡ w +ℤ c → u +ℤ c ≡ v +ℤ g
step_up u v w c g a b = omega (arith, ints)

step_down : (u v w c g : ℤ) → u ≡ v +ℤ w → g ≡ w -ℤ c → u -ℤ c ≡ v +ℤ g
step_down u v w c g a b = omega (arith, ints)

add_mul_zero : (a c : ℤ) → (a +ℤ pos 0) *ℤ c ≡ (a *ℤ c) +ℤ (pos 0 *ℤ c)
add_mul_zero a c = rw (+ℤ_idr, zero-*ℤ, +ℤ_idr)

pub add_mul : (a b c : ℤ) → (a +ℤ b) *ℤ c ≡ (a *ℤ c) +ℤ (b *ℤ c)
add_mul a (pos zero) c = add_mul_zero a c
add_mul a (pos (suc n)) c =
    ap (λ z. z *ℤ c) (+ℤ-suc_ℤ a (pos n)) ∙ suc_ℤ-*ℤ (a +ℤ pos n) c ∙ step_up _ (a *ℤ c) (pos n *ℤ c) c _ (add_mul a (pos n) c) (suc_ℤ-*ℤ (pos n) c)
add_mul a (negsuc zero) c =
    ap (λ z. z *ℤ c) (+ℤ-pred_ℤ a (pos zero)) ∙ pred_ℤ-*ℤ (a +ℤ pos zero) c ∙ step_down _ (a *ℤ c) (pos zero *ℤ c) c _ (add_mul_zero a c) (pred_ℤ-*ℤ (pos zero) c)
add_mul a (negsuc (suc n)) c =
    ap (λ z. z *ℤ c) (+ℤ-pred_ℤ a (negsuc n)) ∙ pred_ℤ-*ℤ (a +ℤ negsuc n) c ∙ step_down _ (a *ℤ c) (negsuc n *ℤ c) c _ (add_mul a (negsuc n) c) (pred_ℤ-*ℤ (negsuc n) c)

pub mul_add : (a b c : ℤ) → a *ℤ (b +ℤ c) ≡ (a *ℤ b) +ℤ (a *ℤ c)
mul_add a b c = *ℤ_comm a (b +ℤ c) ∙ add_mul b c a ∙ ap (λ z. z +ℤ (c *ℤ a)) (*ℤ_comm b a) ∙ ap (λ z. (a *ℤ b) +ℤ z) (*ℤ_comm c a)

-- the other of two that sum to nothing
opposite : (x y : ℤ) → x +ℤ y ≡ pos 0 → y ≡ neg_ℤ x
opposite x y e = omega (arith, ints)

pub mul_neg : (a b : ℤ) → a *ℤ neg_ℤ b ≡ neg_ℤ (a *ℤ b)
mul_neg a b =
    opposite (a *ℤ b) (a *ℤ neg_ℤ b) (sym (mul_add a b (neg_ℤ b)) ∙ ap (λ z. a *ℤ z) (none b) ∙ *ℤ-zero a)
  where
    none : (x : ℤ) → x +ℤ neg_ℤ x ≡ pos 0
    none x = omega (arith, ints)

pub mul_sub : (a b c : ℤ) → a *ℤ (b -ℤ c) ≡ (a *ℤ b) -ℤ (a *ℤ c)
mul_sub a b c = ap (λ z. a *ℤ z) (as_sum b c) ∙ mul_add a b (neg_ℤ c) ∙ ap (λ z. (a *ℤ b) +ℤ z) (mul_neg a c) ∙ sym (as_sum (a *ℤ b) (a *ℤ c))
  where
    as_sum : (x y : ℤ) → x -ℤ y ≡ x +ℤ neg_ℤ y
    as_sum x y = omega (arith, ints)

pub mul_not_below : (a b : ℤ) → pos 0 ≤ℤ a → pos 0 ≤ℤ b → pos 0 ≤ℤ (a *ℤ b)
mul_not_below (pos m) (pos n) h k = subst (λ z. pos 0 ≤ℤ z) (sym (pos-*ℤ-pos m n)) (natural (m * n))
  where
    natural : (k : ℕ) → pos 0 ≤ℤ pos k
    natural k = omega (arith, ints)
mul_not_below (negsuc m) b h k = absurd (omega (arith, ints))
mul_not_below (pos m) (negsuc n) h k = absurd (omega (arith, ints))

-- what is not negative keeps an order
pub mul_keeps : (a b c : ℤ) → pos 0 ≤ℤ a → b ≤ℤ c → (a *ℤ b) ≤ℤ (a *ℤ c)
mul_keeps a b c h k =
    below (a *ℤ b) (a *ℤ c) (subst (λ z. pos 0 ≤ℤ z) (mul_sub a c b) (mul_not_below a (c -ℤ b) h (apart b c k)))
  where
    apart : (x y : ℤ) → x ≤ℤ y → pos 0 ≤ℤ (y -ℤ x)
    apart x y le = omega (arith, ints)

    below : (x y : ℤ) → pos 0 ≤ℤ (y -ℤ x) → x ≤ℤ y
    below x y le = omega (arith, ints)
