-- What one imbalance and one activation are paid.
use Rattle.std.proofs.Common.{◌≡◌, ℕ, ◌^◌, ◌<◌, Bool, true, false, cond, ℤ, pos, ◌-ℤ◌, ◌*ℤ◌, neg_ℤ, Less, Equal, Greater, sym, refl, ap, ◌∙◌, arith, to_z, of_z}
use lib.IntN.{zero-*ℤ, *ℤ_comm}
use lib.Signed.{lt_z}
use mir.Syntax.{w128}
use Rattle.std.specs.Ordering.{int_cmp, is_lt}
use Rattle.std.proofs.lemmas.Int.{ints}
use Rattle.std.proofs.lemmas.Bool.{cond-true, cond-false}
use Rattle.units.specs.declared.Price.{Price}
use Rattle.market.specs.declared.words.Activation.{Activation}
use Rattle.market.specs.declared.words.Direction.{Direction}
use Rattle.market.specs.declared.words.Direction.TheVariants.{Up, Down}
use Rattle.market.specs.Words.{energy_of}
use Rattle.pricing.specs.declared.Facts.{Facts}
use Rattle.pricing.specs.declared.PricePair.{PricePair}
use Rattle.integers.specs.Near.{Near}
use Rattle.integers.proofs.Distances.{near_neg, abs_near}
use Rattle.integers.proofs.Products.{mul_neg}
use Rattle.settlement.specs.Payments.{priced, payment, is_long, signed, direction_price}
use Rattle.billing.specs.Booked.{price_of}
use Rattle.billing.proofs.Wide.{Reads, back, reads_neg}

neg_mul : (a b : ℤ) → neg_ℤ a *ℤ b ≡ neg_ℤ (a *ℤ b)
neg_mul a b = *ℤ_comm (neg_ℤ a) b ∙ mul_neg b a ∙ ap neg_ℤ (*ℤ_comm b a)

-- one of the two is nothing
only_charged : (u v w : ℤ) → u ≡ pos 0 → v ≡ neg_ℤ w → w ≡ u -ℤ v
only_charged u v w p q = omega (arith, ints)

only_paid : (u v w : ℤ) → u ≡ w → v ≡ pos 0 → w ≡ u -ℤ v
only_paid u v w p q = omega (arith, ints)

by_test : (b : Bool) (x s t : ℤ) → x *ℤ cond b t s ≡ (cond b (pos 0) x *ℤ s) -ℤ (cond b (neg_ℤ x) (pos 0) *ℤ t)
by_test true x s t = only_charged (pos 0 *ℤ s) (neg_ℤ x *ℤ t) (x *ℤ t) (zero-*ℤ s) (neg_mul x t)
by_test false x s t = only_paid (x *ℤ s) (pos 0 *ℤ t) (x *ℤ s) refl (zero-*ℤ t)

lesser : (b c : Bool) → is_lt (cond b Less (cond c Greater Equal)) ≡ b
lesser true c = refl
lesser false true = refl
lesser false false = refl

pub lower : (x y : ℤ) → is_lt (int_cmp x y) ≡ lt_z x y
lower x y = lesser (lt_z x y) (lt_z y x)

pub priced_is : (pair : PricePair) (x y : ℤ) → y ≡ cond (lt_z x (pos 0)) pair.shortfall.0 pair.surplus.0 → x *ℤ y ≡ priced pair x
unfolding priced
priced_is pair x y e = ap (λ z. x *ℤ z) e ∙ by_test (lt_z x (pos 0)) x pair.surplus.0 pair.shortfall.0

pub short_price : (pair : PricePair) (x y : ℤ) → lt_z x (pos 0) ≡ true → y ≡ pair.shortfall.0 → y ≡ cond (lt_z x (pos 0)) pair.shortfall.0 pair.surplus.0
short_price pair x y h e = e ∙ sym (cond-true (lt_z x (pos 0)) _ _ h)

pub surplus_price : (pair : PricePair) (x y : ℤ) → lt_z x (pos 0) ≡ false → y ≡ pair.surplus.0 → y ≡ cond (lt_z x (pos 0)) pair.shortfall.0 pair.surplus.0
surplus_price pair x y h e = e ∙ sym (cond-false (lt_z x (pos 0)) _ _ h)

as_price : (b : Bool) (facts : Facts) (d : Direction) (own : Price) → (cond b (price_of facts d) own).0 ≡ cond b (direction_price facts d) own.0
as_price true facts Up own = refl
as_price true facts Down own = refl
as_price false facts d own = refl

signed_mul : (d : Direction) (x y : ℤ) → signed d x *ℤ y ≡ signed d (x *ℤ y)
signed_mul Up x y = refl
signed_mul Down x y = neg_mul x y

pub payment_is : (minutes : ℕ) (facts : Facts) (a : Activation) (price : Price) (x y : ℤ) → price ≡ cond (is_long minutes a) (price_of facts a.direction) a.price → x ≡ signed a.direction (pos (energy_of a)) → y ≡ price.0 → x *ℤ y ≡ payment minutes facts a
unfolding payment
payment_is minutes facts a price x y p e q =
    ap (λ z. z *ℤ y) e
    ∙ ap (λ z. signed a.direction (pos (energy_of a)) *ℤ z) (q ∙ ap (λ z. z.0) p ∙ as_price (is_long minutes a) facts a.direction a.price)
    ∙ signed_mul a.direction (pos (energy_of a)) _

pub near_signed : (n : ℕ) (d : Direction) (x : ℤ) → Near n x → Near n (signed d x)
near_signed n Up x a = a
near_signed n Down x a = near_neg n x a

-- the energy n of an activation, widened to e, as it is signed
pub signed_up : (d : Direction) (y e : ℤ) (n : ℕ) → d ≡ Up → y ≡ to_z w128 (of_z w128 e) → e ≡ pos n → n < 2 ^ 35 → Reads (2 ^ 35) y (signed d (pos n))
signed_up d y e n up is energy small =
    let near = abs_near (2 ^ 35) (pos n) (omega arith) in
    record {
      is = is ∙ (back (2 ^ 35) e (pos n) (omega arith) (record { is = energy; near = near })).is ∙ sym (ap (λ v. signed v (pos n)) up);
      near = near_signed (2 ^ 35) d (pos n) near;
    }

pub signed_down : (d : Direction) (y e : ℤ) (n : ℕ) → d ≡ Down → y ≡ to_z w128 (of_z w128 (pos 0 -ℤ to_z w128 (of_z w128 e))) → e ≡ pos n → n < 2 ^ 35 → Reads (2 ^ 35) y (signed d (pos n))
signed_down d y e n down is energy small =
    let near = abs_near (2 ^ 35) (pos n) (omega arith) in
    let less = reads_neg (2 ^ 35) e (pos n) (omega arith) (record { is = energy; near = near }) in
    record {
      is = is ∙ (back (2 ^ 35) _ _ (omega arith) less).is ∙ sym (ap (λ v. signed v (pos n)) down);
      near = near_signed (2 ^ 35) d (pos n) near;
    }
