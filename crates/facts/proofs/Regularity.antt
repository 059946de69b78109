-- The facts of a sound hour are regular.
use Rattle.std.proofs.Common.{◌≡◌, ℕ, ◌<◌, ◌≤◌, min, true, List, length, get_or, ℤ, pos, ◌-ℤ◌, ◌<ℤ◌, Some, None, Decides, Option, sym, refl, subst, ⊎_elim, arith}
use Rattle.std.proofs.ByRecursion.{All-from_get_or, sum_by_le}
use Rattle.std.proofs.lemmas.Int.{ints}
use Rattle.std.proofs.lemmas.List.Sums.{get_or-le-sum_by}
use Rattle.std.proofs.lemmas.Bool.{and_parts, cases_Bool, cond-true, cond-false}
use Rattle.std.proofs.lemmas.Bool.Decides.{not_from_Decides}
use Rattle.units.specs.declared.Position.{Position}
use Rattle.units.specs.declared.Price.{Price}
use Rattle.market.specs.declared.words.Activation.{Activation}
use Rattle.market.specs.declared.words.Bid.{Bid}
use Rattle.market.specs.declared.words.Direction.{Direction}
use Rattle.market.specs.declared.words.Direction.TheVariants.{Up, Down}
use Rattle.market.specs.Figures.{price_limit}
use Rattle.market.specs.Words.{energy_of, minutes_of, no_activation}
use Rattle.market.proofs.EnergyLaws.{lawful}
use Rattle.ladder.specs.Standing.{Extreme, NoLower, NoHigher}
use Rattle.register.specs.Totals.{adds, listed, listed_energy, greatest_total, Supplement}
use Rattle.market.specs.Words.{same_direction}
use Rattle.pricing.specs.declared.Facts.{Facts}
use Rattle.pricing.specs.Policies.{NotAbove, Within, Regular}
use Rattle.facts.specs.Listed.{listed_in, SomeOf}
use Rattle.facts.specs.Prices.{sets_price, ExtremeOrSpot, GreatestOrSpot, LeastOrSpot}
use Rattle.facts.specs.Middle.{Midpoint, MidpointOrSpot, Halfway}
use Rattle.facts.specs.Facts.{Told}
use Rattle.facts.specs.Sound.{OnItsSide, SoundActivation, BidsWithin, Sound}

same_way : (direction other : Direction) → same_direction direction other ≡ true → other ≡ direction
same_way Up Up e = refl
same_way Up Down e = absurd (let z : ◌≡◌ {A = ℕ} 0 1 = cc in omega arith)
same_way Down Up e = absurd (let z : ◌≡◌ {A = ℕ} 0 1 = cc in omega arith)
same_way Down Down e = refl

at_spot : (direction : Direction) (spot : Price) → OnItsSide direction spot spot
at_spot Up spot = omega (arith, ints)
at_spot Down spot = omega (arith, ints)

mid_within : (n : ℕ) (p q m : Price) → Within n p → Within n q → Midpoint p q m → Within n m
mid_within n p q m wp wq mid = record { low = omega (arith, ints); high = omega (arith, ints) }

-- where only one of the two amounts is there, z has its sign
pub record Signed-by (up down : ℕ) (z : ℤ) : Type 0 where
  pub upward : 1 ≤ up → down ≤ 0 → pos 0 <ℤ z
  pub downward : up ≤ 0 → 1 ≤ down → z <ℤ pos 0

-- such as their difference, or that of two others that are 0 exactly where they are
pub difference_sign : (up down u d : ℕ) (z : ℤ) → min 1 u ≡ min 1 up → min 1 d ≡ min 1 down → z ≡ pos u -ℤ pos d → Signed-by up down z
difference_sign up down u d z same_up same_down e =
    record { upward = λ some none. omega (arith, ints); downward = λ none some. omega (arith, ints) }

capped_sign : (up down : ℕ) (activations : List Activation) (z : ℤ) → Supplement activations up down z → Signed-by up down z
capped_sign up down activations z s = difference_sign up down (min up greatest_total) (min down greatest_total) z (omega arith) (omega arith) s.capped

module _ (spot : Price) (hour : Position) (activations : List Activation) (ups downs : List Bid) (sound : Sound spot hour activations ups downs) where
  abbrev at : ℕ → Activation
  at k = get_or activations k no_activation

  sound_at : (direction : Direction) (k : ℕ) → k < length activations → listed_in hour direction (at k) ≡ true → SoundActivation spot (at k)
  sound_at direction k within t = sound.listed_sound k within (and_parts (listed hour (at k)) _ t).0

  -- a balancing price is within the limit and on its side of spot
  priced : (W : Price → Price → Type 0) (direction : Direction) (minutes : ℕ) (p : Price) → ExtremeOrSpot W (sets_price minutes hour direction) spot activations p
      → Within price_limit p × OnItsSide direction spot p
  priced W direction minutes p =
      ⊎_elim
      (λ e.
      let k = e.reached.0 in
      let t = (and_parts (listed_in hour direction (at k)) _ e.reached.2).0 in
      let s = sound_at direction k e.reached.1 t in
      let way = same_way direction (at k).direction (and_parts (listed hour (at k)) _ t).1 in
      let price = e.reached.3 in
      (subst (Within price_limit) price s.price_within, subst (λ d. OnItsSide d spot p) way (subst (OnItsSide (at k).direction spot) price s.side)))
      (λ e. (subst (Within price_limit) (sym e.1) sound.spot_within, subst (OnItsSide direction spot) (sym e.1) (at_spot direction spot)))

  standing : (W : Price → Price → Type 0) (bids : List Bid) → BidsWithin hour bids → (p : Price) → Extreme W hour bids (Some p) → Within price_limit p
  standing W bids within p e =
      let r = e.reached in
      subst (Within price_limit) r.3 (within r.0 r.1 r.2)

  middling : (lowest highest : Option Price) (m : Price) → Extreme NoLower hour ups lowest → Extreme NoHigher hour downs highest → MidpointOrSpot lowest highest spot m → Within price_limit m
  middling None highest m low high is = subst (Within price_limit) (sym is) sound.spot_within
  middling (Some p) None m low high is = subst (Within price_limit) (sym is) sound.spot_within
  middling (Some p) (Some q) m low high is =
      mid_within price_limit p q m (standing NoLower ups sound.ups_within p low) (standing NoHigher downs sound.downs_within q high) is

  some_energy : (direction : Direction) → SomeOf (listed_in hour direction) activations (length activations) → 1 ≤ listed_energy hour direction activations
  some_energy direction (k, within, t) =
      let s = sound_at direction k within t in
      let part = get_or-le-sum_by (adds (listed hour) direction) activations k no_activation within in
      let is = cond-true (listed_in hour direction (at k)) (energy_of (at k)) 0 t in
      let last = s.lasts in
      let positive : 1 ≤ energy_of (at k) = (lawful (at k).volume.0 (minutes_of (at k))).positive s.enough (omega arith) in
      omega arith

  no_energy : (direction : Direction) → (SomeOf (listed_in hour direction) activations (length activations) → ⊥) → listed_energy hour direction activations ≤ 0
  no_energy direction none =
      let each = All-from_get_or (λ a. adds (listed hour) direction a ≤ 0) activations no_activation
      (λ k within. ⊎_elim (λ t. absurd (none (k, within, t))) (λ f. let is = cond-false (listed_in hour direction (at k)) (energy_of (at k)) 0 f in omega arith) (cases_Bool (listed_in hour direction (at k)))) in
      omega (arith, sum_by_le (adds (listed hour) direction) 0 activations each)

  -- from the prices in words, the sign of the net energy and the directions of the listed activations
  pub regular_by : (minutes : ℕ) (f : Facts) → f.spot ≡ spot
      → GreatestOrSpot (sets_price minutes hour Up) spot activations f.up_price → LeastOrSpot (sets_price minutes hour Down) spot activations f.down_price
      → Halfway spot hour ups downs f.middle → Signed-by (listed_energy hour Up activations) (listed_energy hour Down activations) f.net_energy.0
      → Decides f.went_up (SomeOf (listed_in hour Up) activations (length activations)) → Decides f.went_down (SomeOf (listed_in hour Down) activations (length activations))
      → Regular f
  regular_by minutes f same up_price_is down_price_is mid sign upward downward =
      let up = priced NoHigher Up minutes f.up_price up_price_is in
      let down = priced NoLower Down minutes f.down_price down_price_is in
      record {
        down_not_above_spot = subst (λ s. NotAbove f.down_price s) (sym same) down.1;
        spot_not_above_up = subst (λ s. NotAbove s f.up_price) (sym same) up.1;
        spot_within = subst (Within price_limit) (sym same) sound.spot_within;
        up_within = up.0;
        down_within = down.0;
        middle_within = middling mid.0 mid.1 f.middle mid.2 mid.3 mid.4;
        upward_net = λ only. sign.upward (some_energy Up (upward.0 only.0)) (no_energy Down (not_from_Decides _ downward only.1));
        downward_net = λ only. sign.downward (no_energy Up (not_from_Decides _ upward only.0)) (some_energy Down (downward.0 only.1));
      }

  pub regular : (minutes : ℕ) (f : Facts) → Told minutes spot hour activations ups downs f → Regular f
  regular minutes f told =
      regular_by minutes f told.same_spot told.up_price_is told.down_price_is told.middle_price (capped_sign _ _ activations _ told.net) told.upward told.downward
