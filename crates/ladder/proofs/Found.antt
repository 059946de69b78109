-- From the place that is found to the first bid that passes a test. Assumes nothing.
use Rattle.std.proofs.Common.{◌≡◌, ℕ, zero, suc, ◌<◌, Bool, true, false, not, eqb, List, [], ◌∷◌, length, get_or, IfSome, Some, None, Decides, Option, MatchOption, sym, refl, ap, ◌∙◌, subst, inl, inr, arith}
use Rattle.std.proofs.lemmas.Option.{slice_get-get_or}
use Rattle.std.proofs.lemmas.Bool.{and_from, and_parts, cases_Bool, cond-false, cond-true, eq-eqb, eqb-true, false≢true, not_from_false, not-true}
use Rattle.std.specs.List.{slice_get}
use Rattle.std.specs.Option.{option_map, option_or}
use Rattle.units.specs.declared.Position.{Position}
use Rattle.units.specs.declared.Receipt.{Receipt}
use Rattle.market.specs.Words.{no_bid}
use Rattle.market.specs.declared.words.Bid.{Bid}
use Rattle.market.specs.declared.words.Direction.{Direction}
use Rattle.market.specs.declared.words.Direction.TheVariants.{Up, Down}
use Rattle.ladder.specs.Ladder.{StandingBids, bid_at, bids_of, first_by, first_free, is_free, standing_with, with_receipt}
use Rattle.ladder.specs.Sides.{has_receipt, only_of}
use Rattle.market.specs.Words.{same_direction}
use Rattle.ladder.specs.Standing.{First, FirstAt, Free, NoneOf, Numbered}
use Rattle.ladder.proofs.Invariant.{Of, only_all}
use Rattle.ladder.proofs.Keeps.{all_leads, leads}

module _ (P : Bid → Type 0) (p : Bid → Bool) (decides : (b : Bid) → Decides (p b) (P b)) where
  fails : (b : Bid) → (P b → ⊥) → p b ≡ false
  fails b n = elim (cases_Bool (p b)) [ inl e ↦ absurd (n ((decides b).0 e)) | inr e ↦ e ]

  first_none : (xs : List Bid) → NoneOf P xs (length xs) → first_by p xs ≡ None
  first_none [] n = refl
  first_none (x ∷ xs) n =
      cond-false (p x) (Some x) (first_by p xs) (fails x (n 0 (omega arith))) ∙ first_none xs (λ j l. n (suc j) (omega arith))

  first_some : (xs : List Bid) (k : ℕ) → k < length xs → P (get_or xs k no_bid) → NoneOf P xs k → first_by p xs ≡ Some (get_or xs k no_bid)
  first_some [] k w h n = absurd (omega arith)
  first_some (x ∷ xs) zero w h n = cond-true (p x) (Some x) (first_by p xs) ((decides x).1 h)
  first_some (x ∷ xs) (suc k) w h n =
      cond-false (p x) (Some x) (first_by p xs) (fails x (n 0 (omega arith))) ∙ first_some xs k (omega arith) h (λ j l. n (suc j) (omega arith))

  first_found : (xs : List Bid) (r : Option ℕ) → First P xs r → option_map (λ k. get_or xs k no_bid) r ≡ first_by p xs
  first_found xs None h = sym (first_none xs h)
  first_found xs (Some k) h = sym (first_some xs k h.within h.here h.before)

-- ---- by its receipt
decides_receipt : (r : Receipt) (b : Bid) → Decides (has_receipt r.0 b) (Numbered r b)
decides_receipt r b = (λ h. ap (λ n. record { 0 = n }) (eqb-true b.receipt.0 r.0 h), λ e. eq-eqb b.receipt.0 r.0 (ap (λ v. v.0) e))

pub receipt_found : (r : Receipt) (xs : List Bid) (k : Option ℕ) → First (Numbered r) xs k → option_map (λ j. get_or xs j no_bid) k ≡ with_receipt r.0 xs
receipt_found r xs k h = first_found (Numbered r) (has_receipt r.0) (decides_receipt r) xs k h

-- among the bids of one direction, then of the other
found_first : (r : Receipt) (xs ys : List Bid) (k : ℕ) → FirstAt (Numbered r) xs k → slice_get xs k ≡ option_or (with_receipt r.0 xs) (with_receipt r.0 ys)
found_first r xs ys k h =
    let e : Some (get_or xs k no_bid) ≡ with_receipt r.0 xs = receipt_found r xs (Some k) h in
    slice_get-get_or xs k no_bid h.within ∙ ap (λ o. option_or o (with_receipt r.0 ys)) e

found_second : (r : Receipt) (xs ys : List Bid) (k : ℕ) → NoneOf (Numbered r) xs (length xs) → FirstAt (Numbered r) ys k → slice_get ys k ≡ option_or (with_receipt r.0 xs) (with_receipt r.0 ys)
found_second r xs ys k n h =
    let e : None ≡ with_receipt r.0 xs = receipt_found r xs None n in
    let f : Some (get_or ys k no_bid) ≡ with_receipt r.0 ys = receipt_found r ys (Some k) h in
    slice_get-get_or ys k no_bid h.within ∙ f ∙ ap (λ o. option_or o (with_receipt r.0 ys)) e

found_neither : (r : Receipt) (xs ys : List Bid) → NoneOf (Numbered r) xs (length xs) → NoneOf (Numbered r) ys (length ys) → None ≡ option_or (with_receipt r.0 xs) (with_receipt r.0 ys)
found_neither r xs ys n m =
    let e : None ≡ with_receipt r.0 xs = receipt_found r xs None n in
    let f : None ≡ with_receipt r.0 ys = receipt_found r ys None m in
    f ∙ ap (λ o. option_or o (with_receipt r.0 ys)) e

found_downward : (r : Receipt) (s : StandingBids) (k : Option ℕ) (p : Option (Direction × ℕ)) → NoneOf (Numbered r) s.up (length s.up) → First (Numbered r) s.down k
    → p ≡ option_map (λ n. (Down, n)) k → bid_at s p ≡ standing_with r.0 s
found_downward r s None p n h e = ap (bid_at s) e ∙ found_neither r s.up s.down n h
found_downward r s (Some k) p n h e = ap (bid_at s) e ∙ found_second r s.up s.down k n h

-- p is the place k of the upward bids, if there is one, and else what is answered of the downward ones
pub place_found : (r : Receipt) (s : StandingBids) (k : Option ℕ) (q p : Option (Direction × ℕ)) (Downward : Type 0) → First (Numbered r) s.up k
    → MatchOption k (q ≡ None) (λ n. q ≡ Some (Up, n)) → MatchOption q Downward (λ x. p ≡ Some x)
    → (Downward → (j : Option ℕ) × First (Numbered r) s.down j × (p ≡ option_map (λ n. (Down, n)) j))
    → bid_at s p ≡ standing_with r.0 s
place_found r s None None p D h e d down = let w = down d in found_downward r s w.0 p h w.1 w.2
place_found r s None (Some x) p D h e d down = absurd (let z : ◌≡◌ {A = ℕ} 0 1 = cc in omega arith)
place_found r s (Some k) None p D h e d down = absurd (let z : ◌≡◌ {A = ℕ} 0 1 = cc in omega arith)
place_found r s (Some k) (Some x) p D h e d down = ap (bid_at s) (d ∙ e) ∙ found_first r s.up s.down k h

-- what is known of the place p that is found: the direction d, which is e, and the place k there
abbrev pub Within : Receipt → StandingBids → Option (Direction × ℕ) → Type 0
Within r s p = IfSome p (λ p. (p.1 < length (bids_of p.0 s)) × ((get_or (bids_of p.0 s) p.1 no_bid).receipt ≡ r))

pub found_in : (r : Receipt) (s : StandingBids) (p : Option (Direction × ℕ)) (d : Direction) {e : Direction} (k : ℕ) → p ≡ Some (d, k) → d ≡ e → Within r s p
    → (k < length (bids_of e s)) × ((get_or (bids_of e s) k no_bid).receipt ≡ r)
found_in r s p d k is at within = subst (λ e. (k < length (bids_of e s)) × ((get_or (bids_of e s) k no_bid).receipt ≡ r)) at (subst (Within r s) is within)

pub found_is : (r : Receipt) (s : StandingBids) (p : Option (Direction × ℕ)) (d : Direction) (k : ℕ) → p ≡ Some (d, k) → bid_at s p ≡ standing_with r.0 s → Within r s p
    → standing_with r.0 s ≡ Some (get_or (bids_of d s) k no_bid)
found_is r s p d k is value within =
    sym value ∙ ap (bid_at s) is ∙ slice_get-get_or (bids_of d s) k no_bid (found_in r s p d k is refl within).0

-- ---- by its hour, not held
decides_free : (hour : Position) (b : Bid) → Decides (is_free hour.0 b) (Free hour b)
decides_free hour b = (
  λ h. let p = and_parts (eqb b.hour.0 hour.0) (not b.held) h in (ap (λ n. record { 0 = n }) (eqb-true b.hour.0 hour.0 p.0), not-true b.held p.1),
  λ f. and_from (eqb b.hour.0 hour.0) (not b.held) (eq-eqb b.hour.0 hour.0 (ap (λ v. v.0) f.0)) (not_from_false b.held f.1),
)

pub free_found : (hour : Position) (xs : List Bid) (k : Option ℕ) → First (Free hour) xs k → option_map (λ j. get_or xs j no_bid) k ≡ first_free hour.0 xs
free_found hour xs k h = first_found (Free hour) (is_free hour.0) (decides_free hour) xs k h

-- ---- of the direction of its list
pub same_direction_lem : (d e : Direction) → same_direction d e ≡ true → e ≡ d
same_direction_lem Up Up h = refl
same_direction_lem Up Down h = absurd (false≢true h)
same_direction_lem Down Up h = absurd (false≢true h)
same_direction_lem Down Down h = refl

pub first_of : (d : Direction) (test : Bid → Bool) (bs : List Bid) (r : Option Bid) → only_of d bs ≡ true → r ≡ first_by test bs → IfSome r (λ b. b.direction ≡ d)
first_of d test bs None h e = tt
first_of d test bs (Some b) h e = same_direction_lem d b.direction (all_leads (Of d) test bs b (only_all d bs h) (leads test bs b (sym e)))
