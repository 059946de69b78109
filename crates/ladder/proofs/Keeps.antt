-- Laws for who reckons with the standing bids. Assumes nothing.
--     all_none, all_added, all_dropped, all_taken, all_marked      what holds of each bid goes on to hold
--     with_receipt_lem, is_first_free      what a bid that is answered is: one of the list, of that receipt; the first that is free
use Rattle.std.proofs.Common.{◌≡◌, ℕ, zero, suc, ◌+◌, ◌<◌, Bool, true, false, not, eqb, List, [], ◌∷◌, length, get_or, Some, None, Option, sym, refl, ◌∙◌, subst, inl, inr, arith}
use Rattle.std.proofs.ByRecursion.{All-get_or, all_kept_by, All-map, All-weaker}
use Rattle.std.proofs.lemmas.Bool.{and_parts, cases_Bool, cond_both, cond-false, cond-true, eqb-true, not-true}
use Rattle.std.specs.Option.{option_or}
use Rattle.std.specs.List.{AllByRecursion}
use Rattle.ordered.proofs.Lexical.{lex_order}
use Rattle.ordered.proofs.Placed.{all_placed}
use Rattle.market.specs.Order.{bid_key}
use Rattle.market.specs.Words.{no_bid}
use Rattle.market.specs.declared.words.Bid.{Bid}
use Rattle.market.specs.declared.words.Direction.{Direction}
use Rattle.market.specs.declared.words.Direction.TheVariants.{Up, Down}
use Rattle.ladder.specs.declared.offer.Offer.{Offer}
use Rattle.ladder.specs.Ladder.{AllBids, StandingBids, added, added_to, bids_of, dropped, first_by, first_free, is_free, mark, marked, no_bids, other_receipt, standing_with, taken, with_held, with_receipt}
use Rattle.ladder.specs.Offered.{bid_of}
use Rattle.ladder.specs.Sides.{has_receipt}

module _ (P : Bid → Type 0) where
  pub all_none : AllBids P no_bids
  all_none = (tt, tt)

  added_to_lem : (d : Direction) (b : Bid) (s : StandingBids) → P b → AllBids P s → AllBids P (added_to d b s)
  added_to_lem Up b s p a = (all_placed (lex_order bid_key) P s.up b p a.0, a.1)
  added_to_lem Down b s p a = (a.0, all_placed (lex_order bid_key) P s.down b p a.1)

  pub all_added : (offer : Offer) (s : StandingBids) → P (bid_of (s.given + 1) offer) → AllBids P s → AllBids P (added offer s)
  all_added offer s p a = added_to_lem offer.direction (bid_of (s.given + 1) offer) s p a

  pub all_dropped : (receipt : ℕ) (s : StandingBids) → AllBids P s → AllBids P (dropped receipt s)
  all_dropped receipt s a = (all_kept_by (other_receipt receipt) P s.up a.0, all_kept_by (other_receipt receipt) P s.down a.1)

  pub all_taken : (o : Option Bid) (s : StandingBids) → AllBids P s → AllBids P (taken o s)
  all_taken None s a = a
  all_taken (Some b) s a = all_dropped b.receipt.0 s a

  -- where P does not look at `held`
  pub all_marked : ((b : Bid) (held : Bool) → P b → P (with_held held b)) → (receipt : ℕ) (held : Bool) (s : StandingBids) → AllBids P s → AllBids P (marked receipt held s)
  all_marked blind receipt held s a =
      let one : (b : Bid) → P b → P (mark receipt held b) = λ b p. cond_both (has_receipt receipt b) (with_held held b) b P (λ _. blind b held p) (λ _. p) in (
        All-map P (mark receipt held) s.up (All-weaker P (λ b. P (mark receipt held b)) one s.up a.0),
        All-map P (mark receipt held) s.down (All-weaker P (λ b. P (mark receipt held b)) one s.down a.1),
      )

  pub all_of : (d : Direction) (s : StandingBids) → AllBids P s → AllByRecursion P (bids_of d s)
  all_of Up s a = a.0
  all_of Down s a = a.1

-- b stands at a place of bs, passes the test, and none before it does
pub record Leads (test : Bid → Bool) (bs : List Bid) (b : Bid) : Type 0 where
  pub place : ℕ
  pub within : place < length bs
  pub at : get_or bs place no_bid ≡ b
  pub passes : test b ≡ true
  pub first : (j : ℕ) → j < place → test (get_or bs j no_bid) ≡ false

pub leads : (test : Bid → Bool) (bs : List Bid) (b : Bid) → first_by test bs ≡ Some b → Leads test bs b
leads test [] b e = absurd (let z : ◌≡◌ {A = ℕ} 0 1 = cc in omega arith)
leads test (x ∷ bs) b e =
    elim (cases_Bool (test x)) [
      | inl t ↦
          let f : Some x ≡ Some b = sym (cond-true (test x) (Some x) (first_by test bs) t) ∙ e in
          let is : x ≡ b = cc in
          record { place = 0; within = omega arith; at = is; passes = subst (λ v. test v ≡ true) is t; first = λ j l. absurd (omega arith) }
      | inr t ↦
          let r = leads test bs b (sym (cond-false (test x) (Some x) (first_by test bs) t) ∙ e) in
          record { place = suc r.place; within = omega (arith, r.within); at = r.at; passes = r.passes; first = later test x bs r.place t r.first }
    ]
  where
    later : (test : Bid → Bool) (x : Bid) (bs : List Bid) (k : ℕ) → test x ≡ false → ((j : ℕ) → j < k → test (get_or bs j no_bid) ≡ false) → (j : ℕ) → j < suc k → test (get_or (x ∷ bs) j no_bid) ≡ false
    later test x bs k t f zero l = t
    later test x bs k t f (suc j) l = f j (omega arith)

pub all_leads : (P : Bid → Type 0) (test : Bid → Bool) (bs : List Bid) (b : Bid) → AllByRecursion P bs → Leads test bs b → P b
all_leads P test bs b a l = subst P l.at (All-get_or P bs l.place no_bid l.within a)

-- the bid that stands with a receipt: it has that receipt, and what all bids have
pub with_receipt_lem : (P : Bid → Type 0) (receipt : ℕ) (s : StandingBids) (b : Bid) → AllBids P s → standing_with receipt s ≡ Some b → P b × (b.receipt.0 ≡ receipt)
with_receipt_lem P receipt s b a e = in_either (with_receipt receipt s.up) refl e
  where
    from : (bs : List Bid) → AllByRecursion P bs → with_receipt receipt bs ≡ Some b → P b × (b.receipt.0 ≡ receipt)
    from bs all f = let l = leads (has_receipt receipt) bs b f in (all_leads P (has_receipt receipt) bs b all l, eqb-true b.receipt.0 receipt l.passes)

    in_either : (o : Option Bid) → with_receipt receipt s.up ≡ o → option_or o (with_receipt receipt s.down) ≡ Some b → P b × (b.receipt.0 ≡ receipt)
    in_either None n f = from s.down a.1 f
    in_either (Some x) n f = from s.up a.0 (n ∙ f)

-- the first free bid of an hour: it is of the hour and not held, and has what all bids have; `leads` says that it is the first
pub is_first_free : (P : Bid → Type 0) (hour : ℕ) (bs : List Bid) (b : Bid) → AllByRecursion P bs → first_free hour bs ≡ Some b → P b × (b.hour.0 ≡ hour) × (b.held ≡ false)
is_first_free P hour bs b a e =
    let l = leads (is_free hour) bs b e in
    let p = and_parts (eqb b.hour.0 hour) (not b.held) l.passes in
    (all_leads P (is_free hour) bs b a l, eqb-true b.hour.0 hour p.0, not-true b.held p.1)
