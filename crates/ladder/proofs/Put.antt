-- A bid that is put into the list of its direction: a new one, or one that stands there already and is marked. Assumes nothing.
use Rattle.std.proofs.Common.{◌≡◌, ℕ, ◌+◌, ◌<◌, ◌≤◌, Bool, true, false, cond, ◌&&◌, ltb, List, map, length, get_or, set, is_some, Some, Option, sym, refl, ap, ◌∙◌, subst, inl, inr, arith}
use Rattle.std.proofs.ByRecursion.{All-get_or}
use Rattle.std.proofs.lemmas.List.{length-set}
use Rattle.std.proofs.lemmas.Bool.{and_from, cases_cond, cases_eq, cond-false, cond-true, eq-eqb, lt-ltb, ne_eqb, or_left, or_right}
use Rattle.ordered.specs.Listed.{accepts, items, space_of}
use Rattle.ordered.specs.Order.{held, placed}
use Rattle.ordered.specs.declared.list.OrderedList.{OrderedList}
use Rattle.ordered.proofs.Lexical.{lex_order, lex_same-itself}
use Rattle.ordered.proofs.Placed.{length_placed, placed_set}
use Rattle.ordered.proofs.Rising.{held_at}
use Rattle.market.specs.Figures.{most_bids}
use Rattle.market.specs.Order.{bid_before, bid_key, bid_same}
use Rattle.market.specs.Words.{no_bid, same_direction}
use Rattle.market.specs.declared.words.Bid.{Bid}
use Rattle.market.specs.declared.words.Direction.{Direction}
use Rattle.market.specs.declared.words.Direction.TheVariants.{Up, Down}
use Rattle.ladder.specs.Ladder.{added_to, bids_of, mark, marked, view, with_held}
use Rattle.ladder.specs.Sides.{Fresh, Once, Puts, Side, has_receipt, receipt_count}
use Rattle.ladder.specs.declared.ladder.Ladder.{Ladder}
use Rattle.ladder.proofs.Counts.{count_at, count_placed, count_set, none_marked, set_marked}
use Rattle.ladder.proofs.Found.{same_direction_lem}
use Rattle.ladder.proofs.Invariant.{Of, only_all, side_placed}

-- b is of the list's direction and there is room for it
put_here : (d : Direction) (b : Bid) (l m : OrderedList Bid) → Puts d b l m → Side d (items l) → Of d b → accepts bid_same l b ≡ true → items m ≡ placed bid_before b (items l)
put_here d b l m p s o a =
    p.1 s.0 ∙ cond-true (same_direction d b.direction && accepts bid_same l b) (placed bid_before b (items l)) (items l) (and_from (same_direction d b.direction) (accepts bid_same l b) o a)

-- b is of the other direction
put_there : (d : Direction) (b : Bid) (l m : OrderedList Bid) → Puts d b l m → Side d (items l) → same_direction d b.direction ≡ false → items m ≡ items l
put_there d b l m p s o =
    p.1 s.0 ∙ cond-false (same_direction d b.direction && accepts bid_same l b) (placed bid_before b (items l)) (items l) (ap (λ v. v && accepts bid_same l b) o)

-- ---- a new bid
record New (d : Direction) (b : Bid) (xs us : List Bid) : Type 0 where
  pub side : Side d us
  pub size : length us ≤ length xs + 1
  pub counts : (n : ℕ) → receipt_count n us ≤ cond (has_receipt n b) 1 0 + receipt_count n xs
  pub is : us ≡ placed bid_before b xs

put_new : (d : Direction) (b : Bid) (l m : OrderedList Bid) → Side d (items l) → Of d b → length (items l) < space_of l → Puts d b l m → New d b (items l) (items m)
put_new d b l m s o w p =
    let xs = items l in
    let us = items m in
    let e = put_here d b l m p s o (or_left (ltb (length xs) (space_of l)) (held bid_same b xs) (lt-ltb (length xs) (space_of l) w)) in
    let size = length_placed (lex_order bid_key) xs b s.0 in
    let most : length (placed bid_before b xs) ≤ length xs + 1 =
    elim (cases_cond (held bid_same b xs) (length xs) (length xs + 1) _ size) [ inl a ↦ omega arith | inr a ↦ omega arith ] in
    record {
      side = side_placed d xs us b o e s;
      size = let f = ap length e in omega arith;
      counts = λ n. let f = ap (receipt_count n) e in let c = count_placed n b xs in omega arith;
      is = e;
    }

-- what one more bid, under the next receipt, makes of the receipts
abbrev pub More : Bid → List Bid → List Bid → List Bid → List Bid → Type 0
More b xs ys us vs = (r : ℕ) → receipt_count r us + receipt_count r vs ≤ cond (has_receipt r b) 1 0 + (receipt_count r xs + receipt_count r ys)

other_none : (b : Bid) (r : ℕ) → (b.receipt.0 ≡ r → ⊥) → ◌≡◌ {A = ℕ} (cond (has_receipt r b) 1 0) 0
other_none b r n = cond-false (has_receipt r b) 1 0 (ne_eqb b.receipt.0 r n)

pub once_more : (g : ℕ) (b : Bid) (xs ys us vs : List Bid) → b.receipt.0 ≡ g + 1 → More b xs ys us vs → Once xs ys → Fresh g xs ys → Once us vs
once_more g b xs ys us vs e m o f r =
    let a = m r in
    elim (cases_eq b.receipt.0 r) [
      | inl h ↦ let none = f r (omega arith) in let one : ◌≡◌ {A = ℕ} (cond (has_receipt r b) 1 0) 1 = cond-true (has_receipt r b) 1 0 (eq-eqb b.receipt.0 r h) in omega arith
      | inr n ↦ let none = other_none b r n in let once = o r in omega arith
    ]

pub fresh_more : (g : ℕ) (b : Bid) (xs ys us vs : List Bid) → b.receipt.0 ≡ g + 1 → More b xs ys us vs → Fresh g xs ys → Fresh (g + 1) us vs
fresh_more g b xs ys us vs e m f r l =
    let a = m r in
    let none = other_none b r (omega arith) in
    let old = f r (omega arith) in
    omega arith

-- both lists of l, after the bid b was put
pub record Added (l : Ladder) (b : Bid) (up down : OrderedList Bid) : Type 0 where
  pub upward : Side Up (items up)
  pub downward : Side Down (items down)
  pub size : length (items up) + length (items down) ≤ length (items l.up) + length (items l.down) + 1
  pub more : More b (items l.up) (items l.down) (items up) (items down)
  pub is : record { up = items up; down = items down; given = l.given + 1 } ≡ added_to b.direction b (view l)

pub put_added : (l : Ladder) (b : Bid) (up down : OrderedList Bid) (d : Direction) → b.direction ≡ d → length (items l.up) + length (items l.down) < most_bids → Puts Up b l.up up → Puts Down b l.down down → Added l b up down
put_added l b up down Up e room p q =
    let space = l.space.0 in
    let n = put_new Up b l.up up l.upward (ap (same_direction Up) e) (omega arith) p in
    let same = put_there Down b l.down down q l.downward (ap (same_direction Down) e) in
    record {
      upward = n.side;
      downward = subst (Side Down) (sym same) l.downward;
      size = let a = n.size in let f = ap length same in omega arith;
      more = λ r. let a = n.counts r in let f = ap (receipt_count r) same in omega arith;
      is = ap (λ zs. record { up = zs; down = items down; given = l.given + 1 }) n.is ∙ ap (λ zs. record { up = placed bid_before b (items l.up); down = zs; given = l.given + 1 }) same ∙ sym (ap (λ v. added_to v b (view l)) e);
    }
put_added l b up down Down e room p q =
    let space = l.space.1 in
    let n = put_new Down b l.down down l.downward (ap (same_direction Down) e) (omega arith) q in
    let same = put_there Up b l.up up p l.upward (ap (same_direction Up) e) in
    record {
      upward = subst (Side Up) (sym same) l.upward;
      downward = n.side;
      size = let a = n.size in let f = ap length same in omega arith;
      more = λ r. let a = n.counts r in let f = ap (receipt_count r) same in omega arith;
      is = ap (λ zs. record { up = zs; down = items down; given = l.given + 1 }) same ∙ ap (λ zs. record { up = items l.up; down = zs; given = l.given + 1 }) n.is ∙ sym (ap (λ v. added_to v b (view l)) e);
    }

-- ---- the bid at the place k, marked
pub record Back (d : Direction) (r : ℕ) (hold : Bool) (xs us : List Bid) : Type 0 where
  pub side : Side d us
  pub size : length us ≡ length xs
  pub counts : (n : ℕ) → receipt_count n us ≡ receipt_count n xs
  pub is : us ≡ map (mark r hold) xs

back : (d : Direction) (r : ℕ) (hold : Bool) (l m : OrderedList Bid) (k : ℕ) → Side d (items l) → receipt_count r (items l) ≤ 1
    → k < length (items l) → (get_or (items l) k no_bid).receipt.0 ≡ r → Puts d (with_held hold (get_or (items l) k no_bid)) l m → Back d r hold (items l) (items m)
back d r hold l m k s c w n p =
    let xs = items l in
    let us = items m in
    let b = get_or xs k no_bid in
    let b' = with_held hold b in
    let of = All-get_or (Of d) xs k no_bid w (only_all d xs s.1) in
    let same : bid_same b b' ≡ true = lex_same-itself (bid_key b) in
    let h : has_receipt r b ≡ true = eq-eqb b.receipt.0 r n in
    let e = put_here d b' l m p s of (or_right (ltb (length xs) (space_of l)) (held bid_same b' xs) (held_at (lex_order bid_key) xs k b' no_bid w same)) in
    let set_is : us ≡ set xs k b' = e ∙ placed_set (lex_order bid_key) xs k b' no_bid s.0 w same in
    record {
      side = side_placed d xs us b' of e s;
      size = ap length set_is ∙ length-set xs k b';
      counts = λ m. ap (receipt_count m) set_is ∙ count_set m xs k b' no_bid refl;
      is = set_is ∙ set_marked r hold xs k no_bid c w h;
    }

-- the list where the receipt does not stand
stays : (d : Direction) (r : ℕ) (hold : Bool) (xs us : List Bid) → Side d xs → receipt_count r xs ≡ 0 → us ≡ xs → Back d r hold xs us
stays d r hold xs us s none e =
    record { side = subst (Side d) (sym e) s; size = ap length e; counts = λ n. ap (receipt_count n) e; is = e ∙ sym (none_marked r hold xs none) }

-- both lists of l, after the bid of the receipt r was put again, marked
pub record Marked (l : Ladder) (r : ℕ) (hold : Bool) (up down : OrderedList Bid) : Type 0 where
  pub up_back : Back Up r hold (items l.up) (items up)
  pub down_back : Back Down r hold (items l.down) (items down)

pub put_marked : (l : Ladder) (r : ℕ) (hold : Bool) (up down : OrderedList Bid) (d : Direction) (k : ℕ) → k < length (bids_of d (view l)) → (get_or (bids_of d (view l)) k no_bid).receipt.0 ≡ r
    → Puts Up (with_held hold (get_or (bids_of d (view l)) k no_bid)) l.up up → Puts Down (with_held hold (get_or (bids_of d (view l)) k no_bid)) l.down down → Marked l r hold up down
put_marked l r hold up down Up k w n p q =
    let xs = items l.up in
    let once = l.once r in
    let one = count_at r xs k no_bid w (eq-eqb _ r n) in
    let of = same_direction_lem Up _ (All-get_or (Of Up) xs k no_bid w (only_all Up xs l.upward.1)) in
    record {
      up_back = back Up r hold l.up up k l.upward (omega arith) w n p;
      down_back = stays Down r hold (items l.down) (items down) l.downward (omega arith) (put_there Down _ l.down down q l.downward (ap (same_direction Down) of));
    }
put_marked l r hold up down Down k w n p q =
    let ys = items l.down in
    let once = l.once r in
    let one = count_at r ys k no_bid w (eq-eqb _ r n) in
    let of = same_direction_lem Down _ (All-get_or (Of Down) ys k no_bid w (only_all Down ys l.downward.1)) in
    record {
      up_back = stays Up r hold (items l.up) (items up) l.upward (omega arith) (put_there Up _ l.up up p l.upward (ap (same_direction Up) of));
      down_back = back Down r hold l.down down k l.downward (omega arith) w n q;
    }

pub marked_is : (l : Ladder) (r : ℕ) (hold : Bool) (up down : OrderedList Bid) (o : Option Bid) (b : Bid) → Marked l r hold up down → o ≡ Some b
    → record { up = items up; down = items down; given = l.given } ≡ cond (is_some o) (marked r hold (view l)) (view l)
marked_is l r hold up down o b p e =
    ap (λ zs. record { up = zs; down = items down; given = l.given }) p.up_back.is ∙ ap (λ zs. record { up = map (mark r hold) (items l.up); down = zs; given = l.given }) p.down_back.is
    ∙ sym (ap (λ v. cond (is_some v) (marked r hold (view l)) (view l)) e)
