-- What the lists of standing bids are, they stay. Assumes nothing.
use Rattle.std.proofs.Common.{◌≡◌, ℕ, ◌+◌, ◌≤◌, true, List, [], ◌∷◌, sym, refl, subst, arith}
use Rattle.std.proofs.lemmas.Bool.{and_from, and_parts}
use Rattle.std.specs.List.{remove, AllByRecursion}
use Rattle.ordered.specs.Order.{placed}
use Rattle.ordered.proofs.Lexical.{lex_order}
use Rattle.ordered.proofs.Placed.{all_placed, rises_placed}
use Rattle.ordered.proofs.Removed.{all_removed, rises_removed}
use Rattle.market.specs.Order.{bid_before, bid_key}
use Rattle.market.specs.declared.words.Bid.{Bid}
use Rattle.market.specs.declared.words.Direction.{Direction}
use Rattle.ladder.specs.Sides.{Fresh, Once, Side, only_of, receipt_count}
use Rattle.market.specs.Words.{same_direction}

module _ (d : Direction) where
  abbrev pub Of : Bid → Type 0
  Of b = same_direction d b.direction ≡ true

  pub only_all : (xs : List Bid) → only_of d xs ≡ true → AllByRecursion Of xs
  only_all [] h = tt
  only_all (x ∷ xs) h = let p = and_parts (same_direction d x.direction) (only_of d xs) h in (p.0, only_all xs p.1)

  all_only : (xs : List Bid) → AllByRecursion Of xs → only_of d xs ≡ true
  all_only [] a = refl
  all_only (x ∷ xs) a = and_from (same_direction d x.direction) (only_of d xs) a.0 (all_only xs a.1)

  pub side_removed : (xs ys : List Bid) (k : ℕ) → ys ≡ remove xs k → Side d xs → Side d ys
  side_removed xs ys k e s =
      subst (Side d) (sym e) (rises_removed (lex_order bid_key) xs k s.0, all_only (remove xs k) (all_removed Of xs k (only_all xs s.1)))

  pub side_placed : (xs ys : List Bid) (b : Bid) → Of b → ys ≡ placed bid_before b xs → Side d xs → Side d ys
  side_placed xs ys b o e s =
      subst (Side d) (sym e) (rises_placed (lex_order bid_key) xs b s.0, all_only (placed bid_before b xs) (all_placed (lex_order bid_key) Of xs b o (only_all xs s.1)))

-- no receipt more often than before
abbrev pub Fewer : List Bid → List Bid → List Bid → List Bid → Type 0
Fewer xs ys us vs = (r : ℕ) → receipt_count r us + receipt_count r vs ≤ receipt_count r xs + receipt_count r ys

pub once_fewer : (xs ys us vs : List Bid) → Fewer xs ys us vs → Once xs ys → Once us vs
once_fewer xs ys us vs f o r = let a = f r in let b = o r in omega arith

pub fresh_fewer : (g : ℕ) (xs ys us vs : List Bid) → Fewer xs ys us vs → Fresh g xs ys → Fresh g us vs
fresh_fewer g xs ys us vs f n r l = let a = f r in let b = n r l in omega arith
