-- The key of a bid compares as its numbers do.
use Rattle.std.specs.Prelude.{◌≡◌}
use Rattle.std.specs.Cmp.Lexicographic.{slice_cmp}
use Rattle.std.specs.Ordering.{int_cmp, nat_cmp, ordering_then}
use Rattle.std.specs.declared.cmp.Ordering.{Ordering}
use Rattle.std.specs.declared.cmp.Ordering.TheVariants.{Less, Equal, Greater}
use Rattle.ordered.proofs.Lexical.{tuples}
use Rattle.market.specs.declared.words.Bid.{Bid}
use Rattle.market.specs.declared.words.Direction.{Direction}
use Rattle.market.specs.declared.words.Direction.TheVariants.{Up, Down}
use Rattle.market.specs.Order.{bid_key, direction_key, price_key}

module _ (cmp : Direction → Direction → Ordering) (up : cmp Up Up ≡ Equal) (up_down : cmp Up Down ≡ Less) (down_up : cmp Down Up ≡ Greater) (down : cmp Down Down ≡ Equal) where
  direction_alike : (a b : Direction) → cmp a b ≡ nat_cmp (direction_key a) (direction_key b)
  direction_alike Up Up = up
  direction_alike Up Down = up_down
  direction_alike Down Up = down_up
  direction_alike Down Down = down

  pub bid_alike : (a b : Bid) → ordering_then (ordering_then (ordering_then (cmp a.direction b.direction) (nat_cmp a.hour.0 b.hour.0)) (int_cmp (price_key a) (price_key b))) (nat_cmp a.receipt.0 b.receipt.0) ≡ slice_cmp int_cmp (bid_key a) (bid_key b)
  bid_alike a b = rw (direction_alike a.direction b.direction) (simp tuples)
