-- The standing bids as the calls speak of them. Assumes nothing.
use Rattle.std.specs.Prelude.{ℕ, ◌+◌, Bool, cond, not, ◌&&◌, List, [], ◌∷◌, map, length, Some, None, filter, Option, ◌==◌, nat_lt}
use Rattle.std.specs.List.{slice_get, AllByRecursion}
use Rattle.std.specs.Option.{option_or}
use Rattle.ordered.specs.Listed.{items}
use Rattle.ordered.specs.Order.{placed}
use Rattle.market.specs.Figures.{most_bids, most_receipts}
use Rattle.market.specs.Order.{bid_before}
use Rattle.market.specs.declared.words.Bid.{Bid}
use Rattle.market.specs.declared.words.Direction.{Direction}
use Rattle.market.specs.declared.words.Direction.TheVariants.{Up, Down}
use Rattle.ladder.specs.Offered.{bid_of}
use Rattle.ladder.specs.Sides.{has_receipt}
use Rattle.ladder.specs.declared.ladder.Ladder.{Ladder}
use Rattle.ladder.specs.declared.offer.Offer.{Offer}

-- the bids of each direction, first to last, and how many receipts were given
pub record StandingBids : Type 0 where
  pub up : List Bid
  pub down : List Bid
  pub given : ℕ

-- what a ladder holds
abbrev pub view : Ladder → StandingBids
view l = record { up = items l.up; down = items l.down; given = l.given }

abbrev pub no_bids : StandingBids
no_bids = record { up = []; down = []; given = 0 }

abbrev pub bids_of : Direction → StandingBids → List Bid
bids_of Up s = s.up
bids_of Down s = s.down

-- of both directions, held ones too
abbrev pub standing_count : StandingBids → ℕ
standing_count s = length s.up + length s.down

-- there is room for one more bid, and a receipt for it
abbrev pub has_space : StandingBids → Bool
has_space s = nat_lt (standing_count s) most_bids && nat_lt s.given most_receipts

-- ---- what the calls make of the standing bids

-- b stands at its place in the list of that direction, and one more receipt is given
abbrev pub added_to : Direction → Bid → StandingBids → StandingBids
added_to Up b s = record { up = placed bid_before b s.up; down = s.down; given = s.given + 1 }
added_to Down b s = record { up = s.up; down = placed bid_before b s.down; given = s.given + 1 }

-- the offer stands as a bid of its direction, under the next receipt
abbrev pub added : Offer → StandingBids → StandingBids
added offer s = added_to offer.direction (bid_of (s.given + 1) offer) s

abbrev pub other_receipt : ℕ → Bid → Bool
other_receipt receipt b = not (has_receipt receipt b)

-- all bids but the one of that receipt
abbrev pub dropped : ℕ → StandingBids → StandingBids
dropped receipt s =
    record { up = filter (other_receipt receipt) s.up; down = filter (other_receipt receipt) s.down; given = s.given }

-- all bids but that one, if there is one
abbrev pub taken : Option Bid → StandingBids → StandingBids
taken None s = s
taken (Some b) s = dropped b.receipt.0 s

abbrev pub with_held : Bool → Bid → Bid
with_held held b =
    record {
      hour = b.hour;
      receipt = b.receipt;
      party = b.party;
      portfolio = b.portfolio;
      direction = b.direction;
      volume = b.volume;
      price = b.price;
      held = held;
    }

abbrev pub mark : ℕ → Bool → Bid → Bid
mark receipt held b = cond (has_receipt receipt b) (with_held held b) b

-- the bid of that receipt is held, or no longer held; the others are as they were
abbrev pub marked : ℕ → Bool → StandingBids → StandingBids
marked receipt held s =
    record { up = map (mark receipt held) s.up; down = map (mark receipt held) s.down; given = s.given }

-- ---- what is asked of them

-- the first bid that passes the test
abbrev pub first_by : (Bid → Bool) → List Bid → Option Bid
first_by test [] = None
first_by test (b ∷ bs) = cond (test b) (Some b) (first_by test bs)

-- the first bid of that receipt
abbrev pub with_receipt : ℕ → List Bid → Option Bid
with_receipt receipt bs = first_by (has_receipt receipt) bs

-- in either direction
abbrev pub standing_with : ℕ → StandingBids → Option Bid
standing_with receipt s = option_or (with_receipt receipt s.up) (with_receipt receipt s.down)

-- of the hour and not held
abbrev pub is_free : ℕ → Bid → Bool
is_free hour b = b.hour.0 == hour && not b.held

-- the first free bid of the hour
abbrev pub first_free : ℕ → List Bid → Option Bid
first_free hour bs = first_by (is_free hour) bs

-- the bid at a place of a direction's list
abbrev pub bid_at : StandingBids → Option (Direction × ℕ) → Option Bid
bid_at s None = None
bid_at s (Some p) = slice_get (bids_of p.0 s) p.1

-- P holds of each standing bid
abbrev pub AllBids : (Bid → Type 0) → StandingBids → Type 0
AllBids P s = AllByRecursion P s.up × AllByRecursion P s.down
