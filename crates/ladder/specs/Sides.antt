-- What the lists of standing bids always are. Assumes nothing.
--     has_receipt r b       the bid b has the receipt r
--     receipt_count r bs    how many of the bids have it
--     Side d bs            the bids stand in their order, and all are of the direction d
--     Once up down         no receipt stands twice, in either direction
--     Fresh g up down      no receipt above g stands
--     Puts d b l m         what putting the bid b makes of the list l of the direction d
use Rattle.std.specs.Prelude.{◌≡◌, ℕ, ◌+◌, ◌<◌, ◌≤◌, Bool, true, cond, ◌&&◌, List, [], ◌∷◌, ◌==◌}
use Rattle.ordered.specs.Listed.{accepts, items, space_of}
use Rattle.ordered.specs.Order.{placed, rises}
use Rattle.ordered.specs.declared.list.OrderedList.{OrderedList}
use Rattle.market.specs.Order.{bid_before, bid_same}
use Rattle.market.specs.Words.{same_direction}
use Rattle.market.specs.declared.words.Bid.{Bid}
use Rattle.market.specs.declared.words.Direction.{Direction}

abbrev pub has_receipt : ℕ → Bid → Bool
has_receipt receipt b = b.receipt.0 == receipt

abbrev pub receipt_count : ℕ → List Bid → ℕ
receipt_count receipt [] = 0
receipt_count receipt (b ∷ bs) = cond (has_receipt receipt b) 1 0 + receipt_count receipt bs

-- each of them is of that direction
abbrev pub only_of : Direction → List Bid → Bool
only_of direction [] = true
only_of direction (b ∷ bs) = same_direction direction b.direction && only_of direction bs

abbrev pub Side : Direction → List Bid → Type 0
Side direction bs = (rises bid_before bs ≡ true) × (only_of direction bs ≡ true)

abbrev pub Once : List Bid → List Bid → Type 0
Once up down = (r : ℕ) → receipt_count r up + receipt_count r down ≤ 1

abbrev pub Fresh : ℕ → List Bid → List Bid → Type 0
Fresh given up down = (r : ℕ) → given < r → receipt_count r up + receipt_count r down ≡ 0

-- b stands at its place if it is of the direction d and the list takes it; else the list is as it was
abbrev pub Puts : Direction → Bid → OrderedList Bid → OrderedList Bid → Type 0
Puts direction b l m =
    (space_of m ≡ space_of l)
    × (rises bid_before (items l) ≡ true
    → items m ≡ cond (same_direction direction b.direction && accepts bid_same l b) (placed bid_before b (items l)) (items l))
