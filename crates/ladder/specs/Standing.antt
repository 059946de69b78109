-- What is asked of a list of standing bids.
use Rattle.std.specs.Prelude.{◌≡◌, ℕ, ◌<◌, false, List, length, get_or, ◌≤ℤ◌, Option, MatchOption, slice_index_or}
use Rattle.std.specs.Option.{option_map}
use Rattle.units.specs.declared.Position.{Position}
use Rattle.units.specs.declared.Price.{Price}
use Rattle.units.specs.declared.Receipt.{Receipt}
use Rattle.market.specs.declared.words.Bid.{Bid}
use Rattle.market.specs.Words.{no_bid}

-- k is the first place whose bid has P
pub record FirstAt (P : Bid → Type 0) (bids : List Bid) (k : ℕ) : Type 0 where
  pub within : k < length bids
  pub here : P (slice_index_or bids k no_bid)
  pub before : (j : ℕ) → j < k → P (slice_index_or bids j no_bid) → ⊥

-- none of the first n bids has P
abbrev pub NoneOf : (Bid → Type 0) → List Bid → ℕ → Type 0
NoneOf P bids n = (j : ℕ) → j < n → P (slice_index_or bids j no_bid) → ⊥

-- the first place whose bid has P, or none where no bid has it
abbrev pub First : (Bid → Type 0) → List Bid → Option ℕ → Type 0
First P bids r = MatchOption r (NoneOf P bids (length bids)) (FirstAt P bids)

-- of the hour
abbrev pub OfHour : Position → Bid → Type 0
OfHour hour bid = bid.hour ≡ hour

-- of the hour and not held
abbrev pub Free : Position → Bid → Type 0
Free hour bid = OfHour hour bid × (bid.held ≡ false)

-- accepted under that receipt
abbrev pub Numbered : Receipt → Bid → Type 0
Numbered receipt bid = bid.receipt ≡ receipt

-- q is not lower than p
abbrev pub NoLower : Price → Price → Type 0
NoLower p q = p.0 ≤ℤ q.0

-- q is not higher than p
abbrev pub NoHigher : Price → Price → Type 0
NoHigher p q = q.0 ≤ℤ p.0

-- among the first n bids, one of the hour has the price p, and none of the hour has a price beyond it
pub record ExtremeAt (W : Price → Price → Type 0) (hour : Position) (bids : List Bid) (n : ℕ) (p : Price) : Type 0 where
  pub reached : (k : ℕ) × (k < n) × (OfHour hour (slice_index_or bids k no_bid)) × ((get_or bids k no_bid).price ≡ p)
  pub bound : (k : ℕ) → k < n → OfHour hour (slice_index_or bids k no_bid) → W p (get_or bids k no_bid).price

-- the extreme price of the hour among the first n bids, or none where none of them is of the hour
abbrev pub ExtremeOf : (Price → Price → Type 0) → Position → List Bid → ℕ → Option Price → Type 0
ExtremeOf W hour bids n r = MatchOption r (NoneOf (OfHour hour) bids n) (ExtremeAt W hour bids n)

-- the same among all the bids: the lowest price where W is `NoLower`, the highest where it is `NoHigher`
abbrev pub Extreme : (Price → Price → Type 0) → Position → List Bid → Option Price → Type 0
Extreme W hour bids r = ExtremeOf W hour bids (length bids) r

-- r is the first bid that has P, or none where no bid has it
abbrev pub FirstBid : (Bid → Type 0) → List Bid → Option Bid → Type 0
FirstBid P bids r = (k : Option ℕ) × First P bids k × (r ≡ option_map (λ j. get_or bids j no_bid) k)
