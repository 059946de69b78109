-- What acceptance guarantees of an hour, as far as it is needed for the facts to be regular.
use Rattle.std.specs.Prelude.{◌≡◌, ℕ, ◌<◌, ◌≤◌, true, List, length, get_or, slice_index_or}
use Rattle.units.specs.declared.Position.{Position}
use Rattle.units.specs.declared.Price.{Price}
use Rattle.market.specs.declared.words.Activation.{Activation}
use Rattle.market.specs.declared.words.Bid.{Bid}
use Rattle.market.specs.declared.words.Direction.{Direction}
use Rattle.market.specs.declared.words.Direction.TheVariants.{Up, Down}
use Rattle.market.specs.Figures.{price_limit}
use Rattle.market.specs.Words.{no_activation, no_bid}
use Rattle.ladder.specs.Standing.{OfHour}
use Rattle.register.specs.Totals.{listed}
use Rattle.pricing.specs.Policies.{NotAbove, Within}

-- an upward price is not below spot, a downward price not above it
abbrev pub OnItsSide : Direction → Price → Price → Type 0
OnItsSide Up spot p = NotAbove spot p
OnItsSide Down spot p = NotAbove p spot

pub record SoundActivation (spot : Price) (a : Activation) : Type 0 where
  pub price_within : Within price_limit a.price
  pub side : OnItsSide a.direction spot a.price
  -- enough kilowatts for some energy in a single minute
  pub enough : 1_000 ≤ a.volume.0
  pub lasts : a.minutes.first < a.minutes.last

-- every standing bid of the hour has its price within the limit
abbrev pub BidsWithin : Position → List Bid → Type 0
BidsWithin hour bids = (k : ℕ) → k < length bids → OfHour hour (slice_index_or bids k no_bid) → Within price_limit (get_or bids k no_bid).price

pub record Sound (spot : Price) (hour : Position) (activations : List Activation) (ups downs : List Bid) : Type 0 where
  pub spot_within : Within price_limit spot
  pub listed_sound : (k : ℕ) → k < length activations → listed hour (slice_index_or activations k no_activation) ≡ true
      → SoundActivation spot (slice_index_or activations k no_activation)
  pub ups_within : BidsWithin hour ups
  pub downs_within : BidsWithin hour downs
