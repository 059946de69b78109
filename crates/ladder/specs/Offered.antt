-- The bid that an offer becomes. Assumes nothing.
use Rattle.std.specs.Prelude.{ℕ, false}
use Rattle.market.specs.declared.words.Bid.{Bid}
use Rattle.ladder.specs.declared.offer.Offer.{Offer}

-- under that receipt, and not held
abbrev pub bid_of : ℕ → Offer → Bid
bid_of receipt offer =
    record {
      hour = offer.hour;
      receipt = record { 0 = receipt };
      party = offer.party;
      portfolio = offer.portfolio;
      direction = offer.direction;
      volume = offer.volume;
      price = offer.price;
      held = false;
    }
