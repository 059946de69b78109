-- The order in which bids and activations stand.
use Rattle.std.specs.Prelude.{ℕ, Bool, List, [], ◌∷◌, ℤ, pos, neg_ℤ}
use Rattle.ordered.specs.Lex.{lex_before, lex_same}
use Rattle.market.specs.declared.words.Activation.{Activation}
use Rattle.market.specs.declared.words.Bid.{Bid}
use Rattle.market.specs.declared.words.Direction.{Direction}
use Rattle.market.specs.declared.words.Direction.TheVariants.{Up, Down}

abbrev pub direction_key : Direction → ℕ
direction_key Up = 0
direction_key Down = 1

-- rising prices upward, falling prices downward
abbrev pub ranked_price : Direction → ℤ → ℤ
ranked_price Up price = price
ranked_price Down price = neg_ℤ price

abbrev pub price_key : Bid → ℤ
price_key b = ranked_price b.direction b.price.0

-- by what the bids are ordered, the first number first
abbrev pub bid_key : Bid → List ℤ
bid_key b = pos (direction_key b.direction) ∷ (pos b.hour.0 ∷ (price_key b ∷ (pos b.receipt.0 ∷ [])))

-- a stands before b
abbrev pub bid_before : Bid → Bid → Bool
bid_before a b = lex_before (bid_key a) (bid_key b)

-- a and b take the same place
abbrev pub bid_same : Bid → Bid → Bool
bid_same a b = lex_same (bid_key a) (bid_key b)

-- activations: by hour, then first minute, then number of arrival
abbrev pub activation_key : Activation → List ℤ
activation_key a = pos a.hour.0 ∷ (pos a.minutes.first ∷ (pos a.arrival ∷ []))

abbrev pub activation_before : Activation → Activation → Bool
activation_before a b = lex_before (activation_key a) (activation_key b)

abbrev pub activation_same : Activation → Activation → Bool
activation_same a b = lex_same (activation_key a) (activation_key b)
