-- What the books say of one hour, as a settled hour's figures.
use Rattle.std.specs.Prelude.{◌≡◌, ℕ, ◌^◌, Bool, ◌&&◌, List, ℤ, pos, ◌+ℤ◌, ◌==◌}
use Rattle.units.specs.declared.Position.{Position}
use Rattle.units.specs.declared.Price.{Price}
use Rattle.market.specs.declared.words.Activation.{Activation}
use Rattle.market.specs.declared.words.Direction.{Direction}
use Rattle.market.specs.declared.words.Direction.TheVariants.{Up, Down}
use Rattle.notices.specs.declared.notice.Notice.{Notice}
use Rattle.notices.specs.Kept.{kept, energy_like}
use Rattle.register.specs.Registered.{registered}
use Rattle.register.specs.Totals.{of_hour}
use Rattle.pricing.specs.declared.Facts.{Facts}
use Rattle.pricing.specs.declared.Prices.{Prices}
use Rattle.integers.specs.Near.{Near}
use Rattle.settlement.specs.Bounds.{HourFits, PricesFit}
use Rattle.settlement.specs.Hour.{Hour, production_imbalance, consumption_imbalance}
use Rattle.settlement.specs.Payments.{priced, regulation_to, due_to}
use Rattle.billing.specs.declared.book.HourBook.{HourBook}
use Rattle.billing.specs.declared.book.Metered.{Metered}
use Rattle.billing.specs.Capped.{capped, Fits}

-- what the sender's kept notice to the counterparty says for the hour, 0 where none is kept
abbrev pub notice_between : List Notice → Position → ℕ → ℕ → ℤ
notice_between notices position sender counterparty =
    energy_like (record { hour = position; sender = record { 0 = sender }; counterparty = record { 0 = counterparty }; energy = record { 0 = pos 0 } }) notices

-- the hour at a position, with each party's figures
abbrev pub hour_of : Position → ℕ → (ℕ → ℤ) → (ℕ → ℤ) → (ℕ → ℤ) → List Notice → List Activation → Hour
hour_of position parties plan produced consumed notices activations =
    record { position = position; parties = parties; plan = plan; notice = notice_between notices position; produced = produced; consumed = consumed; activations = activations }

-- the same where only one party's own figures matter
abbrev pub hour_for : Position → ℕ → Metered → List Notice → List Activation → Hour
hour_for position parties metered notices activations =
    hour_of position parties (λ _. metered.plan.0) (λ _. metered.produced.0) (λ _. metered.consumed.0) notices activations

-- the notices of the hour that a book is open at, and the hour itself
abbrev pub notice_in : HourBook → ℕ → ℕ → ℤ
notice_in book sender counterparty = notice_between (kept book.notices.now) book.position sender counterparty

abbrev pub hour_in : HourBook → Metered → Hour
hour_in book metered = hour_for book.position book.parties metered (kept book.notices.now) (registered book.register.now)

-- the balancing price of a direction
abbrev pub price_of : Facts → Direction → Price
price_of facts Up = facts.up_price
price_of facts Down = facts.down_price

-- an activation of the party in the hour
abbrev pub of_party : Position → ℕ → Activation → Bool
of_party position p a = of_hour position a && a.party.0 == p

-- what is booked, whatever the figures: each imbalance, and the sum, as far as 64 bits hold it
abbrev pub booked : ℕ → Facts → Prices → Hour → ℕ → ℤ
booked minutes facts prices hour p =
    capped ((priced prices.production (capped (production_imbalance hour p)) +ℤ priced prices.consumption_and_trade (capped (consumption_imbalance hour p)))
    +ℤ regulation_to minutes facts hour p)

-- z is booked for the party: what is due to it wherever 64 bits hold that, as they do for all accepted figures
pub record Booked (minutes : ℕ) (facts : Facts) (prices : Prices) (hour : Hour) (p : ℕ) (z : ℤ) : Type 0 where
  pub value : z ≡ booked minutes facts prices hour p
  pub exact : Fits (production_imbalance hour p) → Fits (consumption_imbalance hour p) → Fits (due_to minutes facts prices hour p) → z ≡ due_to minutes facts prices hour p
  pub accepted : HourFits hour → PricesFit facts prices → z ≡ due_to minutes facts prices hour p
  pub small : HourFits hour → PricesFit facts prices → Near (2 ^ 48) z
