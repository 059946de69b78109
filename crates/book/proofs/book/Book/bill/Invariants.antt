use Rattle.std.proofs.Common.{◌≡◌, ℕ, Option}
use Rattle.accounts.specs.Booked.{settled_of}
use Rattle.market.specs.Figures.{price_setting_minutes}
use Rattle.pricing.specs.declared.Prices.{Prices}
use Rattle.settlement.specs.Bounds.{PricesFit}
use Rattle.settlement.specs.Payments.{due_to}
use Rattle.journal.specs.Figures.{Stage, hour_at}
use Rattle.book.specs.View.{shown}
use Rattle.book.specs.Bills.{Roomy, Billed}
use Rattle.book.proofs.book.Book.bill.Given as goal

abbrev pub invariant-loop-number : goal.invariant-loop-number
invariant-loop-number l =
    (settled_of l.accounts ≡ settled_of l.initial.accounts)
    × (PricesFit l.priced.facts l.priced.prices → Roomy l.initial.accounts → (stage : Stage) (settled : ℕ → Option Prices)
    → Billed l.number (due_to price_setting_minutes l.priced.facts l.priced.prices (hour_at (shown stage settled l.self) l.hour.0)) l.initial.accounts l.accounts)
