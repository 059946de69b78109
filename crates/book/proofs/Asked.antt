-- What a book answers, from what the parts of it promise.
use Rattle.std.proofs.Common.{◌≡◌, ℕ, ◌^◌, ◌≤◌, List, length, ℤ, pos, Option, unwrap_or, ◌∙◌, arith}
use mathlib.Core.Logic.{∥∥₁_elim}
use lib.IntN.{ℤ_set}
use Rattle.std.proofs.lemmas.Int.{ints}
use Rattle.units.specs.declared.Position.{Position}
use Rattle.market.specs.declared.words.Activation.{Activation}
use Rattle.market.specs.declared.words.Portfolio.{Portfolio}
use Rattle.market.specs.Figures.{most_activations}
use Rattle.timetable.specs.declared.timetable.Timetable.{Timetable}
use Rattle.timetable.specs.View.{times}
use Rattle.positions.specs.declared.record.Meter.TheVariants.{Production, Consumption}
use Rattle.positions.specs.declared.table.PositionTable.{PositionTable}
use Rattle.positions.specs.Tables.{plans_of, readings_of}
use Rattle.notices.specs.declared.table.NoticeTable.{NoticeTable}
use Rattle.notices.specs.Kept.{kept}
use Rattle.ladder.specs.declared.ladder.Ladder.{Ladder}
use Rattle.register.specs.declared.register.Register.{Register}
use Rattle.register.specs.Registered.{registered}
use Rattle.register.specs.Totals.{Few}
use Rattle.pricing.specs.declared.Facts.{Facts}
use Rattle.pricing.specs.declared.Prices.{Prices}
use Rattle.integers.specs.Near.{Near}
use Rattle.settlement.specs.Bounds.{HourFits, PricesFit}
use Rattle.settlement.specs.Hour.{imbalance}
use Rattle.settlement.specs.Payments.{due_to}
use Rattle.settlement.proofs.Bounds.{imbalance_near}
use Rattle.billing.specs.declared.book.Metered.{Metered}
use Rattle.billing.specs.Capped.{Held}
use Rattle.billing.specs.Booked.{hour_for, Booked}
use Rattle.billing.proofs.Exact.{own_imbalance, own_due, own_fits}
use Rattle.journal.specs.Figures.{Stage, Planned, hour_at}
use Rattle.journal.proofs.Fits.{hour_fits}
use Rattle.book.specs.Parts.{figures_of, Sound}
use Rattle.book.proofs.Through.{kept_of, unsettled}

pub few : (xs : List Activation) → length xs ≤ most_activations → Few xs
few xs h = omega (arith, h)

module _ (t : Timetable) (p : PositionTable) (n : NoticeTable) (l : Ladder) (r : Register) (hour : Position) (q : ℕ) (m : Metered)
    (is-plan : m.plan.0 ≡ plans_of p hour.0 q) (is-produced : m.produced.0 ≡ unwrap_or (readings_of Production p hour.0 q) (pos 0)) (is-consumed : m.consumed.0 ≡ unwrap_or (readings_of Consumption p hour.0 q) (pos 0)) where
  plans : ℕ → ℤ
  plans = plans_of p hour.0

  produced : ℕ → ℤ
  produced = λ k. unwrap_or (readings_of Production p hour.0 k) (pos 0)

  consumed : ℕ → ℤ
  consumed = λ k. unwrap_or (readings_of Consumption p hour.0 k) (pos 0)

  pub fits : Sound t p n l r → HourFits (hour_for hour (times t).parties m (kept n) (registered r))
  unfolding plans produced consumed
  fits s =
      own_fits hour (times t).parties plans produced consumed (kept n) (registered r) q m is-plan is-produced is-consumed (hour_fits (figures_of Planned unsettled t p n l r) (kept_of Planned t p n l r s) hour.0)

  pub imbalance_shown : (stage : Stage) (prices : ℕ → Option Prices) (portfolio : Portfolio) (x : ℤ) → ∥ Sound t p n l r ∥₁ → Held (imbalance (hour_for hour (times t).parties m (kept n) (registered r)) portfolio q) x
      → x ≡ imbalance (hour_at (figures_of stage prices t p n l r) hour.0) portfolio q
  unfolding plans produced consumed
  imbalance_shown stage prices portfolio x sound held =
      ∥∥₁_elim sound (ℤ_set _ _) (λ s.
      let near = imbalance_near (hour_for hour (times t).parties m (kept n) (registered r)) (fits s) portfolio q in
      held.exact (record { low = omega (arith, ints, near.low); high = omega (arith, ints, near.high) })
      ∙ own_imbalance hour (times t).parties plans produced consumed (kept n) (registered r) q m is-plan is-produced is-consumed portfolio)

  -- what is due to the party, at prices that fit
  pub due_shown : (minutes : ℕ) (facts : Facts) (prices : Prices) (x : ℤ) → Booked minutes facts prices (hour_for hour (times t).parties m (kept n) (registered r)) q x → Sound t p n l r → PricesFit facts prices
      → (x ≡ due_to minutes facts prices (hour_at (figures_of Planned unsettled t p n l r) hour.0) q) × Near (2 ^ 48) x
  unfolding plans produced consumed
  due_shown minutes facts prices x booked s known =
      (booked.accepted (fits s) known ∙ own_due hour (times t).parties plans produced consumed (kept n) (registered r) q m is-plan is-produced is-consumed minutes facts prices, booked.small (fits s) known)
