-- Each call of a script: the row that refuses it, and the entry that it becomes when it is accepted with an answer.
use Rattle.std.specs.Prelude.{ℕ, ℤ, pos, Option}
use Rattle.refusal.specs.declared.Refusal.{Refusal}
use Rattle.pricing.specs.declared.Facts.{Facts}
use Rattle.pricing.specs.declared.Prices.{Prices}
use Rattle.journal.specs.Figures.{Figures}
use Rattle.journal.specs.Journal.{Entry, special_of}
use Rattle.journal.specs.Journal as journal
use Rattle.journal.specs.Refused.{enter_refused, clock_refused, plan_refused, notice_refused, bid_refused, withdraw_refused, hold_refused, activate_refused, special_refused, reading_refused, settle_refused}
use Rattle.replay.specs.declared.calls.Answer.{Answer}
use Rattle.replay.specs.declared.calls.Answer.TheVariants.{Done, Entered, Accepted, Activated, Energy}
use Rattle.replay.specs.declared.calls.PlannedCall.{PlannedCall}
use Rattle.replay.specs.declared.calls.PlannedCall.TheVariants.{Enter, Plan as PlannedPlan, Notice as PlannedNotice, Clock as PlannedClock}
use Rattle.replay.specs.declared.calls.RunningCall.{RunningCall}
use Rattle.replay.specs.declared.calls.RunningCall.TheVariants.{Plan, Notice, Clock, Bid, Withdraw, Hold, Activate, Special}
use Rattle.replay.specs.declared.calls.MeteredCall.{MeteredCall}
use Rattle.replay.specs.declared.calls.MeteredCall.TheVariants.{Read, Settle}

-- what an answer holds; 0 where it does not hold such a thing
abbrev pub party_in : Answer → ℕ
party_in Done = 0
party_in (Entered party) = party.0
party_in (Accepted receipt) = 0
party_in (Activated receipt energy) = 0
party_in (Energy energy) = 0

abbrev pub receipt_in : Answer → ℕ
receipt_in Done = 0
receipt_in (Entered party) = 0
receipt_in (Accepted receipt) = receipt.0
receipt_in (Activated receipt energy) = receipt.0
receipt_in (Energy energy) = 0

abbrev pub energy_in : Answer → ℤ
energy_in Done = pos 0
energy_in (Entered party) = pos 0
energy_in (Accepted receipt) = pos 0
energy_in (Activated receipt energy) = energy.0
energy_in (Energy energy) = energy.0

-- what the caller of an accepted call is told, by the entry that the call became
abbrev pub told : Entry → Answer
told (journal.Entered party) = Entered (record { 0 = party })
told (journal.BidAccepted offer receipt) = Accepted (record { 0 = receipt })
told (journal.Activated hour direction first last receipt energy) = Activated (record { 0 = receipt }) (record { 0 = energy })
told (journal.Special activation energy) = Energy (record { 0 = energy })
told _ = Done

abbrev pub planned_row : Figures → PlannedCall → Option Refusal
planned_row f Enter = enter_refused f
planned_row f (PlannedPlan hour party energy) = plan_refused f hour.0 party.0 energy.0
planned_row f (PlannedNotice notice) = notice_refused f notice
planned_row f (PlannedClock instant) = clock_refused f instant.0

abbrev pub planned_entry : PlannedCall → Answer → Entry
planned_entry Enter answer = journal.Entered (party_in answer)
planned_entry (PlannedPlan hour party energy) answer = journal.Plan hour.0 party.0 energy.0
planned_entry (PlannedNotice notice) answer = journal.Noticed notice
planned_entry (PlannedClock instant) answer = journal.Clock instant.0

abbrev pub running_row : Figures → RunningCall → Option Refusal
running_row f (Plan hour party energy) = plan_refused f hour.0 party.0 energy.0
running_row f (Notice notice) = notice_refused f notice
running_row f (Clock instant) = clock_refused f instant.0
running_row f (Bid offer) = bid_refused f offer
running_row f (Withdraw receipt) = withdraw_refused f receipt.0
running_row f (Hold receipt held) = hold_refused f receipt.0
running_row f (Activate hour direction minutes) = activate_refused f hour.0 direction minutes.first minutes.last
running_row f (Special offer minutes) = special_refused f (special_of offer minutes.first minutes.last)

abbrev pub running_entry : RunningCall → Answer → Entry
running_entry (Plan hour party energy) answer = journal.Plan hour.0 party.0 energy.0
running_entry (Notice notice) answer = journal.Noticed notice
running_entry (Clock instant) answer = journal.Clock instant.0
running_entry (Bid offer) answer = journal.BidAccepted offer (receipt_in answer)
running_entry (Withdraw receipt) answer = journal.Withdrawn receipt.0
running_entry (Hold receipt held) answer = journal.Hold receipt.0 held
running_entry (Activate hour direction minutes) answer = journal.Activated hour direction minutes.first minutes.last (receipt_in answer) (energy_in answer)
running_entry (Special offer minutes) answer = journal.Special (special_of offer minutes.first minutes.last) (energy_in answer)

abbrev pub metered_row : {P : Type 0} → Figures → MeteredCall P → Option Refusal
metered_row f (Read hour party meter energy) = reading_refused f hour.0 party.0 energy.0
metered_row f (Settle hour policy) = settle_refused f hour.0

-- by what the policies of the script mean
abbrev pub metered_entry : {P : Type 0} → (P → Facts → Prices) → MeteredCall P → Answer → Entry
metered_entry meaning (Read hour party meter energy) answer = journal.Reading hour.0 party.0 meter energy.0
metered_entry meaning (Settle hour policy) answer = journal.Settled hour.0 (meaning policy)
