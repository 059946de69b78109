-- What each call comes to, from what the parts of the book promise.
use Rattle.std.proofs.Common.{◌≡◌, ℕ, ◌+◌, ◌<◌, Bool, true, false, cond, ◌||◌, length, ℤ, pos, is_some, Some, None, Ok, Err, Option, Result, nat_lt, sym, refl, ap, ◌∙◌, subst, inl, arith}
use mathlib.Core.Bool.{Bool-set}
use mathlib.Core.Logic.{∥∥₁_elim}
use Rattle.std.proofs.lemmas.Bool.{cond-true}
use Rattle.std.proofs.lemmas.Result.{err_from_is_err_and}
use Rattle.std.specs.Option.{IfSome, option_map, ok_or}
use Rattle.std.specs.Result.{IsErrAnd}
use Rattle.refusal.specs.declared.Refusal.{Refusal}
use Rattle.refusal.specs.declared.Refusal.TheVariants.{NoRoom, NoSuchBid}
use Rattle.refusal.specs.Outcome.{Outcome}
use Rattle.refusal.proofs.Outcomes.{accepted, refused, outcome_map, outcome_instead, outcome_done}
use Rattle.units.specs.declared.KilowattHours.{KilowattHours}
use Rattle.units.specs.declared.Party.{Party}
use Rattle.units.specs.declared.Receipt.{Receipt}
use Rattle.units.specs.declared.Position.{Position}
use Rattle.market.specs.declared.words.Activation.{Activation}
use Rattle.market.specs.declared.words.Bid.{Bid}
use Rattle.market.specs.declared.words.Direction.{Direction}
use Rattle.market.specs.declared.words.Kind.TheVariants.{Special as SpecialKind}
use Rattle.market.specs.Figures.{most_activations, most_notices}
use Rattle.market.specs.Words.{energy_of}
use Rattle.timetable.specs.declared.timetable.Timetable.{Timetable}
use Rattle.timetable.specs.Opening.{Times, enter_row, clock_row, with_party, with_clock}
use Rattle.timetable.specs.View.{times}
use Rattle.positions.specs.declared.record.Meter.{Meter}
use Rattle.positions.specs.declared.record.Meter.TheVariants.{Production, Consumption}
use Rattle.positions.specs.declared.table.PositionTable.{PositionTable}
use Rattle.positions.specs.Figures.{in_table}
use Rattle.positions.specs.Tables.{plans_of, readings_of, Planned as Plans, Read}
use Rattle.positions.proofs.Placed.{in_table_lem}
use Rattle.ordered.specs.Order as order
use Rattle.integers.specs.Places.{at_party}
use Rattle.notices.specs.declared.notice.Notice.{Notice}
use Rattle.notices.specs.declared.table.NoticeTable.{NoticeTable}
use Rattle.notices.specs.Order.{is_zero, notice_same}
use Rattle.notices.specs.Kept.{kept, place_for, with_notice}
use Rattle.notices.specs.Kept as notices
use Rattle.ladder.specs.declared.ladder.Ladder.{Ladder}
use Rattle.ladder.specs.declared.offer.Offer.{Offer}
use Rattle.ladder.specs.Ladder.{view, added, dropped, marked, taken, bids_of, first_free, has_space, is_free, standing_with}
use Rattle.ladder.proofs.Stands.{found_stands}
use Rattle.register.specs.declared.register.Register.{Register}
use Rattle.register.specs.Registered.{registered, register_row, with_activation}
use Rattle.pricing.specs.declared.Prices.{Prices}
use Rattle.rows.specs.Rows.{checked, plan_row, notice_row, bid_row, withdraw_row, hold_row, activate_row, special_row}
use Rattle.rows.proofs.Accepted.{plan_accepted, notice_accepted, bid_accepted, activate_accepted, special_accepted, reading_accepted}
use Rattle.rows.proofs.Checked.{refuses}
use Rattle.journal.specs.Figures.{Stage, Planned, Running, Figures}
use Rattle.journal.specs.Journal.{Entry, Entered, Clock, Plan, Noticed, BidAccepted, Withdrawn, Hold, Activated, Special, Reading, listed_of, with_taken, after}
use Rattle.journal.specs.Refused.{enter_refused, clock_refused, plan_refused, notice_refused, bid_refused, withdraw_refused, hold_refused, activate_refused, special_refused, reading_refused, is_settled}
use Rattle.journal.specs.Lawful.{Allowed}
use Rattle.book.specs.Parts.{figures_of, Sound}
use Rattle.book.specs.View.{Called}
use Rattle.book.proofs.Through.{Turned, turned}

some_stands : (t : Times) (o : Option Bid) → withdraw_row t o ≡ None → is_some o ≡ true
some_stands t None e = absurd (let z : ◌≡◌ {A = ℕ} 0 1 = cc in omega arith)
some_stands t (Some b) e = refl

-- a call that no row refuses
pub allowed : {X : Type 0} (row : Option Refusal) (entry : X → Entry) (x : X) (f g : Figures) → row ≡ None → Allowed (entry x) f → g ≡ after (entry x) f → Called row entry (Ok x) f g
allowed row entry x f g none a e = accepted row (g ≡ f) (λ x. Allowed (entry x) f × (g ≡ after (entry x) f)) x none (a, e)

-- a call that hands on what a check refuses
pub stopped : {X : Type 0} (row : Option Refusal) (entry : X → Entry) (refusal : Refusal) (result : Result X Refusal) (f : Figures) → IsErrAnd result (λ y. y ≡ refusal) → Err refusal ≡ checked row → Called row entry result f f
stopped row entry refusal result f returned e =
    let p = err_from_is_err_and result returned in
    rw (p.1, p.2) (refused row (f ≡ f) (λ x. Allowed (entry x) f × (f ≡ after (entry x) f)) refusal (refuses row refusal e) refl)

-- where a notice has a place, its table does not refuse it
placed : (zero room : Bool) → (zero || room) ≡ true → ◌≡◌ {A = Option Refusal} (cond zero None (cond room None (Some NoRoom))) None
placed true room e = refl
placed false true e = refl
placed false false e = cc

module _ {t : Timetable} {p : PositionTable} {n : NoticeTable} {l : Ladder} {r : Register} (sound : ∥ Sound t p n l r ∥₁) where
  -- the table has a place for every hour of the day and every entered party
  inside : (h q : ℕ) → h < (times t).opening.hours → q < (times t).parties → in_table h q ≡ true
  inside h q hour party =
      ∥∥₁_elim sound (Bool-set (in_table h q) true) (λ s. in_table_lem h q (omega (arith, hour, s.terms.opened.few_hours)) (omega (arith, party, s.terms.few_parties)))

  pub entered : (t' : Timetable) (result : Result Party Refusal)
      → Outcome (enter_row (times t)) result (times t' ≡ times t) (λ party. (party.0 ≡ (times t).parties) × (times t' ≡ with_party (times t)))
      → Turned Party enter_refused (λ party. Entered party.0) result t t' p p n n l l r r
  entered t' result o =
      turned sound Planned (λ _. refl) (λ stage settled. outcome_map (enter_row (times t)) result _ _ _ _ (λ e. cc) (λ party none d. ((none, d.0), let e = d.1 in cc)) o)

  pub clocked : (t' : Timetable) (x : ℤ) (result : Result Unit Refusal)
      → Outcome (clock_row (times t) x) result (times t' ≡ times t) (λ _. times t' ≡ with_clock x (times t))
      → Turned Unit (λ f. clock_refused f x) (λ _. Clock x) result t t' p p n n l l r r
  clocked t' x result o =
      turned sound Planned (λ _. inl refl) (λ stage settled. outcome_map (clock_row (times t) x) result _ _ _ _ (λ e. cc) (λ _ none d. (none, cc)) o)

  pub planned : (p' : PositionTable) (h q : ℕ) (x : ℤ) → plan_row (times t) h q x ≡ None → Plans h q x p p'
      → Turned Unit (λ f. plan_refused f h q x) (λ _. Plan h q x) (Ok tt) t t p p' n n l l r r
  planned p' h q x none d =
      let a = plan_accepted (times t) h q x none in
      let plans : plans_of p' ≡ at_party h q x (plans_of p) = d.plans ∙ cond-true (in_table h q) (at_party h q x (plans_of p)) (plans_of p) (inside h q a.hour a.party) in
      let produced = d.readings Production in
      let consumed = d.readings Consumption in
      turned sound Planned (λ _. inl refl) (λ stage settled.
      allowed (plan_row (times t) h q x) (λ _. Plan h q x) tt (figures_of stage settled t p n l r) (figures_of stage settled t p' n l r) none none cc)

  pub noticed : (n' : NoticeTable) (x : Notice) (result : Result Unit Refusal) → notice_row (times t) x (place_for x (kept n)) ≡ None
      → Outcome (notices.notice_row x (kept n)) result (kept n' ≡ kept n) (λ _. kept n' ≡ with_notice x (kept n))
      → Turned Unit (λ f. notice_refused f x) (λ _. Noticed x) result t t p p n n' l l r r
  noticed n' x result none o =
      let room = (notice_accepted (times t) x (place_for x (kept n)) none).has_room in
      turned sound Planned (λ _. inl refl) (λ stage settled.
      outcome_instead (notice_row (times t) x (place_for x (kept n))) (notices.notice_row x (kept n)) result _ _ _ _ none (placed (is_zero x) (nat_lt (length (kept n)) most_notices || order.held notice_same x (kept n)) room) (λ _ d. (none, cc)) o)

  pub metered : (stage : Stage) (settled : ℕ → Option Prices) (p' : PositionTable) (meter : Meter) (h q : ℕ) (x : ℤ) → reading_refused (figures_of stage settled t p n l r) h q x ≡ None → Read meter h q x p p'
      → Called {X = Unit} (reading_refused (figures_of stage settled t p n l r) h q x) (λ _. Reading h q meter x) (Ok tt) (figures_of stage settled t p n l r) (figures_of stage settled t p' n l r)
  metered stage settled p' meter h q x none d =
      let f : Figures = figures_of stage settled t p n l r in
      let a = reading_accepted (times t) h q x (is_settled f h) none in
      allowed {X = Unit} (reading_refused f h q x) (λ _. Reading h q meter x) tt f (figures_of stage settled t p' n l r) none none (by meter d (inside h q a.hour a.party))
    where
      by : (meter : Meter) → Read meter h q x p p' → in_table h q ≡ true → figures_of stage settled t p' n l r ≡ after (Reading h q meter x) (figures_of stage settled t p n l r)
      by Production d there =
          let plans = d.plans in
          let produced : readings_of Production p' ≡ at_party h q (Some x) (readings_of Production p) = d.reading ∙ cond-true (in_table h q) (at_party h q (Some x) (readings_of Production p)) (readings_of Production p) there in
          let consumed = d.other in
          cc
      by Consumption d there =
          let plans = d.plans in
          let consumed : readings_of Consumption p' ≡ at_party h q (Some x) (readings_of Consumption p) = d.reading ∙ cond-true (in_table h q) (at_party h q (Some x) (readings_of Consumption p)) (readings_of Consumption p) there in
          let produced = d.other in
          cc

  pub bidden : (l' : Ladder) (offer : Offer) (result : Result Receipt Refusal) → bid_row (times t) offer (has_space (view l)) ≡ None
      → result ≡ cond (has_space (view l)) (Ok (record { 0 = (view l).given + 1 })) (Err NoRoom) → view l' ≡ cond (has_space (view l)) (added offer (view l)) (view l)
      → Turned Receipt (λ f. bid_refused f offer) (λ receipt. BidAccepted offer receipt.0) result t t p p n n l l' r r
  bidden l' offer result none answer bids =
      let room = (bid_accepted (times t) offer (has_space (view l)) none).has_room in
      let receipt : Receipt = record { 0 = (view l).given + 1 } in
      let now : view l' ≡ added offer (view l) = bids ∙ cond-true (has_space (view l)) (added offer (view l)) (view l) room in
      turned sound Running (λ _. refl) (λ stage settled.
      let f : Figures = figures_of stage settled t p n l r in
      let g : Figures = figures_of stage settled t p n l' r in
      subst (λ z. Called (bid_row (times t) offer (has_space (view l))) (λ (x : Receipt). BidAccepted offer x.0) z f g) (sym (answer ∙ cond-true (has_space (view l)) (Ok receipt) (Err NoRoom) room))
      (allowed (bid_row (times t) offer (has_space (view l))) (λ (x : Receipt). BidAccepted offer x.0) receipt f g none (none, refl) cc))

  pub withdrawn : (l' : Ladder) (receipt : ℕ) → withdraw_row (times t) (standing_with receipt (view l)) ≡ None
      → view l' ≡ cond (is_some (standing_with receipt (view l))) (dropped receipt (view l)) (view l)
      → Turned Unit (λ f. withdraw_refused f receipt) (λ _. Withdrawn receipt) (Ok tt) t t p p n n l l' r r
  withdrawn l' receipt none bids =
      let o = standing_with receipt (view l) in
      let now : view l' ≡ dropped receipt (view l) = bids ∙ cond-true (is_some o) (dropped receipt (view l)) (view l) (some_stands (times t) o none) in
      turned sound Running (λ _. refl) (λ stage settled.
      allowed {X = Unit} (withdraw_row (times t) o) (λ _. Withdrawn receipt) tt (figures_of stage settled t p n l r) (figures_of stage settled t p n l' r) none none cc)

  pub held : (l' : Ladder) (receipt : ℕ) (hold : Bool) (result : Result Unit Refusal) → result ≡ ok_or (option_map (λ _. tt) (standing_with receipt (view l))) NoSuchBid
      → view l' ≡ cond (is_some (standing_with receipt (view l))) (marked receipt hold (view l)) (view l)
      → Turned Unit (λ f. hold_refused f receipt) (λ _. Hold receipt hold) result t t p p n n l l' r r
  held l' receipt hold result answer bids = turned sound Running (λ _. refl) (λ stage settled. by stage settled (standing_with receipt (view l)) answer bids)
    where
      by : (stage : Stage) (settled : ℕ → Option Prices) (o : Option Bid) → result ≡ ok_or (option_map (λ _. tt) o) NoSuchBid → view l' ≡ cond (is_some o) (marked receipt hold (view l)) (view l)
          → Outcome (hold_row o) result (figures_of stage settled t p n l' r ≡ figures_of stage settled t p n l r) (λ _. (hold_row o ≡ None) × (figures_of stage settled t p n l' r ≡ after (Hold receipt hold) (figures_of stage settled t p n l r)))
      by stage settled None a b = (a, cc)
      by stage settled (Some x) a b =
          subst (λ z. Outcome {X = Unit} None z (figures_of stage settled t p n l' r ≡ figures_of stage settled t p n l r) (λ _. (◌≡◌ {A = Option Refusal} None None) × (figures_of stage settled t p n l' r ≡ after (Hold receipt hold) (figures_of stage settled t p n l r)))) (sym a) (refl, cc)

  -- where there is room, the activation is entered
  registers : (r' : Register) (a : Activation) (result : Result Unit Refusal) → nat_lt (length (registered r)) most_activations ≡ true
      → Outcome (register_row (registered r)) result (registered r' ≡ registered r) (λ _. registered r' ≡ with_activation a (registered r)) → registered r' ≡ with_activation a (registered r)
  registers r' a result room o = outcome_done (register_row (registered r)) result _ _ (cond-true (nat_lt (length (registered r)) most_activations) None _ room) o

  pub activated : (l' : Ladder) (r' : Register) (hour : Position) (direction : Direction) (first last : ℕ) {o : Option Bid} {b : Bid} {a : Activation} (result : Result Unit Refusal)
      → activate_row (times t) hour.0 first last (nat_lt (length (registered r)) most_activations) (is_some (first_free hour.0 (bids_of direction (view l)))) ≡ None
      → o ≡ Some b → o ≡ first_free hour.0 (bids_of direction (view l)) → IfSome o (λ b. b.direction ≡ direction) → view l' ≡ taken o (view l)
      → a ≡ listed_of b hour first last
      → Outcome (register_row (registered r)) result (registered r' ≡ registered r) (λ _. registered r' ≡ with_activation a (registered r))
      → (energy : KilowattHours) → energy.0 ≡ pos (energy_of a)
      → Turned (Receipt × KilowattHours) (λ f. activate_refused f hour.0 direction first last) (λ x. Activated hour direction first last x.0.0 x.1.0) (Ok (b.receipt, energy)) t t p p n n l l' r r'
  activated l' r' hour direction first last {o} {b} {a} result none is first_one side bids terms outcome energy answer =
      let ok = activate_accepted (times t) hour.0 first last _ _ none in
      let more = registers r' a result ok.has_room outcome in
      let is_first_free = sym first_one ∙ is in
      let stands = found_stands (is_free hour.0) direction (view l) b l.once is_first_free in
      turned sound Running (λ _. refl) (λ stage settled.
      let f : Figures = figures_of stage settled t p n l r in
      let g : Figures = figures_of stage settled t p n l' r' in
      let now : g ≡ with_taken (Some b) hour first last f = cc in
      allowed (activate_refused f hour.0 direction first last) (λ (x : Receipt × KilowattHours). Activated hour direction first last x.0.0 x.1.0) (b.receipt, energy) f g none
      (none, record { bid = b; is_first_free = is_first_free; stands = stands; of_direction = rw is at side; answered = answer ∙ ap (λ a. pos (energy_of a)) terms })
      (now ∙ ap (λ o. with_taken o hour first last f) (sym stands)))

  pub specially : (r' : Register) (a : Activation) (energy : KilowattHours) (result : Result Unit Refusal)
      → special_row (times t) a (nat_lt (length (registered r)) most_activations) ≡ None → a.kind ≡ SpecialKind → energy.0 ≡ pos (energy_of a)
      → Outcome (register_row (registered r)) result (registered r' ≡ registered r) (λ _. registered r' ≡ with_activation a (registered r))
      → Turned KilowattHours (λ f. special_refused f a) (λ x. Special a x.0) (Ok energy) t t p p n n l l r r'
  specially r' a energy result none kind answer o =
      let more = registers r' a result (special_accepted (times t) a _ none).has_room o in
      turned sound Running (λ _. refl) (λ stage settled.
      let f : Figures = figures_of stage settled t p n l r in
      allowed (special_refused f a) (λ (x : KilowattHours). Special a x.0) energy f (figures_of stage settled t p n l r') none (none, kind, answer) cc)
