-- A book just opened.
use Rattle.std.proofs.Common.{◌≡◌, ℕ, List, [], ℤ, pos, Some, None, Option, unwrap_or, sym, refl, ap, ◌∙◌, subst, arith}
use Rattle.std.proofs.lemmas.Int.{ints}
use Rattle.market.specs.Figures.{reading_limit}
use Rattle.timetable.specs.declared.timetable.Timetable.{Timetable}
use Rattle.timetable.specs.Opening.{Times, Opening, opened_by}
use Rattle.timetable.specs.View.{times}
use Rattle.timetable.proofs.Bounded.{bounded}
use Rattle.positions.specs.declared.record.Meter.TheVariants.{Production, Consumption}
use Rattle.positions.specs.declared.table.PositionTable.{PositionTable}
use Rattle.positions.specs.Tables.{plans_of, readings_of, Empty}
use Rattle.notices.specs.declared.notice.Notice.{Notice}
use Rattle.notices.specs.declared.table.NoticeTable.{NoticeTable}
use Rattle.notices.specs.Kept.{kept}
use Rattle.ladder.specs.declared.ladder.Ladder.{Ladder}
use Rattle.ladder.specs.Ladder.{StandingBids, view, no_bids}
use Rattle.ladder.proofs.Keeps.{all_none}
use Rattle.market.specs.declared.words.Activation.{Activation}
use Rattle.refusal.specs.declared.Refusal.{Refusal}
use Rattle.register.specs.declared.register.Register.{Register}
use Rattle.register.specs.Registered.{registered}
use Rattle.settlement.specs.Bounds.{FromZero}
use Rattle.journal.specs.Figures.{Planned, Figures, opened}
use Rattle.journal.specs.Lawful.{LawfulOpening}
use Rattle.journal.specs.Kept.{BidSound, Energies, Trades}
use Rattle.book.specs.Parts.{figures_of, Sound}

-- what any timetable was opened with is lawful
pub lawful_opening : (t : Timetable) → LawfulOpening (times t).opening
lawful_opening t = let b = bounded t in record { few_hours = b.hours_most; spots = λ h _. let w = b.spot_within h in record { low = w.low; high = w.high } }

nothing : (n : ℕ) (x : ℤ) → x ≡ pos 0 → FromZero n x
nothing n x e = record { low = omega (arith, ints, e); high = omega (arith, ints, e) }

none_read : (f : ℕ → ℕ → Option ℤ) → f ≡ (λ h p. None) → (h p : ℕ) → FromZero reading_limit (unwrap_or (f h p) (pos 0))
none_read f e h p = nothing reading_limit _ (ap (λ g. unwrap_or (g h p) (pos 0)) e)

pub opened_sound : (t : Timetable) (p : PositionTable) (n : NoticeTable) (l : Ladder) (r : Register) → Empty p → kept n ≡ [] → view l ≡ no_bids → registered r ≡ [] → Sound t p n l r
opened_sound t p n l r empty none bids activations =
    record {
      terms = record { opened = lawful_opening t; few_parties = t.entered };
      energies =
          subst (λ ns. Energies (plans_of p) ns (readings_of Production p) (readings_of Consumption p)) (sym none)
          (record {
            plans_fit = λ h q. nothing _ _ (ap (λ f. f h q) empty.plans);
            notices_fit = tt;
            produced_fit = none_read (readings_of Production p) (empty.readings Production);
            consumed_fit = none_read (readings_of Consumption p) (empty.readings Consumption);
          });
      trades =
          subst (λ s. Trades (times t).opening (times t).parties s (registered r)) (sym bids)
          (subst (λ xs. Trades (times t).opening (times t).parties no_bids xs) (sym activations) (record { standing = all_none (BidSound (times t).opening (times t).parties); activated = tt; few = omega arith }));
    }

figures_with : Times → (ℕ → ℕ → ℤ) → List Notice → StandingBids → List Activation → (ℕ → ℕ → Option ℤ) → (ℕ → ℕ → Option ℤ) → Figures
figures_with t plans notices bids activations produced consumed =
    record {
      opening = t.opening;
      stage = Planned;
      clock = t.clock;
      parties = t.parties;
      plans = plans;
      notices = notices;
      bids = bids;
      activations = activations;
      produced = produced;
      consumed = consumed;
      settled = λ h. None;
    }

none : ℕ → ℕ → Option ℤ
none h p = None

fresh : Times → Figures
fresh t = figures_with t (λ h p. pos 0) [] no_bids [] none none

opened_by_lem : (o : Option Refusal) (opening : Opening) → fresh (opened_by o opening) ≡ opened (opened_by o opening).opening
unfolding fresh none figures_with
opened_by_lem None opening = refl
opened_by_lem (Some refusal) opening = refl

pub opened_shown : (t : Timetable) (p : PositionTable) (n : NoticeTable) (l : Ladder) (r : Register) (o : Option Refusal) (opening : Opening) → times t ≡ opened_by o opening → Empty p → kept n ≡ [] → view l ≡ no_bids → registered r ≡ []
    → figures_of Planned (λ h. None) t p n l r ≡ opened (opened_by o opening).opening
unfolding fresh none figures_with
opened_shown t p n l r o opening is empty notices bids activations =
    ap (λ x. figures_with x (plans_of p) (kept n) (view l) (registered r) (readings_of Production p) (readings_of Consumption p)) is
    ∙ ap (λ x. figures_with (opened_by o opening) x (kept n) (view l) (registered r) (readings_of Production p) (readings_of Consumption p)) empty.plans
    ∙ ap (λ x. figures_with (opened_by o opening) (λ h q. pos 0) x (view l) (registered r) (readings_of Production p) (readings_of Consumption p)) notices
    ∙ ap (λ x. figures_with (opened_by o opening) (λ h q. pos 0) [] x (registered r) (readings_of Production p) (readings_of Consumption p)) bids
    ∙ ap (λ x. figures_with (opened_by o opening) (λ h q. pos 0) [] no_bids x (readings_of Production p) (readings_of Consumption p)) activations
    ∙ ap (λ x. figures_with (opened_by o opening) (λ h q. pos 0) [] no_bids [] x (readings_of Consumption p)) (empty.readings Production)
    ∙ ap (λ x. figures_with (opened_by o opening) (λ h q. pos 0) [] no_bids [] none x) (empty.readings Consumption)
    ∙ opened_by_lem o opening
