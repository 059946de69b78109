-- What the law of the sums rests on, and that sound calls keep it.
use Rattle.std.proofs.Common.{◌≡◌, ℕ, ◌<◌, ◌≤◌, ◌⊎◌, [], ◌∷◌, Some, None, Option, sym, refl, ap, ◌∙◌, subst, inl, inr, ⊎_elim, arith}
use Rattle.std.proofs.ByRecursion.{All-weaker}
use Rattle.std.proofs.lemmas.Bool.{cases_eq, eq-eqb, ne_eqb}
use Rattle.market.specs.declared.words.Activation.{Activation}
use Rattle.market.specs.declared.words.Bid.{Bid}
use Rattle.market.specs.declared.words.Kind.TheVariants.{Listed}
use Rattle.units.specs.declared.Position.{Position}
use Rattle.units.specs.declared.Price.{Price}
use Rattle.market.specs.Figures.{least_bid_volume, price_limit}
use Rattle.timetable.specs.Opening.{Opening}
use Rattle.ladder.proofs.Keeps.{all_none}
use Rattle.register.specs.Registered.{arrived}
use Rattle.pricing.specs.declared.Prices.{Prices}
use Rattle.pricing.specs.Policies.{Within}
use Rattle.facts.specs.Sound.{OnItsSide, SoundActivation}
use Rattle.integers.specs.Places.{at}
use Rattle.journal.specs.Figures.{Stage, Metered, Figures, facts_at}
use Rattle.journal.specs.Journal.{Entry, Journal, Entered, Plan, Noticed, Clock, BidAccepted, Activated, Special, Reading, Settled, listed_of, after, figures}
use Rattle.journal.specs.Kept.{BidSound, Settlements, Kept}
use Rattle.journal.specs.Lawful.{SpotsWithin, Early, InStage}
use Rattle.journal.specs.Sound.{SoundEntry, SoundJournal}
use Rattle.journal.proofs.Trades.{Stays, AllTrades, Brings, trades_after}

-- no call changes what the day was opened with
pub opening_stays : (e : Entry) (f : Figures) → (after e f).opening ≡ f.opening
opening_stays (Entered p) f = refl
opening_stays _ f = refl

-- readings and settlings alone belong to a metered day
abbrev OfMetered : Entry → Type 0
OfMetered (Reading h p meter x) = Unit
OfMetered (Settled h m) = Unit
OfMetered _ = ⊥

not_metered : {X : Type 0} (s : Stage) → Early s → s ≡ Metered → X
not_metered s early m = ⊎_elim (λ p. cc (p, m)) (λ r. cc (r, m)) early

pub of_metered : (e : Entry) (s : Stage) → InStage e s → s ≡ Metered → OfMetered e
of_metered (Plan h p x) s l m = not_metered s l m
of_metered (Noticed n) s l m = not_metered s l m
of_metered (Clock t) s l m = not_metered s l m
of_metered (Reading h p meter x) s l m = tt
of_metered (Settled h n) s l m = tt
of_metered _ s l m = cc (l, m)

-- settlements

-- where nothing is settled
pub none_settled : (f : Figures) → ((h : ℕ) → f.settled h ≡ None) → Settlements f
none_settled f none =
    record {
      unsettled = λ _. none;
      rules = λ h prices e. cc (none h, e);
      in_the_day = λ h prices e. cc (none h, e);
    }

-- an hour that is settled newly, and those that were
settled_cases : {X : Type 0} (h k : ℕ) (m n : X) (old : ℕ → Option X) → at h (Some m) old k ≡ Some n → ((k ≡ h) × (m ≡ n)) ⊎ (old k ≡ Some n)
settled_cases h k m n old e =
    ⊎_elim
    (λ same. let new = rw (eq-eqb k h same) at e in inl (same, cc (new)))
    (λ other. inr (rw (ne_eqb k h other) at e))
    (cases_eq k h)

pub settlements_after : (e : Entry) (f : Figures) → Settlements f → SoundEntry e f → Settlements (after e f)
unfolding facts_at
settlements_after (Reading h p meter x) f s l =
    record {
      unsettled = λ n. absurd (n l.0);
      rules = λ j prices e. let r = s.rules j prices e in record { meaning = r.meaning; shows = r.shows; is = r.is };
      in_the_day = s.in_the_day;
    }
settlements_after (Settled h m) f s l =
    let prices : Prices = m (facts_at f h) in
    record {
      unsettled = λ n. absurd (n l.0);
      rules = λ j n e.
          ⊎_elim
          (λ same. record { meaning = m; shows = l.1.2; is = sym same.1 ∙ ap (λ k. m (facts_at f k)) (sym same.0) })
          (λ old. let r = s.rules j n old in record { meaning = r.meaning; shows = r.shows; is = r.is })
          (settled_cases h j prices n f.settled e);
      in_the_day = λ j n e. ⊎_elim (λ same. omega (arith, same.0, l.1.1)) (λ old. s.in_the_day j n old) (settled_cases h j prices n f.settled e);
    }
settlements_after e f s l = none_settled _ (s.unsettled (of_metered e f.stage l.0))

-- the grounds of the law

pub record BidGrounds (o : Opening) (n : ℕ) (b : Bid) : Type 0 where
  pub entered : b.party.0 < n
  pub enough : least_bid_volume ≤ b.volume.0
  pub price_within : Within price_limit b.price
  pub side : OnItsSide b.direction (o.spot b.hour.0) b.price

pub record ActivationGrounds (o : Opening) (n : ℕ) (a : Activation) : Type 0 where
  pub entered : a.party.0 < n
  pub listed : a.kind ≡ Listed → SoundActivation (o.spot a.hour.0) a

pub record Grounds (f : Figures) : Type 0 where
  pub spots : SpotsWithin f.opening
  pub trades : AllTrades BidGrounds ActivationGrounds f
  pub settlements : Settlements f

pub sound_arrived : (spot : Price) (k : ℕ) (a : Activation) → SoundActivation spot a → SoundActivation spot (arrived k a)
sound_arrived spot k a s = record { price_within = s.price_within; side = s.side; enough = s.enough; lasts = s.lasts }

grounds_stay : Stays BidGrounds ActivationGrounds
grounds_stay =
    record {
      bid_later = λ o n b s. record { entered = omega (arith, s.entered); enough = s.enough; price_within = s.price_within; side = s.side };
      bid_held = λ o n b held s. record { entered = s.entered; enough = s.enough; price_within = s.price_within; side = s.side };
      later = λ o n a s. record { entered = omega (arith, s.entered); listed = s.listed };
      numbered = λ o n k a s. record { entered = s.entered; listed = λ e. sound_arrived (o.spot a.hour.0) k a (s.listed e) };
    }

-- a bid that is taken gives a sound activation
pub taken_sound : (o : Opening) (b : Bid) (hour : Position) (first last : ℕ) → Within price_limit b.price → OnItsSide b.direction (o.spot b.hour.0) b.price → least_bid_volume ≤ b.volume.0 → b.hour.0 ≡ hour.0 → first < last → SoundActivation (o.spot hour.0) (listed_of b hour first last)
taken_sound o b hour first last within side enough e lasts =
    record { price_within = within; side = subst (λ h. OnItsSide b.direction (o.spot h) b.price) e side; enough = omega (arith, enough); lasts = lasts }

sound_brings : (e : Entry) (f : Figures) → SoundEntry e f → Brings BidGrounds ActivationGrounds e f
sound_brings (BidAccepted offer receipt) f l = let s = l.1.0 in record { entered = s.entered; enough = s.enough; price_within = s.price_within; side = s.side }
sound_brings (Activated hour direction first last receipt energy) f l =
    let t = l.1 in (t.bid, t.stands, λ s. record { entered = s.entered; listed = λ _. taken_sound f.opening t.bid hour first last s.price_within s.side s.enough t.of_the_hour (omega (arith, t.lasts)) })
sound_brings (Special a energy) f l = record { entered = l.1.1; listed = λ e. cc (l.1.0, e) }
sound_brings _ f l = tt

grounds_after : (e : Entry) (f : Figures) → Grounds f → SoundEntry e f → Grounds (after e f)
grounds_after e f g l =
    record {
      spots = subst SpotsWithin (sym (opening_stays e f)) g.spots;
      trades = trades_after BidGrounds ActivationGrounds grounds_stay e f (sound_brings e f l) g.trades;
      settlements = settlements_after e f g.settlements l;
    }

pub grounds : (opening : Opening) (journal : Journal) → SoundJournal opening journal → Grounds (figures opening journal)
grounds opening [] l = record { spots = l; trades = (all_none (BidGrounds opening 0), tt); settlements = none_settled _ (λ h. refl) }
grounds opening (e ∷ journal) l = grounds_after e (figures opening journal) (grounds opening journal l.0) l.1

pub grounds_of : (f : Figures) → Kept f → Grounds f
grounds_of f k =
    record {
      spots = k.terms.opened.spots;
      trades = (
        (All-weaker _ _ bid f.bids.up k.trades.standing.0, All-weaker _ _ bid f.bids.down k.trades.standing.1),
        All-weaker _ _ (λ a s. record { entered = s.entered; listed = s.listed }) f.activations k.trades.activated,
      );
      settlements = k.settlements;
    }
  where
    bid : (b : Bid) → BidSound f.opening f.parties b → BidGrounds f.opening f.parties b
    bid b s = record { entered = s.entered; enough = s.enough; price_within = s.price_within; side = s.side }
