-- What every lawful call keeps, all limits among it.
use Rattle.std.proofs.Common.{◌≡◌, ℕ, suc, cond, ◌+◌, ◌<◌, ◌≤◌, Bool, true, false, eqb, List, [], ◌∷◌, length, pos, is_some, Some, filter, unwrap_or, sym, refl, ap, subst, arith}
use Rattle.std.specs.List.{AllByRecursion}
use Rattle.std.proofs.ByRecursion.{all_kept_by}
use Rattle.std.proofs.lemmas.List.{length-append}
use Rattle.std.proofs.lemmas.Bool.{cond_both, ltb-true}
use Rattle.std.proofs.lemmas.Int.{ints}
use Rattle.ladder.proofs.Keeps.{all_none}
use Rattle.ordered.specs.Order.{placed, without}
use Rattle.ordered.proofs.Lexical.{lex_order}
use Rattle.ordered.proofs.Placed.{all_placed}
use Rattle.ordered.proofs.Laws.{only_before}
use Rattle.market.specs.declared.words.Activation.{Activation}
use Rattle.market.specs.Figures.{plan_limit, reading_limit, most_activations}
use Rattle.market.specs.Order.{activation_key, activation_before}
use Rattle.notices.specs.declared.notice.Notice.{Notice}
use Rattle.notices.specs.Order.{notice_key, notice_before, notice_same, is_zero}
use Rattle.notices.specs.Kept.{with_notice}
use Rattle.positions.specs.declared.record.Meter.TheVariants.{Production, Consumption}
use Rattle.register.specs.Registered.{arrived, with_activation}
use Rattle.integers.specs.Places.{at, at_party}
use Rattle.settlement.specs.Bounds.{FromZero}
use Rattle.timetable.specs.Opening.{Opening}
use Rattle.journal.specs.Figures.{Figures, times_of}
use Rattle.journal.specs.Journal.{Entry, Entered, Plan, Noticed, BidAccepted, Activated, Special, Reading, listed_of, with_listed, Journal, after, figures}
use Rattle.journal.specs.Refused.{first_of, has_place}
use Rattle.journal.specs.Kept.{BidSound, ActivationSound, Terms, Energies, Kept}
use Rattle.journal.specs.Lawful.{Lawful, LawfulJournal}
use Rattle.journal.proofs.Accepted.{entering, planning, noticing, bidding, activating, has_room, specially, reading}
use Rattle.journal.proofs.Sound.{sound_entry}
use Rattle.journal.proofs.Trades.{Stays, Brings, trades_after}
use Rattle.journal.proofs.Grounds.{sound_arrived, taken_sound, settlements_after}
pub use Rattle.journal.proofs.Grounds.{none_settled}

lawful_stays : Stays BidSound ActivationSound
lawful_stays =
    record {
      bid_later = λ o n b s. record { in_the_day = s.in_the_day; entered = omega (arith, s.entered); enough = s.enough; most = s.most; price_within = s.price_within; side = s.side };
      bid_held = λ o n b held s. record { in_the_day = s.in_the_day; entered = s.entered; enough = s.enough; most = s.most; price_within = s.price_within; side = s.side };
      later = λ o n a s. record { entered = omega (arith, s.entered); fits = s.fits; listed = s.listed };
      numbered = λ o n k a s.
          record {
            entered = s.entered;
            fits = record { volume = s.fits.volume; minutes = s.fits.minutes; price = s.fits.price };
            listed = λ e. sound_arrived (o.spot a.hour.0) k a (s.listed e);
          };
    }

lawful_brings : (e : Entry) (f : Figures) → Lawful e f → Brings BidSound ActivationSound e f
lawful_brings (BidAccepted offer receipt) f l = bidding (times_of f) offer _ _ l.1.0
lawful_brings (Activated hour direction first last receipt energy) f l =
    let t = (sound_entry (Activated hour direction first last receipt energy) f l).1 in
    let ends = (activating (times_of f) hour.0 first last _ _ l.1.0).1 in (
      t.bid,
      t.stands,
      λ s.
          record {
            entered = s.entered;
            fits = record { volume = omega (arith, s.most); minutes = omega (arith, t.lasts, ends); price = s.price_within };
            listed = λ _. taken_sound f.opening t.bid hour first last s.price_within s.side s.enough t.of_the_hour (omega (arith, t.lasts));
          },
    )
lawful_brings (Special a energy) f l =
    let s = specially (times_of f) a (has_place f) l.1.0 in record { entered = s.0; fits = s.1; listed = λ e. cc (l.1.1, e) }
lawful_brings _ f l = tt

-- two tests that never both pass keep no more than there is
apart : {X : Type 0} (p q : X → Bool) → ((x : X) → p x ≡ true → q x ≡ false) → (xs : List X) → length (filter p xs) + length (filter q xs) ≤ length xs
apart p q h [] = omega arith
apart p q h (x ∷ xs) = by (p x) (q x) (h x) (apart p q h xs)
  where
    by : (b c : Bool) → (b ≡ true → c ≡ false) → length (filter p xs) + length (filter q xs) ≤ length xs → length (cond b (x ∷ filter p xs) (filter p xs)) + length (cond c (x ∷ filter q xs) (filter q xs)) ≤ suc (length xs)
    by true true n rest = cc (n refl)
    by true false n rest = omega arith
    by false true n rest = omega arith
    by false false n rest = omega arith

one_longer : (a : Activation) (xs : List Activation) → length xs < most_activations → length (with_activation a xs) ≤ most_activations
unfolding with_activation
one_longer a xs room =
    let b : Activation = arrived (length xs) a in
    let parts = length-append (filter (λ y. activation_before y b) xs) (b ∷ filter (λ y. activation_before b y) xs) in
    omega (arith, room, parts, apart (λ y. activation_before y b) (λ y. activation_before b y) (λ y before. (only_before (lex_order activation_key) y b before).1) xs)

few_after : (e : Entry) (f : Figures) → Lawful e f → length f.activations ≤ most_activations → length (after e f).activations ≤ most_activations
few_after (Activated hour direction first last receipt energy) f l few =
    let t = l.1.1 in
    let room = has_room (times_of f) hour.0 first last (has_place f) (is_some (first_of f hour.0 direction)) l.1.0 (ap is_some t.is_first_free) in
    subst (λ o. length (with_listed o hour first last f.activations) ≤ most_activations) (sym t.stands)
    (one_longer (listed_of t.bid hour first last) f.activations (ltb-true (length f.activations) most_activations room))
few_after (Special a energy) f l few = one_longer a f.activations (ltb-true (length f.activations) most_activations (specially (times_of f) a (has_place f) l.1.0).2)
few_after _ f l few = few

terms_after : (e : Entry) (f : Figures) → Lawful e f → Terms f.opening f.parties → Terms (after e f).opening (after e f).parties
terms_after (Entered p) f l t = record { opened = t.opened; few_parties = omega (arith, entering (times_of f) l.1.0) }
terms_after _ f l t = t

at_party_lem : {X : Type 0} (P : X → Type 0) (h p : ℕ) (x : X) (f : ℕ → ℕ → X) → P x → ((k q : ℕ) → P (f k q)) → (k q : ℕ) → P (at_party h p x f k q)
at_party_lem P h p x f new old k q =
    cond_both (eqb k h) (at p x (f h)) (f k) (λ g. P (g q)) (λ _. cond_both (eqb q p) x (f h q) P (λ _. new) (λ _. old h q)) (λ _. old k q)

notices_after : (P : Notice → Type 0) (n : Notice) (notices : List Notice) → P n → AllByRecursion P notices → AllByRecursion P (with_notice n notices)
unfolding with_notice
notices_after P n notices new old =
    cond_both (is_zero n) (without notice_same n notices) (placed notice_before n notices) (AllByRecursion P) (λ _. all_kept_by _ P notices old) (λ _. all_placed (lex_order notice_key) P notices n new old)

energies_after : (e : Entry) (f : Figures) → Lawful e f → Energies f.plans f.notices f.produced f.consumed
    → Energies (after e f).plans (after e f).notices (after e f).produced (after e f).consumed
energies_after (Plan h p x) f l e =
    record { plans_fit = at_party_lem (FromZero plan_limit) h p x f.plans (planning (times_of f) h p x l.1) e.plans_fit; notices_fit = e.notices_fit; produced_fit = e.produced_fit; consumed_fit = e.consumed_fit }
energies_after (Noticed n) f l e =
    record { plans_fit = e.plans_fit; notices_fit = notices_after _ n f.notices (noticing (times_of f) n _ l.1) e.notices_fit; produced_fit = e.produced_fit; consumed_fit = e.consumed_fit }
energies_after (Reading h p Production x) f l e =
    record { plans_fit = e.plans_fit; notices_fit = e.notices_fit; produced_fit = at_party_lem (λ o. FromZero reading_limit (unwrap_or o (pos 0))) h p (Some x) f.produced (reading (times_of f) h p x _ l.1).0 e.produced_fit; consumed_fit = e.consumed_fit }
energies_after (Reading h p Consumption x) f l e =
    record { plans_fit = e.plans_fit; notices_fit = e.notices_fit; produced_fit = e.produced_fit; consumed_fit = at_party_lem (λ o. FromZero reading_limit (unwrap_or o (pos 0))) h p (Some x) f.consumed (reading (times_of f) h p x _ l.1).0 e.consumed_fit }
energies_after _ f l e = e

pub kept_after : (e : Entry) (f : Figures) → Kept f → Lawful e f → Kept (after e f)
kept_after e f k l =
    let all = trades_after BidSound ActivationSound lawful_stays e f (lawful_brings e f l) (k.trades.standing, k.trades.activated) in
    record {
      terms = terms_after e f l k.terms;
      energies = energies_after e f l k.energies;
      trades = record { standing = all.0; activated = all.1; few = few_after e f l k.trades.few };
      settlements = settlements_after e f k.settlements (sound_entry e f l);
    }

pub kept : (opening : Opening) (journal : Journal) → LawfulJournal opening journal → Kept (figures opening journal)
kept opening [] l =
    record {
      terms = record { opened = l; few_parties = omega arith };
      energies = record { plans_fit = λ h p. nothing; notices_fit = tt; produced_fit = λ h p. nothing; consumed_fit = λ h p. nothing };
      trades = record { standing = all_none (BidSound opening 0); activated = tt; few = omega arith };
      settlements = none_settled _ (λ h. refl);
    }
  where
    nothing : {n : ℕ} → FromZero n (pos 0)
    nothing = record { low = omega (arith, ints); high = omega (arith, ints) }
kept opening (entry ∷ journal) l = kept_after entry (figures opening journal) (kept opening journal l.0) l.1
