-- The three sums, over every run of sound calls.
use Rattle.std.proofs.Common.{◌≡◌, ℕ, ◌<◌, true, false, List, [], ◌∷◌, get_or, pos, neg_ℤ, Some, None, Option, sym, refl, ap, ◌∙◌, subst}
use Rattle.std.specs.List.{AllByRecursion}
use Rattle.std.proofs.ByRecursion.{All-weaker, All-get_or}
use Rattle.std.proofs.lemmas.Bool.{and_parts, eqb-true, false_from_ne_true, or_from}
use Rattle.market.specs.declared.words.Activation.{Activation}
use Rattle.market.specs.declared.words.Direction.{Direction}
use Rattle.market.specs.declared.words.Direction.TheVariants.{Up, Down}
use Rattle.market.specs.declared.words.Kind.{Kind}
use Rattle.market.specs.declared.words.Kind.TheVariants.{Listed, Special as SpecialKind}
use Rattle.market.specs.Figures.{price_setting_minutes}
use Rattle.market.specs.Words.{no_activation, no_bid}
use Rattle.register.specs.Totals.{of_hour, is_listed, listed}
use Rattle.market.specs.Words.{same_direction}
use Rattle.pricing.specs.declared.Prices.{Prices}
use Rattle.pricing.specs.Policies.{Regular, AroundTheOneWay}
use Rattle.facts.specs.Listed.{listed_in, went}
use Rattle.facts.specs.Sound.{SoundActivation, Sound}
use Rattle.facts.proofs.Reckoned.{regular_reckoned}
use Rattle.settlement.specs.Hour.{OwnActivations}
use Rattle.settlement.specs.HourLaws.{Balanced, NoneSpecial, NeverCosts}
use Rattle.settlement.proofs.EnergyLaw.{energy_sums}
use Rattle.settlement.proofs.MoneyLaw.{money_sums}
use Rattle.settlement.proofs.BalancedLaw.{all_one_way, never_costs}
use Rattle.integers.specs.Sums.{sum_to}
use Rattle.integers.proofs.Sums.{sum_to-same, sum_to-none, sum_to-neg, sum_to-swap}
use Rattle.journal.specs.Figures.{Figures, position, hour_at, facts_at}
use Rattle.journal.specs.Journal.{figures}
use Rattle.journal.specs.Reckoned.{due_to_party, taken, if_settled, settled_at, account, operator_account}
use Rattle.journal.specs.Sums.{OneWay, TheThreeSums, SumsOfSound}
use Rattle.journal.specs.Kept.{Kept}
use Rattle.journal.proofs.Sound.{lawful_is_sound}
use Rattle.journal.proofs.Grounds.{BidGrounds, ActivationGrounds, Grounds, grounds, grounds_of}
use Rattle.journal.proofs.Accounts.{booked_sum, opening_of, priced}

entered_own : (f : Figures) → Grounds f → (h : ℕ) → OwnActivations (hour_at f h)
entered_own f g h = All-weaker (ActivationGrounds f.opening f.parties) _ (λ a s _. s.entered) f.activations g.trades.1

-- what is due to all in an hour is minus what the operator takes there
pub hour_cancels : (f : Figures) → Grounds f → (h : ℕ) → sum_to f.parties (λ p. settled_at (due_to_party p) f h) ≡ neg_ℤ (settled_at taken f h)
hour_cancels f g h = by (f.settled h)
  where
    by : (o : Option Prices) → sum_to f.parties (λ p. if_settled o (λ prices. due_to_party p prices (facts_at f h) (hour_at f h))) ≡ neg_ℤ (if_settled o (λ prices. taken prices (facts_at f h) (hour_at f h)))
    by None = sum_to-none f.parties (λ p. pos 0) (λ p l. refl)
    by (Some prices) = money_sums price_setting_minutes (facts_at f h) (hour_at f h) prices (entered_own f g h)

listed_kind : (kind : Kind) → is_listed kind ≡ true → kind ≡ Listed
listed_kind Listed e = refl
listed_kind SpecialKind e = cc

sound : (f : Figures) → Grounds f → (h : ℕ) → h < f.opening.hours → Sound (f.opening.spot h) (position h) f.activations f.bids.up f.bids.down
sound f g h within =
    record {
      spot_within = g.spots h within;
      listed_sound = λ j l t.
          let a : Activation = get_or f.activations j no_activation in
          let s = All-get_or (ActivationGrounds f.opening f.parties) f.activations j no_activation l g.trades.1 in
          let is = and_parts (of_hour (position h) a) (is_listed a.kind) t in
          subst (λ n. SoundActivation (f.opening.spot n) a) (eqb-true a.hour.0 h is.0) (s.listed (listed_kind a.kind is.1));
      ups_within = λ j l _. (All-get_or (BidGrounds f.opening f.parties) f.bids.up j no_bid l g.trades.0.0).price_within;
      downs_within = λ j l _. (All-get_or (BidGrounds f.opening f.parties) f.bids.down j no_bid l g.trades.0.1).price_within;
    }

facts_regular : (f : Figures) → Grounds f → (h : ℕ) → h < f.opening.hours → Regular (facts_at f h)
unfolding facts_at
facts_regular f g h within = regular_reckoned price_setting_minutes (f.opening.spot h) (position h) f.activations f.bids.up f.bids.down (sound f g h within)

-- for who carries `Kept`
pub own : (f : Figures) → Kept f → (h : ℕ) → OwnActivations (hour_at f h)
own f k h = entered_own f (grounds_of f k) h

pub regular : (f : Figures) → Kept f → (h : ℕ) → h < f.opening.hours → Regular (facts_at f h)
regular f k h within = facts_regular f (grounds_of f k) h within

-- where all go one way, none is listed the other way
none_other : (h : ℕ) (d e : Direction) (xs : List Activation) → same_direction e d ≡ false → AllByRecursion (λ a. of_hour (position h) a ≡ true → (a.kind ≡ Listed) × (a.direction ≡ d)) xs → went (position h) e xs ≡ false
none_other h d e [] n all = refl
none_other h d e (a ∷ xs) n all = or_from _ _ (false_from_ne_true _ other) (none_other h d e xs n all.1)
  where
    other : listed_in (position h) e a ≡ true → ⊥
    other t =
        let p = and_parts (listed (position h) a) (same_direction e a.direction) t in
        let q = and_parts (of_hour (position h) a) (is_listed a.kind) p.0 in
        let one = all.0 q.0 in cc (p.1, one.1, n)

around : (f : Figures) → Grounds f → (h : ℕ) (prices : Prices) → f.settled h ≡ Some prices → AroundTheOneWay (facts_at f h) prices
around f g h prices e =
    let r = g.settlements.rules h prices e in
    subst (AroundTheOneWay (facts_at f h)) (sym r.is) (r.shows.one_way (facts_at f h) (facts_regular f g h (g.settlements.in_the_day h prices e)))

one_way : (f : Figures) → Grounds f → (h : ℕ) (prices : Prices) (d : Direction) → f.settled h ≡ Some prices → Balanced (hour_at f h) → OneWay d f h → NoneSpecial (hour_at f h)
    → NeverCosts price_setting_minutes (facts_at f h) prices (hour_at f h)
unfolding facts_at
one_way f g h prices Up e balanced one none =
    let all = all_one_way Up (hour_at f h) none one.1 in
    let lie = (around f g h prices e).0 (one.0, none_other h Up Down f.activations refl all) in
    never_costs price_setting_minutes (facts_at f h) (hour_at f h) Up prices (facts_at f h).up_price refl lie (entered_own f g h) balanced all
one_way f g h prices Down e balanced one none =
    let all = all_one_way Down (hour_at f h) none one.1 in
    let lie = (around f g h prices e).1 (none_other h Down Up f.activations refl all, one.0) in
    never_costs price_setting_minutes (facts_at f h) (hour_at f h) Down prices (facts_at f h).down_price refl lie (entered_own f g h) balanced all

pub sums_of_sound : SumsOfSound
sums_of_sound opening journal l =
    let f : Figures = figures opening journal in
    let g = grounds opening journal l in
    let n : ℕ = opening.hours in
    let stays : f.opening ≡ opening = opening_of opening journal in
    let accounts : (p : ℕ) → account opening journal p ≡ sum_to n (settled_at (due_to_party p) f) = λ p. booked_sum (due_to_party p) opening journal l in
    let operator : operator_account opening journal ≡ sum_to n (settled_at taken f) = booked_sum taken opening journal l in
    record {
      opening_stays = stays;
      policies = priced opening journal l;
      accounts = λ p. accounts p ∙ ap (λ o. sum_to o.hours (settled_at (due_to_party p) f)) (sym stays);
      energy = λ h. energy_sums (hour_at f h) (entered_own f g h);
      money =
          sum_to-same f.parties (account opening journal) (λ p. sum_to n (settled_at (due_to_party p) f)) (λ p _. accounts p)
          ∙ sum_to-swap f.parties n (λ p h. settled_at (due_to_party p) f h)
          ∙ sum_to-same n (λ h. sum_to f.parties (λ p. settled_at (due_to_party p) f h)) (λ h. neg_ℤ (settled_at taken f h)) (λ h _. hour_cancels f g h)
          ∙ sum_to-neg n (settled_at taken f)
          ∙ ap neg_ℤ (sym operator);
      operator = operator ∙ ap (λ o. sum_to o.hours (settled_at taken f)) (sym stays);
      balanced = one_way f g;
    }

pub three_sums_lem : TheThreeSums
three_sums_lem opening journal l = sums_of_sound opening journal (lawful_is_sound opening journal l)
