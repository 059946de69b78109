-- The records of a table once one of them is written.
use Rattle.std.proofs.Common.{◌≡◌, ℕ, ◌<◌, true, false, cond, eqb, ltb, List, [], length, get_or, set, replicate, pos, Some, None, vec_items, Option, option_copied, option_map, unwrap_or, Bor, sym, refl, ap, ◌∙◌, ⊎_elim, arith, get_or-set_other, get_or-set_same}
use mathlib.Core.Path.{fun_ext}
use Rattle.std.proofs.lemmas.List.{get_or_past, get_or_read, get_or-replicate, length-replicate, same_lists}
use Rattle.std.proofs.lemmas.Bool.{and_from, and_parts, both_ways, cases_eq, cases_lt, cond_both, cond-false, cond-true, eq-eqb, lt-ltb, ltb-true, ne_eqb}
use Rattle.std.proofs.lemmas.Option.{none-some}
use Rattle.std.specs.Array.{AllZipBelow}
use Rattle.std.specs.Option.{MatchOption, UnwrapsOrElse}
use Rattle.std.specs.Slice.{IsItemAt}
use Rattle.units.specs.declared.KilowattHours.{KilowattHours}
use Rattle.market.specs.Figures.{most_hours, most_parties}
use Rattle.integers.specs.Places.{at, at_party}
use Rattle.positions.specs.declared.record.Meter.{Meter}
use Rattle.positions.specs.declared.record.Meter.TheVariants.{Production, Consumption}
use Rattle.positions.specs.declared.record.PositionRecord.{PositionRecord}
use Rattle.positions.specs.declared.table.PositionTable.{PositionTable}
use Rattle.positions.specs.Figures.{in_table}
use Rattle.positions.specs.Records.{no_record, plan_in, reading_in, with_reading}
use Rattle.positions.specs.Tables.{records_of, plans_of, readings_of, other_meter, put, Empty, Planned, Read}

pub within : (h p : ℕ) → in_table h p ≡ true → (h < 25) × (p < 32)
within h p i = let both = and_parts (ltb h 25) (ltb p 32) i in (ltb-true h 25 both.0, ltb-true p 32 both.1)

pub in_table_lem : (h p : ℕ) → h < most_hours → p < most_parties → in_table h p ≡ true
in_table_lem h p l m = and_from (ltb h most_hours) (ltb p most_parties) (lt-ltb h most_hours l) (lt-ltb p most_parties m)

pub put_within : {X : Type 0} (h p : ℕ) (x : X) (f : ℕ → ℕ → X) → h < most_hours → p < most_parties → put h p x f ≡ at_party h p x f
put_within h p x f l m = cond-true (in_table h p) (at_party h p x f) f (in_table_lem h p l m)

-- at the place itself, and at any other
module _ {X : Type 0} (h p : ℕ) (x : X) (f : ℕ → ℕ → X) where
  pub at_here : (k q : ℕ) → k ≡ h → q ≡ p → at_party h p x f k q ≡ x
  at_here k q e d =
      ap (λ (g : ℕ → X). g q) (cond-true (eqb k h) (at p x (f h)) (f k) (eq-eqb k h e)) ∙ cond-true (eqb q p) x (f h q) (eq-eqb q p d)

  pub at_other_party : (k q : ℕ) → k ≡ h → (q ≡ p → ⊥) → at_party h p x f k q ≡ f k q
  at_other_party k q e d =
      ap (λ (g : ℕ → X). g q) (cond-true (eqb k h) (at p x (f h)) (f k) (eq-eqb k h e)) ∙ (cond-false (eqb q p) x (f h q) (ne_eqb q p d) ∙ ap (λ j. f j q) (sym e))

  pub at_other_hour : (k q : ℕ) → (k ≡ h → ⊥) → at_party h p x f k q ≡ f k q
  at_other_hour k q e = ap (λ (g : ℕ → X). g q) (cond-false (eqb k h) (at p x (f h)) (f k) (ne_eqb k h e))

  -- what is the case at the place, and elsewhere
  pub by_place : (g : ℕ → ℕ → X) → g h p ≡ x → ((k q : ℕ) → ((k ≡ h) × (q ≡ p) → ⊥) → g k q ≡ f k q) → g ≡ at_party h p x f
  by_place g here elsewhere =
      fun_ext (λ k. fun_ext (λ q.
      ⊎_elim
      (λ e. ⊎_elim
      (λ d. (ap (λ j. g j q) e ∙ ap (g h) d) ∙ (here ∙ sym (at_here k q e d)))
      (λ d. elsewhere k q (λ b. d b.1) ∙ sym (at_other_party k q e d))
      (cases_eq q p))
      (λ e. elsewhere k q (λ b. e b.0) ∙ sym (at_other_hour k q e))
      (cases_eq k h)))

  pub elsewhere : (k q : ℕ) → ((k ≡ h) × (q ≡ p) → ⊥) → at_party h p x f k q ≡ f k q
  elsewhere k q apart =
      ⊎_elim (λ e. ⊎_elim (λ d. absurd (apart (e, d))) (λ d. at_other_party k q e d) (cases_eq q p)) (λ e. at_other_hour k q e) (cases_eq k h)

  pub unchanged : f h p ≡ x → at_party h p x f ≡ f
  unchanged same = sym (by_place f same (λ k q _. refl))

-- a part of what is at each place
pub through : {X Y : Type 0} (g : X → Y) (h p : ℕ) (x : X) (f : ℕ → ℕ → X) → (λ k q. g (at_party h p x f k q)) ≡ at_party h p (g x) (λ k q. g (f k q))
through g h p x f =
    by_place h p (g x) (λ k q. g (f k q)) (λ k q. g (at_party h p x f k q)) (ap g (at_here h p x f h p refl refl))
    (λ k q apart. ap g (elsewhere h p x f k q apart))

-- what a write changes in a record, and what it keeps
abbrev pub with_plan : KilowattHours → PositionRecord → PositionRecord
with_plan x r = record { plan = x; produced = r.produced; consumed = r.consumed }

readings_kept : (m : Meter) (x : KilowattHours) (s : PositionRecord) → reading_in m s ≡ reading_in m (with_plan x s)
readings_kept Production x s = refl
readings_kept Consumption x s = refl

reading_here : (m : Meter) (x : KilowattHours) (s : PositionRecord) → reading_in m (with_reading m x s) ≡ Some x.0
reading_here Production x s = refl
reading_here Consumption x s = refl

reading_other : (m : Meter) (x : KilowattHours) (s : PositionRecord) → reading_in (other_meter m) s ≡ reading_in (other_meter m) (with_reading m x s)
reading_other Production x s = refl
reading_other Consumption x s = refl

none_read : (m : Meter) → reading_in m no_record ≡ None
none_read Production = refl
none_read Consumption = refl

plan_kept : (m : Meter) (x : KilowattHours) (s : PositionRecord) → plan_in s ≡ plan_in (with_reading m x s)
plan_kept Production x s = refl
plan_kept Consumption x s = refl

all_there : (t : PositionTable) → length (vec_items t.hours) ≡ most_hours
all_there t = sym t.hours.ok.0 ∙ t.full

in_rows : List (List PositionRecord) → ℕ → ℕ → PositionRecord
in_rows rows k q = get_or (get_or rows k []) q no_record

-- the rows with one record written, of a row that is long enough
row_written : (rows : List (List PositionRecord)) (row : List PositionRecord) (h p : ℕ) (r : PositionRecord) → row ≡ get_or rows h row → h < length rows → p < length row → in_rows (set rows h (set row p r)) ≡ at_party h p r (in_rows rows)
unfolding in_rows
row_written rows row h p r is there long =
    let at_row = get_or-set_same rows h (set row p r) [] there in
    let was = get_or_read rows h row there is [] in
    by_place h p r (in_rows rows) (in_rows (set rows h (set row p r)))
    (ap (λ ys. get_or ys p no_record) at_row ∙ get_or-set_same row p r no_record long)
    (λ k q apart.
    ⊎_elim
    (λ e. ap (λ j. get_or (get_or (set rows h (set row p r)) j []) q no_record) e ∙ ap (λ ys. get_or ys q no_record) at_row ∙ get_or-set_other row p q r no_record (λ d. apart (e, d)) ∙ ap (λ ys. get_or ys q no_record) was ∙ ap (λ j. get_or (get_or rows j []) q no_record) (sym e))
    (λ e. ap (λ ys. get_or ys q no_record) (get_or-set_other rows h k (set row p r) [] e))
    (cases_eq k h))

module _ (t after : PositionTable) (h p : ℕ) (row : List PositionRecord) (r : PositionRecord) (i : in_table h p ≡ true) (is-row : row ≡ get_or (vec_items t.hours) h row) (items : vec_items after.hours ≡ set (vec_items t.hours) h (set row p r)) where
  -- the records after a write to one
  pub written : records_of after ≡ at_party h p r (records_of t)
  unfolding records_of in_rows
  written =
      let there : h < length (vec_items t.hours) = omega (arith, all_there t, within h p i) in
      let long : p < length row = omega (arith, ap length is-row, t.even h row there, within h p i) in
      let now : in_rows (vec_items after.hours) ≡ at_party h p r (in_rows (vec_items t.hours)) = ap in_rows items ∙ row_written (vec_items t.hours) row h p r is-row there long in
      by_place h p r (records_of t) (records_of after)
      (cond-true (in_table h p) (in_rows (vec_items after.hours) h p) no_record i ∙ ap (λ (f : ℕ → ℕ → PositionRecord). f h p) now ∙ at_here h p r (in_rows (vec_items t.hours)) h p refl refl)
      (λ k q apart. ap (λ z. cond (in_table k q) z no_record) (ap (λ (f : ℕ → ℕ → PositionRecord). f k q) now ∙ elsewhere h p r (in_rows (vec_items t.hours)) k q apart))

  -- a part of the records after it, where the write changed that part, and where not
  part : {Y : Type 0} (g : PositionRecord → Y) → (λ k q. g (records_of after k q)) ≡ at_party h p (g r) (λ k q. g (records_of t k q))
  part g = ap (λ (f : ℕ → ℕ → PositionRecord). (λ k q. g (f k q))) written ∙ through g h p r (records_of t)

  part_put : {Y : Type 0} (g : PositionRecord → Y) → (λ k q. g (records_of after k q)) ≡ put h p (g r) (λ k q. g (records_of t k q))
  part_put g = part g ∙ sym (cond-true (in_table h p) (at_party h p (g r) (λ k q. g (records_of t k q))) (λ k q. g (records_of t k q)) i)

  part_kept : {Y : Type 0} (g : PositionRecord → Y) → g (records_of t h p) ≡ g r → ◌≡◌ {A = ℕ → ℕ → Y} (λ k q. g (records_of after k q)) (λ k q. g (records_of t k q))
  part_kept g same = part g ∙ unchanged h p (g r) (λ k q. g (records_of t k q)) same

  pub planned : (x : KilowattHours) → r ≡ with_plan x (records_of t h p) → Planned h p x.0 t after
  planned x is =
      record {
        plans = part_put plan_in ∙ ap (λ z. put h p z (plans_of t)) (ap plan_in is);
        readings = λ m. part_kept (reading_in m) (readings_kept m x (records_of t h p) ∙ ap (reading_in m) (sym is));
      }

  pub was_read : (m : Meter) (x : KilowattHours) → r ≡ with_reading m x (records_of t h p) → Read m h p x.0 t after
  was_read m x is =
      let s = records_of t h p in
      record {
        plans = part_kept plan_in (plan_kept m x s ∙ ap plan_in (sym is));
        reading = part_put (reading_in m) ∙ ap (λ z. put h p z (readings_of m t)) (ap (reading_in m) is ∙ reading_here m x s);
        other = part_kept (reading_in (other_meter m)) (reading_other m x s ∙ ap (reading_in (other_meter m)) (sym is));
      }

-- the record that stands at the place, and none outside the table
pub record_read : (t : PositionTable) (h p : ℕ) (row : List PositionRecord) → in_table h p ≡ true → row ≡ get_or (vec_items t.hours) h row → get_or row p no_record ≡ records_of t h p
unfolding records_of
record_read t h p row i is =
    ap (λ ys. get_or ys p no_record) (get_or_read (vec_items t.hours) h row (omega (arith, all_there t, within h p i)) is [])
    ∙ sym (cond-true (in_table h p) (get_or (get_or (vec_items t.hours) h []) p no_record) no_record i)

outside : (t : PositionTable) (h p : ℕ) → in_table h p ≡ false → get_or (get_or (vec_items t.hours) h []) p no_record ≡ no_record
outside t h p i =
    ⊎_elim
    (λ few. get_or_past (get_or (vec_items t.hours) h []) p no_record (⊎_elim (λ past. absurd (both_ways (in_table h p) i (in_table_lem h p few past))) (λ past. omega (arith, t.even h [] (omega (arith, all_there t, few)), past)) (cases_lt p most_parties)))
    (λ past. ap (λ ys. get_or ys p no_record) (get_or_past (vec_items t.hours) h [] (omega (arith, all_there t, past))))
    (cases_lt h most_hours)

pub match_then : {X : Type 0} (o : Option X) (P : Type 0) (Q R : X → Type 0) → MatchOption o P Q → ((x : X) → Q x → R x) → MatchOption o P R
match_then None P Q R m f = m
match_then (Some x) P Q R m f = f x m

-- what is read of a row, at a place that is p
pub read_at : (xs : List PositionRecord) (i p : ℕ) (o : Option (Bor PositionRecord)) → IsItemAt xs i o → i ≡ p → unwrap_or (option_map (λ y. y.now) o) no_record ≡ get_or xs p no_record
read_at xs i p o item at = item.4 (omega arith) no_record ∙ ap (λ j. get_or xs j no_record) at

-- the default of each field
abbrev pub Nothing : PositionRecord → Type 0
Nothing r = (r.plan.0 ≡ pos 0) × ((r.produced ≡ None) × (r.consumed ≡ None))

pub no_record_from : (r : PositionRecord) → Nothing r → r ≡ no_record
no_record_from r n =
    let plan = n.0 in
    let produced = n.1.0 in
    let consumed = n.1.1 in
    let whole : r ≡ record { plan = record { 0 = r.plan.0 }; produced = r.produced; consumed = r.consumed } = refl in
    cc

-- what is found at the place, an empty record where nothing is
pub found : (t : PositionTable) (h p : ℕ) (o : Option (Bor (List PositionRecord))) (q : Option (Bor PositionRecord)) (r : PositionRecord) → unwrap_or (option_map (λ x. x.now) o) [] ≡ get_or (vec_items t.hours) h []
    → MatchOption o (q ≡ None) (λ x. unwrap_or (option_map (λ y. y.now) q) no_record ≡ get_or x.now p no_record) → UnwrapsOrElse (option_copied q) Nothing r → r ≡ records_of t h p
unfolding records_of
found t h p o q r at_hour at_party is =
    here o q at_hour at_party is
    ∙ cond_both (in_table h p) (get_or (get_or (vec_items t.hours) h []) p no_record) no_record (λ z. get_or (get_or (vec_items t.hours) h []) p no_record ≡ z) (λ i. refl) (outside t h p)
  where
    here : (o : Option (Bor (List PositionRecord))) (q : Option (Bor PositionRecord)) → unwrap_or (option_map (λ x. x.now) o) [] ≡ get_or (vec_items t.hours) h []
        → MatchOption o (q ≡ None) (λ x. unwrap_or (option_map (λ y. y.now) q) no_record ≡ get_or x.now p no_record) → UnwrapsOrElse (option_copied q) Nothing r → r ≡ get_or (get_or (vec_items t.hours) h []) p no_record
    here None None e m u = no_record_from r u ∙ ap (λ ys. get_or ys p no_record) e
    here None (Some y) e m u = absurd (none-some y (sym m))
    here (Some x) None e m u = no_record_from r u ∙ m ∙ ap (λ ys. get_or ys p no_record) e
    here (Some x) (Some y) e m u = u ∙ m ∙ ap (λ ys. get_or ys p no_record) e

-- a copy of an array of n that are the same
pub copied : (xs : List PositionRecord) (n : ℕ) (r : PositionRecord) → AllZipBelow (λ x y. y ≡ x) (replicate n r) xs n → xs ≡ replicate n r
copied xs n r z = same_lists xs (replicate n r) (z.long ∙ sym (length-replicate n r)) (λ k d l. z.at k d d (omega (arith, z.long)))

module _ (t : PositionTable) (items : vec_items t.hours ≡ replicate most_hours (replicate most_parties no_record)) where
  each_empty : (k q : ℕ) → records_of t k q ≡ no_record
  unfolding records_of
  each_empty k q =
      cond_both (in_table k q) (get_or (get_or (vec_items t.hours) k []) q no_record) no_record (λ z. z ≡ no_record)
      (λ i.
      let w = within k q i in
      ap (λ rows. get_or (get_or rows k []) q no_record) items
      ∙ ap (λ ys. get_or ys q no_record) (get_or-replicate most_hours k (replicate most_parties no_record) [] w.0)
      ∙ get_or-replicate most_parties q no_record no_record w.1)
      (λ i. refl)

  pub all_empty : Empty t
  all_empty =
      record {
        plans = fun_ext (λ k. fun_ext (λ q. ap plan_in (each_empty k q)));
        readings = λ m. fun_ext (λ k. fun_ext (λ q. ap (reading_in m) (each_empty k q) ∙ none_read m));
      }
