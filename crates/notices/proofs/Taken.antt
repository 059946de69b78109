-- What a table keeps once a notice is taken, and what it answers.
use Rattle.std.proofs.Common.{◌≡◌, ℕ, zero, suc, ◌<◌, true, false, cond, ◌||◌, eqb, ltb, List, [], ◌∷◌, length, get_or, ℤ, pos, negsuc, nat_abs, IfSome, is_ok, is_some, MatchOption, MatchResult, Bor, Some, None, Ok, Err, Option, Result, sym, ap, ◌∙◌, subst, ⊎_elim, arith}
use Rattle.std.specs.List.{slice_get, remove}
use Rattle.std.proofs.ByRecursion.{All-get_or}
use Rattle.std.proofs.lemmas.Option.{slice_get-get_or}
use Rattle.std.proofs.lemmas.Bool.{both_ways, cases_Bool, cond-true, cond-false, eqb-true}
use Rattle.ordered.specs.Order.{SameAt, held, placed, rises, without}
use Rattle.ordered.proofs.Laws.{only_before, same_back}
use Rattle.ordered.proofs.Lexical.{lex_order}
use Rattle.ordered.proofs.Removed.{removed_without, without_none}
use Rattle.ordered.proofs.Rising.{before_later, none_same, rises_tail}
use Rattle.std.specs.Option.{option_map}
use Rattle.refusal.specs.Outcome.{Outcome}
use Rattle.refusal.specs.declared.Refusal.{Refusal}
use Rattle.refusal.specs.declared.Refusal.TheVariants.{NoRoom}
use Rattle.refusal.proofs.Outcomes.{accepted, refused}
use Rattle.market.specs.Figures.{most_notices}
use Rattle.notices.specs.declared.notice.Notice.{Notice}
use Rattle.notices.specs.Order.{notice_key, notice_before, notice_same, energy_of, is_zero}
use Rattle.notices.specs.Kept.{with_notice, notice_row, value_like, energy_like, Replaces}
use Rattle.notices.proofs.Looked.{neither, none_like, placed_like, without_like}

is_nothing : (z : ℤ) → eqb (nat_abs z) 0 ≡ true → z ≡ pos 0
is_nothing (pos n) e = ap pos (eqb-true n 0 e)
is_nothing (negsuc n) e = absurd (let z = eqb-true (suc n) 0 e in omega arith)

pub replaces : (n : Notice) (xs : List Notice) → Replaces n xs
unfolding with_notice
replaces n xs like =
    ⊎_elim
    (λ t.
    ap (energy_like like) (cond-true (is_zero n) (without notice_same n xs) (placed notice_before n xs) t)
    ∙ without_like (lex_order notice_key) energy_of n like xs (is_nothing (energy_of n) t))
    (λ f.
    ap (energy_like like) (cond-false (is_zero n) (without notice_same n xs) (placed notice_before n xs) f)
    ∙ placed_like (lex_order notice_key) energy_of n like xs)
    (cases_Bool (is_zero n))

module _ (n : Notice) (xs : List Notice) where
  pub zero_row : is_zero n ≡ true → notice_row n xs ≡ None
  zero_row e = cond-true (is_zero n) _ _ e

  zero_keeps : is_zero n ≡ true → without notice_same n xs ≡ with_notice n xs
  unfolding with_notice
  zero_keeps e = sym (cond-true (is_zero n) (without notice_same n xs) (placed notice_before n xs) e)

  pub zero_found : (ys : List Notice) (k : ℕ) → is_zero n ≡ true → rises notice_before xs ≡ true → SameAt notice_same xs k n → ys ≡ remove xs k → ys ≡ with_notice n xs
  zero_found ys k e rising at after = after ∙ removed_without (lex_order notice_key) xs k n rising at ∙ zero_keeps e

  pub zero_none : is_zero n ≡ true → held notice_same n xs ≡ false → xs ≡ with_notice n xs
  zero_none e none = sym (without_none (lex_order notice_key) xs n none) ∙ zero_keeps e

  module _ (some : is_zero n ≡ false) (space : ℕ) (is : space ≡ most_notices) where
    row_is : notice_row n xs ≡ cond (ltb (length xs) space || held notice_same n xs) None (Some NoRoom)
    row_is =
        cond-false (is_zero n) _ _ some
        ∙ ap (λ s. cond (ltb (length xs) s || held notice_same n xs) None (Some NoRoom)) (sym is)

    pub taken_row : true ≡ (ltb (length xs) space || held notice_same n xs) → notice_row n xs ≡ None
    taken_row room = row_is ∙ cond-true (ltb (length xs) space || held notice_same n xs) None (Some NoRoom) (sym room)

    pub full_row : false ≡ (ltb (length xs) space || held notice_same n xs) → notice_row n xs ≡ Some NoRoom
    full_row full = row_is ∙ cond-false (ltb (length xs) space || held notice_same n xs) None (Some NoRoom) (sym full)

    pub taken_kept : (ys : List Notice) → ys ≡ placed notice_before n xs → ys ≡ with_notice n xs
    unfolding with_notice
    taken_kept ys after = after ∙ sym (cond-false (is_zero n) (without notice_same n xs) (placed notice_before n xs) some)

-- the record at the place where one is the same
pub found_like : (like : Notice) (xs : List Notice) (k : ℕ) (d : Notice) → rises notice_before xs ≡ true → k < length xs → notice_same (get_or xs k d) like ≡ true → energy_like like xs ≡ energy_of (get_or xs k d)
unfolding value_like
found_like like [] k d rising within same = absurd (omega arith)
found_like like (y ∷ xs) zero d rising within same = cond-true (notice_same y like) (energy_of y) _ same
found_like like (y ∷ xs) (suc k) d rising within same =
    let z : Notice = get_or xs k d in
    let later : notice_before y z ≡ true = All-get_or (λ v. notice_before y v ≡ true) xs k d (omega arith) (before_later (lex_order notice_key) y xs rising) in
    let other : notice_same y like ≡ false = neither (notice_same y like) (λ s. both_ways (notice_same y z) (only_before (lex_order notice_key) y z later).0 ((lex_order notice_key).same_on y like z s (same_back (lex_order notice_key) z like same))) in
    cond-false (notice_same y like) (energy_of y) (energy_like like xs) other ∙ found_like like xs k d (rises_tail (lex_order notice_key) y xs rising) (omega arith) same

pub got_like : (like n : Notice) (xs : List Notice) (k : ℕ) → rises notice_before xs ≡ true → SameAt notice_same xs k like → Some n ≡ slice_get xs k → energy_of n ≡ energy_like like xs
got_like like n xs k rising at got =
    let there = got ∙ slice_get-get_or xs k like at.0 in
    let same : n ≡ get_or xs k like = cc in
    ap energy_of same ∙ sym (found_like like xs k like rising at.0 at.1)

pub never_none : (like : Notice) (xs : List Notice) (k : ℕ) {P : Type 0} → SameAt notice_same xs k like → None ≡ slice_get xs k → P
never_none like xs k at got = let there = got ∙ slice_get-get_or xs k like at.0 in absurd (let z : ◌≡◌ {A = ℕ} 0 1 = cc in omega arith)

pub nothing_like : (like : Notice) (xs : List Notice) → held notice_same like xs ≡ false → pos 0 ≡ energy_like like xs
nothing_like like xs none = sym (none_like notice_same energy_of like xs (none_same (lex_order notice_key) like xs none))

-- what is found of a notice like this one, and read at its place
pub looked_like : (like : Notice) (xs : List Notice) (found : Option ℕ) (got : Option (Bor Notice)) (z : ℤ) → rises notice_before xs ≡ true → IfSome found (λ k. SameAt notice_same xs k like) → is_some found ≡ held notice_same like xs → MatchOption found (got ≡ None) (λ k. option_map (λ n. n.now) got ≡ slice_get xs k) → MatchOption got (z ≡ pos 0) (λ n. z ≡ energy_of n.now) → z ≡ energy_like like xs
looked_like like xs None got z rising at test none e =
    let nothing : z ≡ pos 0 = subst (λ g. MatchOption g (z ≡ pos 0) (λ n. z ≡ energy_of n.now)) none e in
    nothing ∙ nothing_like like xs (sym test)
looked_like like xs (Some k) None z rising at test got e = never_none like xs k at got
looked_like like xs (Some k) (Some n) z rising at test got e = e ∙ got_like like n.now xs k rising at got

-- what comes of a notice that is not zero: the list takes it, or has no room
pub put_outcome : {E : Type 0} (n : Notice) (xs ys : List Notice) (space : ℕ) (put : Result (Unit {0}) E) (r : Result (Unit {0}) Refusal) → is_zero n ≡ false → space ≡ most_notices → is_ok put ≡ (ltb (length xs) space || held notice_same n xs) → ys ≡ cond (is_ok put) (placed notice_before n xs) xs → MatchResult put (λ x. r ≡ Ok x) (λ _. r ≡ Err NoRoom) → Outcome (notice_row n xs) r (ys ≡ xs) (λ _. ys ≡ with_notice n xs)
put_outcome n xs ys space (Ok x) r some is room after e = rw e (accepted (notice_row n xs) _ _ x (taken_row n xs some space is room) (taken_kept n xs some space is ys after))
put_outcome n xs ys space (Err _) r some is full after e = rw e (refused (notice_row n xs) _ _ NoRoom (full_row n xs some space is full) after)
