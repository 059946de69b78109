-- An order by one number, then the next, and on. Assumes nothing.
--     lex_before xs ys     the first number in which the two differ is smaller in xs, or xs ends there
--     lex_same xs ys       the two are the same numbers
use Rattle.std.specs.Prelude.{Bool, true, false, ◌&&◌, ◌||◌, List, [], ◌∷◌, ℤ, pos, negsuc, ◌==◌, int_lt}

abbrev pub eq_z : ℤ → ℤ → Bool
eq_z (pos a) (pos b) = a == b
eq_z (pos a) (negsuc b) = false
eq_z (negsuc a) (pos b) = false
eq_z (negsuc a) (negsuc b) = a == b

unfoldable pub lex_before : List ℤ → List ℤ → Bool
lex_before [] [] = false
lex_before [] (y ∷ ys) = true
lex_before (x ∷ xs) [] = false
lex_before (x ∷ xs) (y ∷ ys) = int_lt x y || (eq_z x y && lex_before xs ys)

unfoldable pub lex_same : List ℤ → List ℤ → Bool
lex_same [] [] = true
lex_same [] (y ∷ ys) = false
lex_same (x ∷ xs) [] = false
lex_same (x ∷ xs) (y ∷ ys) = eq_z x y && lex_same xs ys
