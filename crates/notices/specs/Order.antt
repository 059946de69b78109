-- The order of notices: by hour, then sender, then counterparty. A sender has one notice for a counterparty and hour.
use Rattle.std.specs.Prelude.{Bool, List, [], ◌∷◌, ℤ, pos, ◌==◌, unsigned_abs}
use Rattle.ordered.specs.Lex.{lex_before, lex_same}
use Rattle.notices.specs.declared.notice.Notice.{Notice}

abbrev pub notice_key : Notice → List ℤ
notice_key n = pos n.hour.0 ∷ (pos n.sender.0 ∷ (pos n.counterparty.0 ∷ []))

abbrev pub notice_before : Notice → Notice → Bool
notice_before a b = lex_before (notice_key a) (notice_key b)

abbrev pub notice_same : Notice → Notice → Bool
notice_same a b = lex_same (notice_key a) (notice_key b)

abbrev pub energy_of : Notice → ℤ
energy_of n = n.energy.0

abbrev pub is_zero : Notice → Bool
is_zero n = unsigned_abs (energy_of n) == 0
