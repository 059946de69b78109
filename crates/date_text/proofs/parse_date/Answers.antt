use Rattle.std.proofs.Common.{ℕ, ◌%◌, List, get_or, ap, arith}
use Rattle.date_text.proofs.parse_date.Goals as goal

-- the last two digits of the year are no digits, so this is no date's text
pub returns-in_err-of_century : goal.returns-in_err-of_century
returns-in_err-of_century c =
    let tens = ap (λ (xs : List ℕ). get_or xs 2 0) c.as_bytes.ensures.value in
    let ones = ap (λ (xs : List ℕ). get_or xs 3 0) c.as_bytes.ensures.value in
    rw c.from_residual-in_err-of_century.ensures (λ date w. c.in_err-of_century.ensures (date.year % 100) (omega arith))
