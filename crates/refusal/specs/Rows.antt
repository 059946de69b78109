-- The rows of a call, tried from the top.
use Rattle.std.specs.Prelude.{Bool, cond, Some, Option}
use Rattle.refusal.specs.declared.Refusal.{Refusal}

-- where this row applies it refuses, else those below it are tried
abbrev pub row : Bool → Refusal → Option Refusal → Option Refusal
row applies refusal below = cond applies (Some refusal) below
