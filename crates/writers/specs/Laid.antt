-- What a writer leaves of the part of a sheet that it is given. Assumes nothing.
use Rattle.std.specs.Prelude.{◌≡◌, ℕ, ◌≤◌, Bool, if◌then◌else◌, List, ◌++◌, length, drop, nat_le}

-- the text from the start of the part on; the bytes after it stay
abbrev pub laid : List ℕ → List ℕ → List ℕ
laid text part = text ++ drop (length text) part

abbrev pub has_space : List ℕ → List ℕ → Bool
has_space text part = nat_le (length text) (length part)

-- how many bytes are written: the whole text or, where there is no room for it, nothing
abbrev pub count_of : List ℕ → List ℕ → ℕ
count_of text part = if has_space text part then length text else 0

-- the part afterwards
abbrev pub afterwards : List ℕ → List ℕ → List ℕ
afterwards text part = if has_space text part then laid text part else part

-- n bytes of the text were written into the part, which was `before` and is `after` now
pub record Wrote (text before : List ℕ) (n : ℕ) (after : List ℕ) : Type 0 where
  pub count : n ≡ count_of text before
  pub within : n ≤ length before
  pub bytes : after ≡ afterwards text before
