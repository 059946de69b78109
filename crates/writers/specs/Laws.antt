-- What holds of any sink. Assumes nothing.
use Rattle.std.specs.Prelude.{ℕ, List, [], ◌++◌}

pub record SinkLaws {S : Type 0} (takes : S → List ℕ → S → Type 0) : Type 0 where
  -- an empty text leaves a sink as it is
  pub nothing : (s : S) → takes s [] s
  -- two texts, one after the other, are taken as one
  pub append : {s t u : S} {first second : List ℕ} → takes s first t → takes t second u → takes s (first ++ second) u
