-- Numbers of arrival.
use Rattle.std.specs.Prelude.{ℕ, Bool, true, ◌&&◌, List, [], ◌∷◌, nat_lt}
use Rattle.market.specs.declared.words.Activation.{Activation}

-- all have a number of arrival below n
abbrev pub arrived_below : ℕ → List Activation → Bool
arrived_below n [] = true
arrived_below n (a ∷ rest) = nat_lt a.arrival n && arrived_below n rest
