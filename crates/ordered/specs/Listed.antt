-- What a clause reads of an ordered list. Assumes nothing.
--     items l              its records, first to last
--     space_of l            how many it has space for
--     accepts same l x     it takes x: there is space for one more, or x replaces a held record
use Rattle.std.specs.Prelude.{ℕ, Bool, ◌||◌, List, length, nat_lt, vec_capacity, vec_items}
use Rattle.ordered.specs.declared.list.OrderedList.{OrderedList}
use Rattle.ordered.specs.Order.{held}

abbrev pub items : {X : Type 0} → OrderedList X → List X
items l = vec_items l.records

abbrev pub space_of : {X : Type 0} → OrderedList X → ℕ
space_of l = vec_capacity l.records

abbrev pub accepts : {X : Type 0} → (X → X → Bool) → OrderedList X → X → Bool
accepts same l x = nat_lt (length (items l)) (space_of l) || held same x (items l)
