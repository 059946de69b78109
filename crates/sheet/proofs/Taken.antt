-- What a sink took, and one more.
use Rattle.std.proofs.Common.{◌≡◌, ℕ, ◌+◌, ◌<◌, List, [], length, get_or, take, Option, sym, ap, ◌∙◌, subst, add-one}
use Rattle.std.specs.List.{flat_map}
use Rattle.std.specs.Option.{option_map}
use Rattle.std.proofs.lemmas.Iterator.Adapters.{option_map_id}
use Rattle.std.proofs.lemmas.List.{take_more, flat_map_more}
use Rattle.writers.specs.Laws.{SinkLaws}
use Rattle.writers.specs.declared.Field.{Field}
use Rattle.sheet.specs.Lines.{spaced, line_or_none, in_turn}

module _ {S : Type 0} {takes : S → List ℕ → S → Type 0} (laws : SinkLaws takes) {s t u : S} where
  -- one more field of a line
  pub field_more : (fields : List Field) (i : ℕ) (d : Field) → i < length fields → takes s (flat_map spaced (take i fields)) t → takes t (spaced (get_or fields i d)) u → takes s (flat_map spaced (take (i + 1) fields)) u
  field_more fields i d within so_far more =
      let same = flat_map_more spaced [] (take i fields) (get_or fields i d) ∙ ap (λ (xs : List Field). flat_map spaced xs) (sym (take_more fields i d within)) in
      subst (λ (text : List ℕ). takes s text u) same (laws.append so_far more)

  -- one more text in turn
  pub turn_more : (text : ℕ → List ℕ) (i : ℕ) → takes s (in_turn text i) t → takes t (text i) u → takes s (in_turn text (i + 1)) u
  turn_more text i so_far more = rw add-one (laws.append so_far more)

-- the line of fields that are answered as an array
pub spelled : (name : List ℕ) (fields wanted : Option (List Field)) → fields ≡ wanted → line_or_none name wanted ≡ line_or_none name (option_map (λ x. x) fields)
spelled name fields wanted same = ap (λ (o : Option (List Field)). line_or_none name o) (sym (option_map_id fields ∙ same))
