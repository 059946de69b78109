-- Whether some activation of a list counts.
use Rattle.std.proofs.Common.{◌≡◌, Bool, true, List, length, Decides, refl}
use Rattle.std.proofs.lemmas.List.Elements.{at_read}
use Rattle.std.proofs.lemmas.List.{get_or_default}
use Rattle.std.proofs.lemmas.Bool.Decides.{Decides-by_or, Decides-like, same_from_decides}
use Rattle.market.specs.declared.words.Activation.{Activation}
use Rattle.market.specs.Words.{no_activation}
use Rattle.facts.specs.Listed.{any_of, SomeOf}

module _ (counts : Activation → Bool) (activations : List Activation) where
  pub any_is_some : Decides (any_of counts activations) (SomeOf counts activations (length activations))
  any_is_some =
      Decides-like (any_of counts activations)
      (λ s. (s.0, s.1, s.2 no_activation))
      (λ s. (s.0, s.1, at_read activations (λ a. counts a ≡ true) s.0 _ s.1 (get_or_default activations s.0 no_activation _ s.1) s.2))
      (Decides-by_or counts (λ a. counts a ≡ true) (any_of counts) (λ a. (λ h. h, λ h. h)) refl (λ _ _. refl) activations)

  pub some_counts : (r : Bool) → Decides r (SomeOf counts activations (length activations)) → r ≡ any_of counts activations
  some_counts r d = same_from_decides r (any_of counts activations) d any_is_some
