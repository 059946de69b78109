-- A text that is laid on a buffer, a piece at a time. Assumes nothing.
use Rattle.std.specs.Prelude.{◌≡◌, ℕ, ◌≤◌, List, ◌++◌, length, take, drop, refl}
use Rattle.std.proofs.Common.{sym, ap, ◌∙◌, append_assoc, arith, length-append}
use Rattle.std.proofs.lemmas.List.{append-nil, drop-drop, length-drop}
use Rattle.writers.specs.declared.sink.Cursor.{Cursor}
use Rattle.writers.specs.Laws.{SinkLaws}

-- what stands before the place, and what is left from it on
abbrev pub written : Cursor → List ℕ
written c = take c.place c.buffer.now

abbrev pub rest : Cursor → List ℕ
rest c = drop c.place c.buffer.now

-- where what is left is long enough, the text is written after what was, and the bytes after it stay
abbrev pub laid_on : Cursor → List ℕ → Cursor → Type 0
laid_on s text t =
    (t.buffer.ghost_name ≡ s.buffer.ghost_name)
    × (length text ≤ length (rest s) → (written t ≡ written s ++ text) × (rest t ≡ drop (length text) (rest s)))

pub laid_on_laws : SinkLaws laid_on
laid_on_laws = record {
  nothing = λ s. (refl, λ fits. (sym (append-nil (written s)), refl));
  append = λ {s} {t} {u} {first} {second} one two. (
    two.0 ∙ one.0,
    λ fits.
        let here = one.1 (omega (arith, length-append first second)) in
        let left : length second ≤ length (rest t) = rw here.1 (simp length-drop (omega (arith, length-append first second, length-drop s.place s.buffer.now))) in
        let there = two.1 left in (
          there.0 ∙ ap (λ (xs : List ℕ). xs ++ second) here.0 ∙ append_assoc (written s) first second,
          there.1 ∙ ap (λ (xs : List ℕ). drop (length second) xs) here.1 ∙ drop-drop (length second) (length first) (rest s) ∙ ap (λ (n : ℕ). drop n (rest s)) (sym (length-append first second)),
        ),
  );
}
