-- A text that is laid from the start of a buffer on.
use Rattle.std.proofs.Common.{◌≡◌, ℕ, ◌≤◌, List, length, drop, sym, refl, ap, ◌∙◌, take-append-drop}
use Rattle.writers.specs.declared.sink.Cursor.{Cursor}
use Rattle.writers.specs.Laid.{laid}
use Rattle.writers.specs.Laying.{written, rest, laid_on}

pub laid_whole : (s t : Cursor) (text buffer : List ℕ) → s.place ≡ 0 → s.buffer.now ≡ buffer → length text ≤ length buffer → laid_on s text t → t.buffer.now ≡ laid text buffer
laid_whole s t text buffer start same fits taken =
    let left : rest s ≡ buffer = rw start same in
    let all = taken.1 (rw left fits) in
    let front : written t ≡ text = all.0 ∙ rw start refl in
    let back : rest t ≡ drop (length text) buffer = all.1 ∙ ap (λ (xs : List ℕ). drop (length text) xs) left in
    sym (take-append-drop t.place t.buffer.now) ∙ rw (front, back) refl
