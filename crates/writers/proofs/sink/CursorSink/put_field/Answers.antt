use Rattle.std.proofs.Common.{rules}
use Rattle.std.proofs.lemmas.Slice.{overwrites}
use Rattle.writers.proofs.sink.CursorSink.put_field.Goals as goal

pub returns-clause-taken : goal.returns-clause-taken
returns-clause-taken c = search (rules, overwrites)
