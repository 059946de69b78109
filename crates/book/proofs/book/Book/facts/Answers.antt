use Rattle.journal.specs.Figures.{facts_at}
use Rattle.book.proofs.Asked.{few}
use Rattle.book.proofs.book.Book.facts.Goals as goal

pub returns : goal.returns
unfolding facts_at
returns c stage settled =
    let facts = c.facts_of.ensures.exact (few c.as_slice.result.now c.as_slice.ensures.bound) in
    let ups = c.standing.ensures.value in
    let downs = c.standing-2.ensures.value in
    let spot = c.spot.ensures.value in
    let activations = c.as_slice.ensures.value in
    cc
