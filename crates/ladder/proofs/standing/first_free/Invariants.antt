use Rattle.std.proofs.Common.{◌-◌, ◌≤◌, length}
use Rattle.ladder.specs.Standing.{Free, NoneOf}
use Rattle.ladder.proofs.standing.first_free.Given as goal

abbrev pub invariant-loop-bid : goal.invariant-loop-bid
invariant-loop-bid l = (l.place ≤ length l.bids) × NoneOf (Free l.hour) l.bids l.place

abbrev pub decreases-loop-bid : goal.decreases-loop-bid
decreases-loop-bid l = length l.bids - l.place
