use Rattle.std.proofs.Common.{refl}
use Rattle.units.specs.declared.Receipt.{Receipt}
use Rattle.journal.specs.Figures.{Running}
use Rattle.journal.specs.Journal.{BidAccepted}
use Rattle.journal.specs.Refused.{bid_refused}
use Rattle.day.proofs.Stages.{made_at}
use Rattle.day.proofs.running_calls.RunningDay.bid.Goals as goal

pub returns : goal.returns
returns c = made_at {X = Receipt} (λ f. bid_refused f c.args.offer) (λ receipt. BidAccepted c.args.offer receipt.0) c.bid.result c.args.self.now.book c.bid.new.self Running (λ _. refl) c.bid.ensures
