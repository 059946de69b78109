use Rattle.std.proofs.Common.{refl, rules}
use Rattle.accounts.proofs.Entries.{was_settled}
use Rattle.accounts.proofs.Accounts.settle.Goals as goal

pub returns-then-hour-lt25 : goal.returns-then-hour-lt25
returns-then-hour-lt25 c = was_settled c.args.self.now _ c.args.hour.0 c.args.prices c.if-hour-lt25.true (search rules) refl refl refl
