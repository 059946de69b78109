use Rattle.day.proofs.Reckoning.{operator_is}
use Rattle.day.proofs.metered.MeteredDay.operator_account.Goals as goal

pub returns : goal.returns
returns c = let day = c.args.self.now in operator_is day.book day.accounts c.operator.result.0 day.reckoned c.operator.ensures
