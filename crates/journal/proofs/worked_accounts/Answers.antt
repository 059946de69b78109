use Rattle.std.proofs.Common.{◌∙◌}
use Rattle.journal.proofs.SampleDay.{billed}
use Rattle.journal.proofs.worked_accounts.Goals as goal

pub returns : goal.returns
returns c = c.hand_bill.ensures ∙ billed c.args.day
