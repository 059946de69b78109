use Rattle.std.proofs.Common.{refl}
use Rattle.accounts.proofs.Entries.{was_opened}
use Rattle.accounts.proofs.Accounts.new.Goals as goal

pub returns : goal.returns
returns c = was_opened _ refl refl refl
