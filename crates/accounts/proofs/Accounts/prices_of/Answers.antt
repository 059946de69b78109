use Rattle.std.proofs.Common.{◌≡◌, None, get_or, length, unwrap_or, ap, ◌∙◌, arith, rules}
use Rattle.market.specs.Figures.{most_hours}
use Rattle.accounts.proofs.Entries.{flattened, settled_read}
use Rattle.accounts.proofs.Accounts.prices_of.Goals as goal

pub returns : goal.returns
returns c =
    let all : length c.args.self.now.settled ≡ most_hours = search rules in
    c.flatten.ensures ∙ flattened c.copied.result ∙ ap (λ o. unwrap_or o None) c.copied.ensures ∙ c.get.ensures.lookup.4 (omega arith) None
    ∙ ap (λ i. get_or c.args.self.now.settled i None) (omega arith) ∙ settled_read c.args.self.now c.args.hour.0 all
