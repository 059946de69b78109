use Rattle.std.proofs.Common.{◌≡◌, get_or, length, pos, unwrap_or, ap, ◌∙◌, arith, rules}
use Rattle.market.specs.Figures.{most_parties}
use Rattle.accounts.proofs.Entries.{amount_read, or_nothing}
use Rattle.accounts.proofs.Accounts.amount.Goals as goal

pub returns : goal.returns
returns c =
    let all : length c.args.self.now.parties ≡ most_parties = search rules in
    or_nothing c.copied.result c.unwrap_or_default.result c.unwrap_or_default.ensures
    ∙ ap (λ m. m.0) (ap (λ o. unwrap_or o (record { 0 = pos 0 })) c.copied.ensures ∙ c.get.ensures.lookup.4 (omega arith) (record { 0 = pos 0 }))
    ∙ ap (λ i. (get_or c.args.self.now.parties i (record { 0 = pos 0 })).0) (omega arith) ∙ amount_read c.args.self.now c.args.party.0 all
