use Rattle.std.proofs.Common.{◌+◌, ◌^◌, neg_ℤ, sym, refl, ap, ◌∙◌, arith, rules}
use Rattle.market.specs.Figures.{first_outside, outside_parties}
use Rattle.integers.proofs.Sums.{sum_to-neg}
use Rattle.billing.specs.Booked.{notice_in}
use Rattle.billing.proofs.Wide.{back, reads_near, reads_neg}
use Rattle.billing.proofs.book.HourBook.trade_outside.Goals as goal

pub returns : goal.returns
returns c =
    let bought = c.sum_to.ensures.value (λ k. notice_in c.args.self.now (first_outside + k) c.args.party.0) (λ k e p. search rules) in
    let sold = back (2 ^ 66) _ _ (omega arith) (reads_neg (2 ^ 66) _ _ (omega arith) (record { is = refl; near = c.sum_to.ensures.bound })) in
    record {
      value = sold.is ∙ ap neg_ℤ bought ∙ sym (sum_to-neg outside_parties (λ k. notice_in c.args.self.now (first_outside + k) c.args.party.0));
      bound = reads_near _ _ _ sold;
    }
