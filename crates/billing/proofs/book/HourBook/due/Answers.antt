use Rattle.std.proofs.Common.{ap, ◌∙◌, w64, SFits, rules}
use Rattle.std.proofs.lemmas.Int.{to_z-of_z}
use Rattle.billing.specs.Booked.{hour_in}
use Rattle.billing.specs.Capped.{capped}
use Rattle.billing.proofs.Exact.{sums, booked_exact, booked_accepted, booked_small}
use Rattle.billing.proofs.Wide.{two_fits, three_fits, three_is}
use Rattle.billing.proofs.book.HourBook.due.Goals as goal

pub overflow_add-imbalances : goal.overflow_add-imbalances
overflow_add-imbalances c = two_fits _ _ c.priced.ensures.bound c.priced-2.ensures.bound

pub overflow_add-imbalances-2 : goal.overflow_add-imbalances-2
overflow_add-imbalances-2 c = three_fits _ _ _ c.priced.ensures.bound c.priced-2.ensures.bound c.regulation_to.ensures.bound

pub returns : goal.returns
returns c =
    let hour = hour_in c.args.self.now c.args.metered in
    let f : SFits w64 c.narrowed.result = search rules in
    let is =
    to_z-of_z w64 _ f ∙ c.narrowed.ensures
    ∙ ap capped (three_is _ _ _ c.priced.ensures.bound c.priced-2.ensures.bound c.regulation_to.ensures.bound
    ∙ sums _ _ _ _ _ c.imbalance-production.result.0 c.imbalance-consumption.result.0 _ _ _ c.priced.ensures.value c.priced-2.ensures.value c.imbalance-production.ensures.value c.imbalance-consumption.ensures.value (c.regulation_to.ensures.value c.args.metered)) in
    record {
      value = is;
      exact = λ one other all. is ∙ booked_exact c.args.terms.now.minutes c.args.terms.now.facts c.args.prices.now hour c.args.metered.party.0 one other all;
      accepted = λ fits known. is ∙ booked_accepted c.args.terms.now.minutes c.args.terms.now.facts c.args.prices.now hour c.args.metered.party.0 fits known;
      small = λ fits known. booked_small c.args.terms.now.minutes c.args.terms.now.facts c.args.prices.now hour c.args.metered.party.0 fits known _ is;
    }
