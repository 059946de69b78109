use Rattle.std.proofs.Common.{◌^◌, ◌≤◌, cond, length, pos, subst, sym, ap, ◌∙◌, arith, rules, of_calls, SFits}
use mir.Syntax.{w128}
use borrow.Author.Tests.{tests}
use Rattle.std.specs.List.{filter}
use Rattle.std.proofs.lemmas.Int.{to_z-of_z}
use Rattle.std.proofs.lemmas.Iterator.{YieldsList-from_slice, YieldsList-from_map}
use Rattle.std.proofs.lemmas.Iterator.Consumers.{YieldsList-at, YieldsList-from_filter}
use Rattle.integers.specs.Near.{Near}
use Rattle.integers.specs.Sums.{sum_over}
use Rattle.integers.proofs.Sums.{sum_over-filter}
use Rattle.settlement.specs.Payments.{payment}
use Rattle.billing.specs.Booked.{of_party}
use Rattle.billing.proofs.Summed.{summed, sum_fits, sum_near, fewer, near_part, near_part_is, near_part_near}
use Rattle.billing.proofs.book.HourBook.regulation_to.Goals as goal

pub sum-requires : goal.sum-requires
sum-requires c =
    let xs = c.as_slice.result.now in
    let own = of_party c.args.self.now.position c.args.party.0 in
    let few : length xs ≤ 512 = c.as_slice.ensures.bound in
    record {
      can = search of_calls;
      finite = search of_calls;
      fits = sum_fits (λ a. near_part (2 ^ 66) (payment c.args.terms.now.minutes c.args.terms.now.facts a)) (filter own xs)
          (YieldsList-from_map _ (λ a. near_part (2 ^ 66) (payment c.args.terms.now.minutes c.args.terms.now.facts a))
          (YieldsList-at c.map.ensures.source (YieldsList-from_filter _ own (YieldsList-from_slice xs cc) c.filter.ensures.closure (λ x b q k. search (rules, tests))))
          c.map.ensures.closure (λ x r q k. search (rules, near_part_is)))
          (2 ^ 66) (λ a. near_part_near (2 ^ 66) _) (omega (arith, fewer own xs, few));
    }

pub returns : goal.returns
returns c =
    let xs = c.as_slice.result.now in
    let own = of_party c.args.self.now.position c.args.party.0 in
    let paid = payment c.args.terms.now.minutes c.args.terms.now.facts in
    let few : length xs ≤ 512 = c.as_slice.ensures.bound in
    let f : SFits w128 c.sum.result = search rules in
    let kept = to_z-of_z w128 c.sum.result f in
    let value =
    summed paid (filter own xs)
    (YieldsList-from_map _ paid
    (YieldsList-at c.map.ensures.source (YieldsList-from_filter _ own (YieldsList-from_slice xs cc) c.filter.ensures.closure (λ x b q k. search (rules, tests))))
    c.map.ensures.closure (λ x r q k. search rules)) c.sum.result c.sum.ensures.ran in
    let near =
    summed (λ a. near_part (2 ^ 66) (paid a)) (filter own xs)
    (YieldsList-from_map _ (λ a. near_part (2 ^ 66) (paid a))
    (YieldsList-at c.map.ensures.source (YieldsList-from_filter _ own (YieldsList-from_slice xs cc) c.filter.ensures.closure (λ x b q k. search (rules, tests))))
    c.map.ensures.closure (λ x r q k. search (rules, near_part_is))) c.sum.result c.sum.ensures.ran in
    record {
      value = λ metered. kept ∙ value ∙ sum_over-filter own paid xs ∙ ap (sum_over (λ a. cond (own a) (paid a) (pos 0))) c.as_slice.ensures.value;
      bound = subst (λ z. Near (2 ^ 75) z) (sym (kept ∙ near)) (sum_near (λ a. near_part (2 ^ 66) (paid a)) (2 ^ 66) (λ a. near_part_near (2 ^ 66) (paid a)) (filter own xs) (2 ^ 75) (omega (arith, fewer own xs, few)));
    }
