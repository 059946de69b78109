-- The worked days, computed.
use Rattle.std.proofs.Common.{◌≡◌, refl, inl, arith, lit≤}
use Rattle.std.proofs.lemmas.Int.{ints}
use Rattle.market.specs.Energy.{energy}
use Rattle.ordered.specs.Lex.{lex_before, lex_same}
use Rattle.register.specs.Registered.{with_activation}
use Rattle.notices.specs.Kept.{with_notice, value_like}
use Rattle.facts.specs.Minutes.{rose, fell}
use Rattle.positions.specs.Tables.{complete_to}
use Rattle.pricing.specs.NordicRules.{nordic_rules}
use Rattle.integers.specs.Sums.{sum_to, sum_over}
use Rattle.settlement.specs.Hour.{counted}
use Rattle.settlement.specs.Payments.{priced, payment}
use Rattle.journal.specs.Figures.{facts_at}
use Rattle.journal.specs.Reckoned.{booked_in}
use Rattle.journal.specs.Lawful.{LawfulOpening}
use Rattle.journal.specs.Sample.{sample_opening, SampleDay, MixedDay, accounts_of}
use Rattle.settlement.specs.declared.bills.WorkedDay.{WorkedDay}
use Rattle.settlement.specs.declared.bills.WorkedDay.TheVariants.{Sample, Mixed}
use Rattle.settlement.specs.Bills.{bill_of}

within_limit_lem : LawfulOpening sample_opening
within_limit_lem = record { few_hours = lit≤ tt; spots = λ h l. record { low = omega (arith, ints); high = omega (arith, ints) } }

pub sample_day : SampleDay
unfolding energy lex_before lex_same with_activation with_notice value_like rose fell sum_to sum_over counted priced payment complete_to facts_at booked_in
sample_day =
    record {
      lawful = ((((((((((((((within_limit_lem, (refl, (refl, refl))), (refl, (refl, refl))), (inl refl, refl)), (inl refl, refl)), (inl refl, refl)), (refl, tt)), (refl, (refl, refl))), (refl, (refl, record { bid = _; is_first_free = refl; stands = refl; of_direction = refl; answered = refl }))), (refl, tt)), (refl, refl)), (refl, refl)), (refl, refl)), (refl, refl)), (refl, (refl, nordic_rules)));
      policy = refl;
      settled = refl;
      balanced = refl;
      one_way = (refl, (λ e k. refl, tt));
      none_special = (λ e. refl, tt);
      net_energy_is = refl;
      prices = refl;
      first_party = refl;
      second_party = refl;
      operator = refl;
    }

pub mixed_day : MixedDay
unfolding energy lex_before lex_same with_activation with_notice value_like rose fell sum_to sum_over counted priced payment complete_to facts_at booked_in
mixed_day =
    record {
      lawful = (((((((((((((within_limit_lem, (refl, (refl, refl))), (refl, (refl, refl))), (inl refl, refl)), (refl, tt)), (refl, (refl, refl))), (refl, (refl, record { bid = _; is_first_free = refl; stands = refl; of_direction = refl; answered = refl }))), (refl, (refl, refl, refl))), (refl, tt)), (refl, refl)), (refl, refl)), (refl, refl)), (refl, refl)), (refl, (refl, nordic_rules)));
      outside = refl;
      first_party = refl;
      second_party = refl;
      operator = refl;
    }

pub billed : (day : WorkedDay) → bill_of day ≡ accounts_of day
billed Sample = rw (sample_day.first_party, sample_day.second_party, sample_day.operator) refl
billed Mixed = rw (mixed_day.first_party, mixed_day.second_party, mixed_day.operator) refl
