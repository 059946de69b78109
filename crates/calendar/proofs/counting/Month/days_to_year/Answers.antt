use Rattle.std.proofs.Common.{◌-◌, ◌^◌, refl, ◌∙◌, rules, arith}
use Rattle.std.proofs.lemmas.Iterator.{YieldsList-from_range, YieldsList-from_map}
use Rattle.std.proofs.lemmas.Iterator.Consumers.{sum_from_yields_List, fits_from_yields_list}
use Rattle.calendar.specs.Dates.{year_days}
use Rattle.calendar.proofs.Months.{to_year_most, years_added_up}
use Rattle.calendar.proofs.counting.Month.days_to_year.Goals as goal

pub sum-requires-clause-fits : goal.sum-requires-clause-fits
sum-requires-clause-fits c =
    fits_from_yields_list c.map.result (2 ^ 32)
    (YieldsList-from_map _ year_days (YieldsList-from_range 2000 c.args.self.year (c.args.self.year - 2000) c.map.ensures.source refl) c.map.ensures.closure (λ x r q k. search rules))
    (omega (arith, years_added_up (c.args.self.year - 2000), to_year_most (c.args.self.year - 2000)))

pub returns : goal.returns
returns c =
    let total =
    sum_from_yields_List c.map.result c.sum.result c.sum.ensures.ran (YieldsList-from_map _ year_days (YieldsList-from_range 2000 c.args.self.year (c.args.self.year - 2000) c.map.ensures.source refl) c.map.ensures.closure (λ x r q k. search rules))
    ∙ years_added_up (c.args.self.year - 2000)
    in
    record { value = total; bound = omega (arith, to_year_most (c.args.self.year - 2000)) }
