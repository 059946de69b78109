use Rattle.std.proofs.Common.{◌-◌, ◌^◌, refl, ◌∙◌, rules, arith}
use Rattle.std.proofs.lemmas.Iterator.{YieldsList-from_range, YieldsList-from_map}
use Rattle.std.proofs.lemmas.Iterator.Consumers.{sum_from_yields_List, fits_from_yields_list}
use Rattle.calendar.specs.Dates.{leap_year, month_length}
use Rattle.calendar.proofs.Months.{to_month_most, months_added_up}
use Rattle.calendar.proofs.counting.Month.days_to_month.Goals as goal

pub sum-requires-clause-fits : goal.sum-requires-clause-fits
sum-requires-clause-fits c =
    fits_from_yields_list c.map.result (2 ^ 32)
    (YieldsList-from_map _ (month_length (leap_year c.args.self.year)) (YieldsList-from_range 1 c.args.self.number (c.args.self.number - 1) c.map.ensures.source refl) c.map.ensures.closure (λ x r q k. search rules))
    (omega (arith, months_added_up (leap_year c.args.self.year) c.args.self.number c.args.self.in_year.0, to_month_most (leap_year c.args.self.year) c.args.self.number))

pub returns : goal.returns
returns c =
    let total =
    sum_from_yields_List c.map.result c.sum.result c.sum.ensures.ran (YieldsList-from_map _ (month_length (leap_year c.args.self.year)) (YieldsList-from_range 1 c.args.self.number (c.args.self.number - 1) c.map.ensures.source refl) c.map.ensures.closure (λ x r q k. search rules))
    ∙ months_added_up (leap_year c.args.self.year) c.args.self.number c.args.self.in_year.0
    in
    record { value = total; bound = omega (arith, to_month_most (leap_year c.args.self.year) c.args.self.number) }
