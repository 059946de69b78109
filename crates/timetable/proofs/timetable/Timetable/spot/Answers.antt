use Rattle.std.proofs.Common.{◌≡◌, vec_items, sym, subst, rules}
use Rattle.timetable.specs.Opening.{spot_of}
use Rattle.timetable.specs.Prices.{Within}
use Rattle.timetable.proofs.Days.{spot_of_within}
use Rattle.timetable.proofs.timetable.Timetable.spot.Goals as goal

pub returns-clause-within : goal.returns-clause-within
returns-clause-within c =
    let t = c.args.self.now in
    let is : c.unwrap_or_default.result ≡ spot_of (vec_items t.spot) c.args.position.0 = search rules in
    subst Within (sym is) (spot_of_within (vec_items t.spot) c.args.position.0 t.prices)
