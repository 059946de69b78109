use Rattle.std.proofs.Common.{vec_items, sym, zero-le}
use Rattle.timetable.proofs.Days.{whole_day, prices_within, start_spanned, clock_spanned, opened_times_lem}
use Rattle.timetable.proofs.timetable.Timetable.open.Goals as goal

pub invariant_of-result : goal.invariant_of-result
invariant_of-result c =
    let row = sym c.in-None-Ok.ensures in
    let date = c.args.date in
    let xs = c.args.prices.now in
    let ps = vec_items c.in_ok-spot.spot in
    let start = c.in-None-Ok.start in
    let are = c.in_ok-spot.ensures in
    let starts = c.in-None-Ok.ensures'.value in
    record {
      hours = whole_day date xs ps start row are starts;
      prices = prices_within date xs ps start row are starts;
      started = start_spanned date xs ps start row are starts;
      reached = clock_spanned date xs ps start row are starts;
      entered = zero-le;
    }

pub returns : goal.returns
returns c = opened_times_lem c.args.date c.args.prices.now (vec_items c.in_ok-spot.spot) c.in-None-Ok.start (sym c.in-None-Ok.ensures) c.in_ok-spot.ensures c.in-None-Ok.ensures'.value
