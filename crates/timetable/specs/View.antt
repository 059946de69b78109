-- What a clause reads of a timetable. Assumes nothing.
use Rattle.std.specs.Prelude.{length, vec_items}
use Rattle.timetable.specs.declared.timetable.Timetable.{Timetable}
use Rattle.timetable.specs.Opening.{Times, spot_of}

abbrev pub times : Timetable → Times
times t =
    record {
      opening = record { date = t.date; hours = length (vec_items t.spot); start = t.start.0; spot = spot_of (vec_items t.spot) };
      clock = t.clock.0;
      parties = t.parties;
    }
