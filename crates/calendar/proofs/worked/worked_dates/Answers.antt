use Rattle.std.proofs.Common.{refl}
use Rattle.calendar.specs.Dates.{leap_year, days_to_year, days_to_month}
use Rattle.calendar.specs.Clock.{hours_of, starts_in_summer}
use Rattle.calendar.specs.Worked.{WorkedCases}
use Rattle.calendar.proofs.worked.worked_dates.Goals as goal

worked : WorkedCases
unfolding leap_year days_to_year days_to_month hours_of starts_in_summer
worked =
    record {
      october_hours = refl;
      october_start = refl;
      october_2_a = refl;
      october_2_b = refl;
      october_3 = refl;
      october_2 = (refl, refl);
      march_hours = refl;
      march_3 = refl;
      march_2 = (refl, refl);
      december_hours = refl;
      december_8 = refl;
    }

pub returns : goal.returns
returns c = record { dates = refl; cases = worked }
