-- What a day shows, at each of its stages.
use Rattle.std.specs.Prelude.{None}
use Rattle.journal.specs.Figures.{Stage, Figures}
use Rattle.journal.specs.Figures as journal
use Rattle.book.specs.View.{shown}
use Rattle.day.specs.declared.stage.Planned.{Planned}
use Rattle.day.specs.declared.stage.Running.{Running}
use Rattle.day.specs.declared.open_day.OpenDay.{OpenDay}
use Rattle.day.specs.declared.metered.MeteredDay.{MeteredDay}
use Rattle.day.specs.Parts.{metered_of}

-- no hour is settled before the day is over
abbrev pub open_at : {S : Type 0} → Stage → OpenDay S → Figures
open_at stage day = shown stage (λ h. None) day.book

abbrev pub planned : OpenDay Planned → Figures
planned day = open_at journal.Planned day

abbrev pub running : OpenDay Running → Figures
running day = open_at journal.Running day

abbrev pub metered : MeteredDay → Figures
metered day = metered_of day.book day.accounts
