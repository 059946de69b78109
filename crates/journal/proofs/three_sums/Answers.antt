use Rattle.notices.proofs.Taken.{replaces}
use Rattle.journal.proofs.Kept.{kept}
use Rattle.journal.proofs.Sound.{lawful_is_sound}
use Rattle.journal.proofs.Law.{sums_of_sound, three_sums_lem}
use Rattle.journal.proofs.SampleDay.{sample_day, mixed_day}
use Rattle.journal.proofs.three_sums.Goals as goal

pub returns : goal.returns
returns c = record { law = three_sums_lem; sound = sums_of_sound; premise = lawful_is_sound; notices = replaces; kept = kept; sample = sample_day; mixed = mixed_day }
