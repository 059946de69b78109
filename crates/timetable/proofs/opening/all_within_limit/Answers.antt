use Rattle.std.proofs.Common.{rules, tests}
use Rattle.std.proofs.lemmas.Iterator.{YieldsList-from_slice}
use Rattle.std.proofs.lemmas.Iterator.Search.{all_from_yields_List}
use Rattle.std.proofs.lemmas.List.Folds.{list_all-map}
use Rattle.timetable.proofs.opening.all_within_limit.Goals as goal

pub returns : goal.returns
returns c = rw list_all-map (all_from_yields_List _ _ _ _ c.all.ensures.ran (YieldsList-from_slice c.args.prices.now cc) (λ x b q k. search (rules, tests)))
