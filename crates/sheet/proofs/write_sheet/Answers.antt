use Rattle.std.proofs.Common.{◌≡◌, ◌≤◌, None, length, rules, arith}
use Rattle.std.proofs.lemmas.Bool.Decides.{nat_tests}
use Rattle.refusal.proofs.Outcomes.{accepted}
use Rattle.day.specs.View.{metered}
use Rattle.writers.proofs.Whole.{laid_whole}
use Rattle.sheet.specs.Sheet.{sheet_text, sheet_row}
use Rattle.sheet.proofs.write_sheet.Goals as goal

pub returns : goal.returns
returns c =
    let f = metered c.args.day.now in
    let before = c.args.sheet.now in
    let fits : length (sheet_text f) ≤ length before = omega arith in
    let row : sheet_row f before ≡ None = grind (arith, nat_tests) in
    let bytes = laid_whole c.new-cursor.result c.write_sheet_to.new.sink (sheet_text f) before c.new-cursor.ensures.place (search rules) fits c.write_sheet_to.ensures in
    accepted _ _ _ _ row (record { count = omega arith; bytes = search rules })
