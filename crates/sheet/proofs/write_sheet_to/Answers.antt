use Rattle.std.proofs.Common.{◌≡◌, ap, ◌∙◌, rules}
use Rattle.timetable.specs.Opening.{Times}
use Rattle.day.specs.View.{metered}
use Rattle.sheet.specs.Sheet.{hour_name, hour_fields, party_name, party_fields, day_text, hour_text, party_text, operator_text}
use Rattle.sheet.proofs.Taken.{spelled}
use Rattle.sheet.proofs.write_sheet_to.Goals as goal

pub returns : goal.returns
unfolding day_text hour_text party_text operator_text
returns g c =
    let laws = g.met.S.Sink.laws in
    let f = metered c.args.day.now in
    let day = rw c.day_fields.ensures at c.write_line.ensures in
    let hours = c.write_lines.ensures (hour_text f) (λ i fields within answered. spelled hour_name fields (hour_fields f i) (search rules)) in
    let parties = c.write_lines-2.ensures (party_text f) (λ i fields within answered. spelled party_name fields (party_fields f i) (search rules)) in
    let operator = rw c.operator_fields.ensures at c.write_line-2.ensures in
    let count-hours : c.hours.result ≡ f.opening.hours = c.hours.ensures.value ∙ ap (λ (t : Times). t.opening.hours) c.timetable-timetable.ensures in
    let count-parties : c.parties.result ≡ f.parties = c.parties.ensures.value ∙ ap (λ (t : Times). t.parties) c.timetable-timetable.ensures in
    laws.append (laws.append (laws.append day (rw count-hours at hours)) (rw count-parties at parties)) operator
