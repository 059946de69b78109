use Rattle.std.proofs.Common.{◌≡◌, ◌<◌, arith, length, ℤ, ◌+ℤ◌, ◌-ℤ◌, refl, ap, ◌∙◌, w64, SFits, rules}
use Rattle.market.specs.Figures.{most_parties}
use Rattle.accounts.specs.Booked.{capped}
use Rattle.accounts.proofs.Entries.{amount_read, found, was_booked}
use Rattle.accounts.proofs.Exact.{exact, kept}
use Rattle.accounts.proofs.Accounts.book.Goals as goal

pub returns-in-Some : goal.returns-in-Some
returns-in-Some c =
    let a = c.args.self.now in
    let p = c.args.party.0 in
    let x = c.args.amount.0 in
    let held : ℤ = c.in-Some.field-0.0 in
    let all : length a.parties ≡ most_parties = search rules in
    let place = found a.parties p c.get.result c.in-Some.field-0 c.get.ensures.lookup c.in-Some.ensures in
    let below : p < most_parties = omega (arith, place.0, all) in
    let fits_sum : SFits w64 c.saturating_add.result = search rules in
    let fits-rest : SFits w64 c.saturating_sub.result = search rules in
    let fits-x : SFits w64 x = search rules in
    let fits-held : SFits w64 held = search rules in
    let fits-operator : SFits w64 a.operator.0 = search rules in
    let sum = kept ◌+ℤ◌ held x c.saturating_add.result fits-held fits-x fits_sum c.saturating_add.ensures ∙ ap (λ y. capped (y +ℤ x)) (place.1 ∙ amount_read a p all) in
    let rest = kept ◌-ℤ◌ a.operator.0 x c.saturating_sub.result fits-operator fits-x fits-rest c.saturating_sub.ensures in
    let booked = was_booked a _ p x _ below place.0 refl sum rest refl in
    record { booked = booked; exactly = exact p x a _ booked }
