use Rattle.std.proofs.Common.{◌≡◌, ℕ, ◌*◌, ◌^◌, ◌<◌, ℤ, ◌≤◌, ◌+ℤ◌, ◌*ℤ◌, pos, refl, arith, w64, SFits, to_z, of_z, mul-le-mul, rules}
use Rattle.std.proofs.lemmas.Int.{to_z-of_z}
use lib.Signed.{quot_z}
use Rattle.market.specs.Energy.{energy}
use Rattle.market.proofs.EnergyLaws.{lawful, fits}
use Rattle.market.proofs.rounding.energy.Goals as goal

computed : (p m : ℕ) → p < 2 ^ 32 → m < 2 ^ 8 → (x y : ℤ) → x ≡ pos p → y ≡ pos m → to_z w64 (of_z w64 (quot_z (to_z w64 (of_z w64 (to_z w64 (of_z w64 (to_z w64 (of_z w64 x) *ℤ to_z w64 (of_z w64 y))) +ℤ pos 30))) (pos 60))) ≡ pos (energy p m)
unfolding energy
computed p m hp hm x y ex ey =
    let product : p * m ≤ 2 ^ 40 = (let h : p ≤ 2 ^ 32 = omega arith in let k : m ≤ 2 ^ 8 = omega arith in omega (arith, mul-le-mul h k)) in
    let a : SFits w64 (pos p) = search rules in
    let b : SFits w64 (pos m) = search rules in
    let d : SFits w64 (pos p *ℤ pos m) = search rules in
    let e : SFits w64 (pos p *ℤ pos m +ℤ pos 30) = search rules in
    let f : SFits w64 (quot_z (pos p *ℤ pos m +ℤ pos 30) (pos 60)) = search rules in
    rw (ex, ey, to_z-of_z w64 _ a, to_z-of_z w64 _ b, to_z-of_z w64 _ d, to_z-of_z w64 _ e, to_z-of_z w64 _ f) refl

pub returns-clause-value : goal.returns-clause-value
returns-clause-value c =
    let power : c.args.power.0 < 2 ^ 32 = search rules in
    let minutes : c.args.minutes < 2 ^ 8 = search rules in
    computed c.args.power.0 c.args.minutes power minutes c.from.result c.from-2.result (search rules) (search rules)

pub returns-clause-bound : goal.returns-clause-bound
returns-clause-bound c =
    let power : c.args.power.0 < 2 ^ 32 = search rules in
    let minutes : c.args.minutes < 2 ^ 8 = search rules in
    fits c.args.power.0 c.args.minutes power minutes

pub returns-clause-lawful : goal.returns-clause-lawful
returns-clause-lawful c = lawful c.args.power.0 c.args.minutes
