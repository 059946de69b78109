-- What a caller may rest on, whichever way a half is rounded. Of these only `near` looks at how the energy is worked out.
use Rattle.std.proofs.Common.{ℕ, ◌+◌, ◌*◌, ◌^◌, ◌<◌, ◌≤◌, ap, mul-le-mul, mul-le-mul_left, mul-zero, zero-mul, arith}
use Rattle.market.specs.Energy.{energy, Lawful}

near : (power minutes : ℕ) → (power * minutes ≤ 60 * energy power minutes + 30) × (60 * energy power minutes ≤ power * minutes + 30)
unfolding energy
near power minutes = (omega arith, omega arith)

pub lawful : (power minutes : ℕ) → Lawful power minutes (energy power minutes)
lawful power minutes =
    let n = near power minutes in
    record {
      least = n.0;
      greatest = n.1;
      positive = λ p m. omega (arith, mul-le-mul p m);
      bounded = λ m. omega (arith, mul-le-mul_left power m);
      powerless = λ p. omega (arith, ap (λ k. k * minutes) p, zero-mul minutes);
      instant = λ m. omega (arith, ap (λ k. power * k) m, mul-zero power);
    }

-- the energy of a power of 32 bits over minutes of 8 bits
pub fits : (power minutes : ℕ) → power < 2 ^ 32 → minutes < 2 ^ 8 → energy power minutes < 2 ^ 35
fits power minutes p m =
    let n = near power minutes in
    let p' : power ≤ 2 ^ 32 = omega arith in
    let m' : minutes ≤ 2 ^ 8 = omega arith in
    omega (arith, mul-le-mul p' m')
