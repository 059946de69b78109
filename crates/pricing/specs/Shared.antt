-- What the rules come to at prices taken from regular facts. Assumes nothing.
use Rattle.std.proofs.Common.{arith}
use Rattle.std.proofs.lemmas.Int.{ints}
use Rattle.units.specs.declared.Price.{Price}
use Rattle.pricing.specs.Policies.{four, all_at, NotAbove, Within, Bounded, NoSurplusAboveAShortfall, AroundPrice}

pub level : (p : Price) → NotAbove p p
level p = omega (arith, ints)

wider : {p : Price} → Within 1000000 p → Within 1100000 p
wider {p} w = record { low = omega (arith, ints); high = omega (arith, ints) }

pub bounded_four : (a b c d : Price) → Within 1000000 a → Within 1000000 b → Within 1000000 c → Within 1000000 d → Bounded (four a b c d)
bounded_four a b c d wa wb wc wd = ((wider wa, wider wc), (wider wb, wider wd))

pub bounded_all : (p : Price) → Within 1000000 p → Bounded (all_at p)
bounded_all p w = bounded_four p p p p w w w w

pub ordered_all : (p : Price) → NoSurplusAboveAShortfall (all_at p)
ordered_all p = ((level p, level p), (level p, level p))

pub around_all : (p : Price) → AroundPrice p (all_at p)
around_all p = ((level p, level p), (level p, level p))
