use Rattle.std.proofs.Common.{sym, refl, ◌∙◌}
use Rattle.register.specs.Totals.{Few}
use Rattle.pricing.specs.declared.Facts.{Facts}
use Rattle.facts.specs.Facts.{Told}
use Rattle.facts.proofs.Alone.{alone}
use Rattle.facts.proofs.Regularity.{regular}
use Rattle.facts.proofs.Together.{together}
use Rattle.facts.proofs.facts_of.Goals as goal

pub returns : goal.returns
returns c =
    let minutes = c.args.minutes in
    let spot = c.args.spot in
    let hour = c.args.hour in
    let activations = c.args.activations.now in
    let ups = c.args.ups.now in
    let downs = c.args.downs.now in
    let course = c.rose_and_fell-rose in
    let f : Facts =
    record {
      spot = spot;
      up_price = c.balancing_price.result;
      down_price = c.balancing_price-2.result;
      middle = c.standing_middle.result;
      net_energy = c.net_energy.result;
      rose = course.result.0;
      fell = course.result.1;
      went_up = c.went.result;
      went_down = c.went-2.result;
    } in
    let told : Told minutes spot hour activations ups downs f =
    record {
      same_spot = refl;
      up_price_is = c.balancing_price.ensures.reading;
      down_price_is = c.balancing_price-2.ensures.reading;
      middle_price = c.standing_middle.ensures.reading;
      net = c.net_energy.ensures;
      rises = λ short. (course.ensures.reading short).0;
      falls = λ short. (course.ensures.reading short).1;
      upward = c.went.ensures.reading;
      downward = c.went-2.ensures.reading;
    } in
    let exact = λ (short : Few activations).
    together minutes spot hour activations ups downs _ _ _ _ _ _ _ c.balancing_price.ensures.value c.balancing_price-2.ensures.value
    c.standing_middle.ensures.value (c.net_energy.ensures.exact short) (course.ensures.value short)
    c.went.ensures.value c.went-2.ensures.value in
    record {
      exact = exact;
      alone = λ short. exact short ∙ sym (alone hour minutes spot activations ups downs);
      told = told;
      regular = λ sound. regular spot hour activations ups downs sound minutes f told;
    }
