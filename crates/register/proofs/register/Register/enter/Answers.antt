use Rattle.std.proofs.Common.{length, is_ok, ◌∙◌, arith}
use Rattle.std.proofs.lemmas.Bool.{cond-true, lt-ltb}
use Rattle.ordered.specs.Listed.{items, space_of}
use Rattle.market.specs.Figures.{most_activations}
use Rattle.refusal.proofs.Outcomes.{accepted}
use Rattle.register.specs.Registered.{register_row}
use Rattle.register.proofs.Numbered.{entered, entered_numbered}
use Rattle.register.proofs.register.Register.enter.Goals as goal

pub invariant_of-self : goal.invariant_of-self
invariant_of-self c =
    let before = c.args.self.now in
    record {
      rising = c.put.ensures.rises before.rising;
      room = c.put.ensures.space ∙ before.room;
      numbered = entered_numbered (items before.activations) c.args.activation before.rising before.numbered c.len-arrival.result c.len-arrival.ensures.value (items c.put.new.self) (space_of before.activations) (is_ok c.put.result) (omega (arith, before.room)) (c.put.ensures.test before.rising) (c.put.ensures.items before.rising);
    }

pub returns : goal.returns
returns c =
    let before = c.args.self.now in
    accepted (register_row (items before.activations)) _ _ tt (cond-true _ _ _ (lt-ltb (length (items before.activations)) most_activations (omega arith)))
    (entered (items before.activations) c.args.activation before.rising before.numbered c.len-arrival.result c.len-arrival.ensures.value (items c.put.new.self) (space_of before.activations) (is_ok c.put.result) (omega (arith, before.room)) (c.put.ensures.test before.rising) (c.put.ensures.items before.rising))
