use Rattle.std.proofs.Common.{arith, refl, rules}
use Rattle.std.proofs.lemmas.Grind.{common_steps}
use Rattle.text_edits.proofs.pieces.push_parts.Goals as goal

pub loop-rest-init : goal.loop-rest-init
loop-rest-init c = record { utf8 = search rules; sized = λ encoding sized. sized; text = refl }

pub loop-rest-preserved : goal.loop-rest-preserved
loop-rest-preserved c = record {
  utf8 = search rules;
  sized = λ encoding sized. c.in_ok-push_next.ensures.sized encoding (c.loop-rest.invariant.sized encoding sized);
  text = grind (arith, common_steps);
}

pub returns-clause-sized : goal.returns-clause-sized
returns-clause-sized c = λ encoding sized. c.in_ok-push_next-2.ensures.sized encoding (c.loop-rest.invariant.sized encoding sized)
