use Rattle.std.proofs.Common.{rules, ◌∙◌}
use Rattle.justfile_attribute.proofs.ArgumentTree.{rules_are}
use Rattle.justfile_attribute.proofs.new.of_rules.Goals as goal

pub returns-clause-made : goal.returns-clause-made
returns-clause-made c =
    rules_are c.into_inner-rules.result c.parts-max.result.0 c.parts-max.result.1 c.parts-min.result.0 c.parts-min.result.1
    c.parts-max.ensures.key c.parts-max.ensures.number c.parts-min.ensures.key c.parts-min.ensures.number
    ∙ search rules
