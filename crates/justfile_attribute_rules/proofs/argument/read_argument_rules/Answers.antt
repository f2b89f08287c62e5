use Rattle.std.proofs.Common.{rules, ◌∙◌}
use Rattle.justfile_attribute_rules.specs.ArgumentRules.{rules_of}
use Rattle.justfile_attribute_rules.specs.Keys.{key_arguments}
use Rattle.justfile_attribute_rules.proofs.StepLaws.{makes_of, rules_are_of}
use Rattle.justfile_attribute_rules.proofs.argument.read_argument_rules.Goals as goal

pub returns-in_err-read_rules-clause-made : goal.returns-in_err-read_rules-clause-made
returns-in_err-read_rules-clause-made c =
    makes_of c.args.name.token c.args.argument (key_arguments c.args.keys.now) (rules_of c.in_ok-rules.rules.value) c.in_ok-rules.ensures
    (λ r. rules_of r.value) c.from_residual-in_err-read_rules.result (search rules)

pub returns-clause-made : goal.returns-clause-made
returns-clause-made c =
    rules_are_of c.args.name.token c.args.argument (key_arguments c.args.keys.now) (rules_of c.in_ok-rules.rules.value) c.in_ok-rules.ensures
    ∙ search rules
