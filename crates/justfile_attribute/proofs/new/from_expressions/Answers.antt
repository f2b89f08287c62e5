use Rattle.justfile_vocabulary.specs.declared.attribute_kind.AttributeKind.TheVariants as kinds
use Rattle.justfile_attribute.specs.Attribute.{leaf_attribute_of}
use Rattle.justfile_attribute_rules.specs.Keys.{key_arguments}
use Rattle.justfile_attribute_rules.specs.Made.{positional_leaves}
use Rattle.justfile_attribute.proofs.Counted.{expressions_made}
use Rattle.justfile_attribute.proofs.new.from_expressions.Goals as goal

pub returns-in-Env-clause-made : goal.returns-in-Env-clause-made
returns-in-Env-clause-made c =
    expressions_made c.args.name.token c.args.kind kinds.Env (positional_leaves c.args.arguments.items) (key_arguments c.args.keys) (leaf_attribute_of c.env.result)
    c.in_default.ensures c.in-Env.is (c.env.ensures.made c.args.name.token)

pub returns-in-WorkingDirectory-clause-made : goal.returns-in-WorkingDirectory-clause-made
returns-in-WorkingDirectory-clause-made c =
    expressions_made c.args.name.token c.args.kind kinds.WorkingDirectory (positional_leaves c.args.arguments.items) (key_arguments c.args.keys)
    (leaf_attribute_of c.working_directory.result)
    c.in_default.ensures c.in-WorkingDirectory.is (c.working_directory.ensures.made c.args.name.token)
