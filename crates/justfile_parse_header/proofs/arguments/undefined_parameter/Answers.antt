use Rattle.std.proofs.Common.{◌∙◌, Bool, Option, Some, None, cond, map, ap, sym}
use Rattle.justfile_attribute.specs.Attribute.{leaf_attribute_of}
use Rattle.justfile_attribute.specs.declared.attribute.Attribute.{Attribute}
use Rattle.justfile_attribute_rules.specs.Made.{quoted_leaf}
use Rattle.justfile_model.specs.Trees.Tree.{Quoted}
use Rattle.justfile_parse_header.specs.Arguments.{undefined_in}
use Rattle.justfile_parse_header.specs.Tree.{parameter_tree}
use Rattle.justfile_parse_header.proofs.Texts.{literal_named}
use Rattle.justfile_parse_header.proofs.arguments.undefined_parameter.Goals as goal
use Rattle.justfile_expression.specs.LeafTree.{Leaf}

pub returns-then-is_named : goal.returns-then-is_named
returns-then-is_named c =
    let parameters = map parameter_tree c.args.parameters.now.list.items in
    let name = c.in-Arg.name in
    ap (λ (b : Bool). cond {A = Option (Quoted Leaf)} b None (Some (quoted_leaf name)))
    (sym (c.if-is_named.true) ∙ c.is_named.ensures ∙ literal_named parameters name c.as_str.result.now c.as_str.ensures.value)
    ∙ ap (λ (a : Attribute). undefined_in parameters (leaf_attribute_of a)) (sym c.in-Arg.is)

pub returns-else-is_named : goal.returns-else-is_named
returns-else-is_named c =
    let parameters = map parameter_tree c.args.parameters.now.list.items in
    let name = c.in-Arg.name in
    ap (λ (b : Bool). cond {A = Option (Quoted Leaf)} b None (Some (quoted_leaf name)))
    (sym (c.if-is_named.false) ∙ c.is_named.ensures ∙ literal_named parameters name c.as_str.result.now c.as_str.ensures.value)
    ∙ ap (λ (a : Attribute). undefined_in parameters (leaf_attribute_of a)) (sym c.in-Arg.is)
