use Rattle.std.proofs.Common.{◌∙◌, Option, map, ap, sym}
use Rattle.std.specs.Option.{option_map}
use Rattle.justfile_attribute_rules.specs.Made.{quoted_leaf}
use Rattle.justfile_attribute_set.specs.Keys.{keys_left}
use Rattle.justfile_model.specs.Trees.Tree.{Quoted}
use Rattle.justfile_parse_header.specs.Arguments.{least_undefined, lesser_of}
use Rattle.justfile_parse_header.specs.Tree.{parameter_tree, rules_of}
use Rattle.justfile_parse_header.proofs.Least.{goes_on, least_in}
use Rattle.justfile_parse_header.proofs.arguments.find_undefined.Goals as goal
use Rattle.justfile_expression.specs.LeafTree.{Leaf}

pub attributes-preserved : goal.attributes-preserved
attributes-preserved c =
    let ps = map parameter_tree c.args.parameters.now.list.items in
    let found = option_map (λ l. quoted_leaf l.now) c.attributes.found in
    let rest = keys_left c.next.new.self in
    goes_on ps (least_undefined ps (rules_of c.args.attributes.now)) found c.in-Some.attribute.now (keys_left c.attributes.left) rest c.in-Some.ensures.steps c.attributes.invariant
    ∙ ap (λ (f : Option (Quoted Leaf)). lesser_of f (least_in ps rest))
    (ap (lesser_of found) (sym c.undefined_parameter.ensures) ∙ sym c.min_by_text-found.ensures)
