use Rattle.std.proofs.Common.{◌≡◌, length, map}
use Rattle.std.specs.Option.{option_map}
use Rattle.justfile_attribute_rules.specs.Made.{quoted_leaf}
use Rattle.justfile_attribute_set.specs.Keys.{keys_left}
use Rattle.justfile_parse_header.specs.Arguments.{least_undefined, lesser_of}
use Rattle.justfile_parse_header.specs.Tree.{parameter_tree, rules_of}
use Rattle.justfile_parse_header.proofs.Least.{least_in}
use Rattle.justfile_parse_header.proofs.arguments.find_undefined.Given as goal

-- the least of all is the one found so far, or one that is left
abbrev pub invariant-attributes : goal.invariant-attributes
invariant-attributes l = least_undefined (map parameter_tree l.parameters.list.items) (rules_of l.attributes)
    ≡ lesser_of (option_map (λ a. quoted_leaf a.now) l.found) (least_in (map parameter_tree l.parameters.list.items) (keys_left l.left))

abbrev pub decreases-attributes : goal.decreases-attributes
decreases-attributes l = length (keys_left l.left)
