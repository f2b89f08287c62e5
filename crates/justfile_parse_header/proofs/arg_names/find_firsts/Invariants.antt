use Rattle.std.proofs.Common.{length}
use Rattle.justfile_attribute_set.specs.Keys.{keys_left}
use Rattle.justfile_parse_header.specs.Tree.{rules_of}
use Rattle.justfile_parse_header.proofs.Firsts.{AreFirstsBefore}
use Rattle.justfile_parse_header.proofs.arg_names.find_firsts.Given as goal

abbrev pub invariant-attributes : goal.invariant-attributes
invariant-attributes l = AreFirstsBefore (rules_of l.attributes) l.firsts (keys_left l.left)

abbrev pub decreases-attributes : goal.decreases-attributes
decreases-attributes l = length (keys_left l.left)
