use Rattle.std.proofs.Common.{length}
use Rattle.justfile_attribute_set.specs.Keys.{keys_left}
use Rattle.justfile_parse_base.specs.TextSets.{texts_in}
use Rattle.justfile_parse_header.specs.Tree.{rules_of}
use Rattle.justfile_parse_header.proofs.SameOptions.{Ahead}
use Rattle.justfile_parse_header.proofs.options.check_options.Given as goal

-- the options that are left break, after those before them, what all break
abbrev pub invariant-attributes : goal.invariant-attributes
invariant-attributes l = Ahead l.recipe (rules_of l.attributes) (texts_in l.longs) l.shorts.items (keys_left l.left)

abbrev pub decreases-attributes : goal.decreases-attributes
decreases-attributes l = length (keys_left l.left)
