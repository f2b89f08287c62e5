use Rattle.std.proofs.Common.{◌≡◌, map}
use Rattle.justfile_model.specs.Readers.ReaderState.{prepend}
use Rattle.justfile_parse_expression.specs.View.{tokens_left, state_of}
use Rattle.justfile_parse_header.specs.HeaderTable.{dependencies}
use Rattle.justfile_parse_header.specs.Tree.{dependency_tree}
use Rattle.justfile_parse_header.proofs.dependency.parse_dependencies.Given as goal

abbrev pub invariant-dependencies : goal.invariant-dependencies
invariant-dependencies g l =
    prepend (map dependency_tree l.dependencies.items) (dependencies (state_of g.X.Expander.answer l.parser))
    ≡ prepend (map dependency_tree l.fn.dependencies.items) (dependencies (state_of g.X.Expander.answer l.fn.parser))

abbrev pub decreases-dependencies : goal.decreases-dependencies
decreases-dependencies g l = tokens_left l.parser
