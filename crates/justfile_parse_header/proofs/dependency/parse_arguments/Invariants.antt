use Rattle.std.proofs.Common.{◌≡◌, [], map}
use Rattle.justfile_parse_expression.specs.View.{tokens_left, state_of}
use Rattle.justfile_parse_header.specs.HeaderTable.{dependency_arguments}
use Rattle.justfile_parse_header.specs.Tree.{read_argument}
use Rattle.justfile_parse_header.proofs.dependency.parse_arguments.Given as goal

abbrev pub invariant-arguments : goal.invariant-arguments
invariant-arguments g l =
    dependency_arguments (map read_argument l.arguments.items, state_of g.X.Expander.answer l.parser)
    ≡ dependency_arguments ([], state_of g.X.Expander.answer l.fn.parser)

abbrev pub decreases-arguments : goal.decreases-arguments
decreases-arguments g l = tokens_left l.parser
