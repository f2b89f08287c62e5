use Rattle.std.proofs.Common.{◌≡◌, map}
use Rattle.justfile_token.specs.Namepath.{names_in}
use Rattle.justfile_model.specs.Readers.ReaderState.{prepend}
use Rattle.justfile_parse_expression.specs.View.{tokens_left, state_of}
use Rattle.justfile_parse_base.specs.SharedTable.{path, path_rest}
use Rattle.justfile_parse_base.specs.Trees.{name_tree}
use Rattle.justfile_parse_base.proofs.namepath.parse_namepath.Given as goal

abbrev pub invariant-names : goal.invariant-names
invariant-names g l = prepend (map name_tree (names_in l.path)) (path_rest (state_of g.X.Expander.answer l.parser)) ≡ path (state_of g.X.Expander.answer l.fn.parser)

abbrev pub decreases-names : goal.decreases-names
decreases-names g l = tokens_left l.parser
