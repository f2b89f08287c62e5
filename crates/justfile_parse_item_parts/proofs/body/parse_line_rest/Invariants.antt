use Rattle.std.proofs.Common.{◌≡◌, map}
use Rattle.justfile_model.specs.Readers.ReaderState.{prepend}
use Rattle.justfile_parse_item_parts.specs.BodyTable.{line_rest}
use Rattle.justfile_parse_item_parts.specs.BodyTrees.{fragment_tree}
use Rattle.justfile_parse_expression.specs.View.{tokens_left, state_of}
use Rattle.justfile_parse_item_parts.proofs.body.parse_line_rest.Given as goal

abbrev pub invariant-fragments : goal.invariant-fragments
invariant-fragments g l = prepend (map fragment_tree l.fragments.items) (line_rest (state_of g.X.Expander.answer l.parser)) ≡ line_rest (state_of g.X.Expander.answer l.fn.parser)

abbrev pub decreases-fragments : goal.decreases-fragments
decreases-fragments g l = tokens_left l.parser
