use Rattle.std.proofs.Common.{◌≡◌, map}
use Rattle.justfile_model.specs.Readers.ReaderState.{prepend}
use Rattle.justfile_parse_item_parts.specs.BodyTable.{lines}
use Rattle.justfile_parse_item_parts.specs.BodyTrees.{line_tree}
use Rattle.justfile_parse_expression.specs.View.{tokens_left, state_of}
use Rattle.justfile_parse_item_parts.proofs.body.parse_lines.Given as goal

abbrev pub invariant-lines : goal.invariant-lines
invariant-lines g l = prepend (map line_tree l.lines.items) (lines (state_of g.X.Expander.answer l.parser)) ≡ lines (state_of g.X.Expander.answer l.fn.parser)

abbrev pub decreases-lines : goal.decreases-lines
decreases-lines g l = tokens_left l.parser
