use Rattle.std.proofs.Common.{◌≡◌}
use Rattle.justfile_parse_expression.specs.Chains.{negated}
use Rattle.justfile_expression.specs.LeafTree.{leaf_tree_of}
use Rattle.justfile_parse_expression.proofs.parser_state.ParserState.negate.Given as goal

abbrev pub invariant-loop-bang : goal.invariant-loop-bang
invariant-loop-bang g l = leaf_tree_of l.whole.value ≡ negated l._bang (leaf_tree_of l.fn.operand.value)
