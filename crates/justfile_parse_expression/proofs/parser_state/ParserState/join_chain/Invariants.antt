use Rattle.std.proofs.Common.{◌≡◌, length}
use Rattle.justfile_parse_expression.specs.Chains.{link_of, chain_closed, chain_tree}
use Rattle.justfile_model.specs.Readers.ExpressionReader.{closed}
use Rattle.justfile_expression.specs.LeafTree.{leaf_tree_of}
use Rattle.justfile_parse_expression.specs.View.{tokens_left, state_of}
use Rattle.justfile_parse_expression.proofs.parser_state.ParserState.join_chain.Given as goal

abbrev pub invariant-loop-link : goal.invariant-loop-link
invariant-loop-link g l = record {
  tree : chain_tree l.chain.items (leaf_tree_of l.whole.value) ≡ chain_tree l.fn.chain.items (link_of l.fn.link (leaf_tree_of l.fn.last.value));
  state : chain_closed l.level l.chain.items (state_of g.X.Expander.answer l.self) ≡ chain_closed l.level l.fn.chain.items (closed l.level (closed l.level (state_of g.X.Expander.answer l.fn.self)));
  stays : tokens_left l.self ≡ tokens_left l.fn.self;
}

abbrev pub decreases-loop-link : goal.decreases-loop-link
decreases-loop-link g l = length l.chain.items
