use Rattle.std.proofs.Common.{◌≡◌, ◌≤◌, ◌*◌, ◌+◌}
use Rattle.justfile_token.specs.StringKind.{kind_of}
use Rattle.justfile_token.specs.Token.{lexeme_of}
use Rattle.justfile_parse_expression.specs.FormatStrings.{IsEndedFrom}
use Rattle.justfile_model.specs.Trees.Operators.{rank}
use Rattle.justfile_parse_expression.specs.TableReader.{Sequence, format_parts, read}
use Rattle.justfile_parse_expression.specs.Chains.{branches, link_of, chain}
use Rattle.justfile_model.specs.declared.level.Level.TheVariants.{Conjunct}
use Rattle.justfile_parse_expression.proofs.Chains as chains
use Rattle.justfile_parse_expression.specs.View.{tokens_left, state_of}
use Rattle.justfile_parse_expression.proofs.Elements as elements
use Rattle.justfile_parse_expression.proofs.Parts as parts
use Rattle.justfile_parse_expression.proofs.parser_state.ParserState.+expression.Given as goal

abbrev pub decreases-parse_level : goal.decreases-parse_level
decreases-parse_level g l = 32 * tokens_left l.self.now + 14

abbrev pub decreases-parse_conjunct : goal.decreases-parse_conjunct
decreases-parse_conjunct g l = 32 * tokens_left l.self.now + 13

abbrev pub decreases-parse_operand : goal.decreases-parse_operand
decreases-parse_operand g l = 32 * tokens_left l.self.now + 12

abbrev pub decreases-parse_step : goal.decreases-parse_step
decreases-parse_step g l = 32 * tokens_left l.self.now + 15

abbrev pub decreases-parse_chain : goal.decreases-parse_chain
decreases-parse_chain g l = 32 * tokens_left l.self.now + 16

abbrev pub decreases-parse_operations : goal.decreases-parse_operations
decreases-parse_operations g l = 32 * tokens_left l.self.now + rank l.level + 1

abbrev pub decreases-parse_operation : goal.decreases-parse_operation
decreases-parse_operation g l = 32 * tokens_left l.self.now

abbrev pub decreases-parse_value : goal.decreases-parse_value
decreases-parse_value g l = 32 * tokens_left l.self.now + 11

abbrev pub decreases-parse_negation : goal.decreases-parse_negation
decreases-parse_negation g l = 32 * tokens_left l.self.now + 9

abbrev pub decreases-parse_bare : goal.decreases-parse_bare
decreases-parse_bare g l = 32 * tokens_left l.self.now + 8

abbrev pub decreases-parse_format : goal.decreases-parse_format
decreases-parse_format g l = 32 * tokens_left l.self.now + 7

abbrev pub decreases-parse_assert : goal.decreases-parse_assert
decreases-parse_assert g l = 32 * tokens_left l.self.now + 6

abbrev pub decreases-parse_name : goal.decreases-parse_name
decreases-parse_name g l = 32 * tokens_left l.self.now + 5

abbrev pub decreases-parse_call : goal.decreases-parse_call
decreases-parse_call g l = 32 * tokens_left l.self.now + 23

abbrev pub decreases-parse_group : goal.decreases-parse_group
decreases-parse_group g l = 32 * tokens_left l.self.now + 4

abbrev pub decreases-parse_list : goal.decreases-parse_list
decreases-parse_list g l = 32 * tokens_left l.self.now + 3

abbrev pub decreases-parse_enclosed : goal.decreases-parse_enclosed
decreases-parse_enclosed g l = 32 * tokens_left l.self.now + 21

abbrev pub decreases-parse_condition : goal.decreases-parse_condition
decreases-parse_condition g l = 32 * tokens_left l.self.now + 21

abbrev pub decreases-parse_braced : goal.decreases-parse_braced
decreases-parse_braced g l = 32 * tokens_left l.self.now + 22

abbrev pub decreases-parse_conditional : goal.decreases-parse_conditional
decreases-parse_conditional g l = 32 * tokens_left l.self.now + 26

abbrev pub decreases-parse_branches : goal.decreases-parse_branches
decreases-parse_branches g l = 32 * tokens_left l.self.now + 25

abbrev pub decreases-parse_branch : goal.decreases-parse_branch
decreases-parse_branch g l = 32 * tokens_left l.self.now + 24

abbrev pub decreases-parse_last_branch : goal.decreases-parse_last_branch
decreases-parse_last_branch g l = 32 * tokens_left l.self.now + 23

abbrev pub decreases-parse_format_string : goal.decreases-parse_format_string
decreases-parse_format_string g l = 32 * tokens_left l.self.now + 23

abbrev pub decreases-parse_parts : goal.decreases-parse_parts
decreases-parse_parts g l = 32 * tokens_left l.self.now + 22

abbrev pub decreases-parse_pair : goal.decreases-parse_pair
decreases-parse_pair g l = 32 * tokens_left l.self.now + 21

abbrev pub decreases-parse_sequence : goal.decreases-parse_sequence
decreases-parse_sequence g l = 32 * tokens_left l.self.now + 22

abbrev pub decreases-parse_element : goal.decreases-parse_element
decreases-parse_element g l = 32 * tokens_left l.self.now + 21

abbrev pub invariant-parse_sequence-elements : goal.invariant-parse_sequence-elements
invariant-parse_sequence-elements g l = record {
  ahead : tokens_left l.self ≤ tokens_left l.fn.self;
  value : elements.with_front l.elements.items (read (Sequence l.closing (state_of g.X.Expander.answer l.self))) ≡ read (Sequence l.closing (state_of g.X.Expander.answer l.fn.self));
}

abbrev pub decreases-parse_sequence-elements : goal.decreases-parse_sequence-elements
decreases-parse_sequence-elements g l = tokens_left l.self

abbrev pub invariant-parse_parts-parts : goal.invariant-parse_parts-parts
invariant-parse_parts-parts g l = record {
  ahead : tokens_left l.self ≤ tokens_left l.fn.self;
  ended : IsEndedFrom (kind_of (lexeme_of l.start.0)) (state_of g.X.Expander.answer l.self);
  value : parts.with_front l.parts.items (parts.pairs (lexeme_of l.start.0) (state_of g.X.Expander.answer l.self)) ≡ format_parts (lexeme_of l.start.0) (state_of g.X.Expander.answer l.fn.self);
}

abbrev pub decreases-parse_parts-parts : goal.decreases-parse_parts-parts
decreases-parse_parts-parts g l = tokens_left l.self

abbrev pub invariant-parse_chain-chain : goal.invariant-parse_chain-chain
invariant-parse_chain-chain g l = record {
  ahead : tokens_left l.self ≤ tokens_left l.fn.self;
  value : chains.with_chain l.level l.chain.items (chain l.level (link_of l.link) (state_of g.X.Expander.answer l.self)) ≡ chain l.level (link_of l.fn.first) (state_of g.X.Expander.answer l.fn.self);
}

abbrev pub decreases-parse_chain-chain : goal.decreases-parse_chain-chain
decreases-parse_chain-chain g l = tokens_left l.self

abbrev pub invariant-parse_branches-branches : goal.invariant-parse_branches-branches
invariant-parse_branches-branches g l = record {
  ahead : tokens_left l.self ≤ tokens_left l.fn.self;
  value : chains.with_chain Conjunct l.chain.items (branches (link_of l.link) l.word (state_of g.X.Expander.answer l.self)) ≡ branches (link_of l.fn.first) l.fn.word (state_of g.X.Expander.answer l.fn.self);
}

abbrev pub decreases-parse_branches-branches : goal.decreases-parse_branches-branches
decreases-parse_branches-branches g l = tokens_left l.self
