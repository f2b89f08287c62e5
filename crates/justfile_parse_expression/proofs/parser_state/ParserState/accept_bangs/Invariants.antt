use Rattle.std.proofs.Common.{◌≡◌, ◌≤◌, ◌+◌}
use Rattle.justfile_parse_expression.specs.TableReader.{value}
use Rattle.justfile_parse_expression.specs.View.{tokens_left, state_of}
use Rattle.justfile_parse_expression.proofs.Negations.{with_bangs}
use Rattle.justfile_parse_expression.proofs.parser_state.ParserState.accept_bangs.Given as goal

abbrev pub invariant-loop-bang : goal.invariant-loop-bang
invariant-loop-bang g l = record {
  ahead : l.count + tokens_left l.self ≤ tokens_left l.fn.self;
  value : with_bangs l.count (value (state_of g.X.Expander.answer l.self)) ≡ value (state_of g.X.Expander.answer l.fn.self);
}

abbrev pub decreases-loop-bang : goal.decreases-loop-bang
decreases-loop-bang g l = tokens_left l.self
