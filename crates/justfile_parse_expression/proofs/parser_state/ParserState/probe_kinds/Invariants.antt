use Rattle.justfile_parse_expression.proofs.NextKinds.{AreTo}
use Rattle.justfile_parse_expression.proofs.parser_state.ParserState.probe_kinds.Given as goal

abbrev pub invariant-loop-kind : goal.invariant-loop-kind
invariant-loop-kind g l = AreTo l.self.tokens.now l.kinds l.self.next l.kind-index l.next
