use Rattle.std.proofs.Common.{◌∙◌, sym, arith}
use Rattle.justfile_model.specs.Readers.ReaderState.{same_kind}
use Rattle.justfile_parse_expression.specs.View.{run_of, state_of}
use Rattle.justfile_parse_expression.proofs.Lengths.{unmarked}
use Rattle.justfile_parse_expression.proofs.parser_state.ParserState.is_second.Goals as goal

pub returns : goal.returns
unfolding state_of same_kind
returns g c other word =
    let s = c.args.self.now in
    unmarked (run_of g.X.Expander.answer s) s.depth s.next s.list_features.items word c.args.kind c.index-self-self.result (omega arith) (sym c.eq.ensures ∙ other)
