use Rattle.std.proofs.Common.{◌≡◌, ◌∙◌, ℕ, List, subst, is_some, arith}
use Rattle.justfile_parse_expression.specs.TableReader.{accept_marked}
use Rattle.justfile_parse_expression.specs.View.{run_of, state_from, state_of}
use Rattle.justfile_parse_expression.proofs.Rest.{marked_is}
use Rattle.justfile_parse_expression.proofs.parser_state.ParserState.marks_next.Goals as goal

pub returns : goal.returns
unfolding state_of
returns g c =
    let s = c.args.self.now in
    let P : List ℕ → Type 0 = λ word. c.is_marked.result ≡ is_some (accept_marked word c.args.kind (state_from g.X.Expander.answer s s.next)) in
    subst P c.lexeme.ensures
    (c.is_marked.ensures.marked ∙ marked_is (run_of g.X.Expander.answer s) s.depth s.next s.list_features.items c.lexeme.result.now c.args.kind c.index-self-self.result c.index-self-self-2.result (omega arith))
