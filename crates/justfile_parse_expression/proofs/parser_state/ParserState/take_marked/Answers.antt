use Rattle.std.proofs.Common.{rules, ◌≡◌, ◌∙◌, sym, subst, arith, ◌+◌, ℕ, List, true, false, get_or, Some, None}
use Rattle.justfile_parse_expression.specs.TableReader.{accept_marked}
use Rattle.justfile_parse_expression.specs.View.{run_of, state_from, state_of}
use Rattle.justfile_parse_expression.proofs.Rest.{marked_taken, marked_left}
use Rattle.justfile_parse_expression.proofs.parser_state.ParserState.take_marked.Goals as goal

pub returns-then-is_marked-clause-takes : goal.returns-then-is_marked-clause-takes
unfolding state_of
returns-then-is_marked-clause-takes g c =
    let s = c.args.self.now in
    let found : c.is_marked.result ≡ true = search rules in
    let P : List ℕ → Type 0 = λ word. accept_marked word c.args.kind (state_from g.X.Expander.answer s s.next) ≡ Some (get_or s.tokens.now (s.next + 1) c.index-self-self-2.result, state_from g.X.Expander.answer s (s.next + 2)) in
    subst P c.lexeme.ensures
    (marked_taken (run_of g.X.Expander.answer s) s.depth s.next s.list_features.items c.lexeme.result.now c.args.kind c.index-self-self.result c.index-self-self-2.result (omega arith) (sym c.is_marked.ensures.marked ∙ found))

pub returns-else-is_marked-clause-takes : goal.returns-else-is_marked-clause-takes
unfolding state_of
returns-else-is_marked-clause-takes g c =
    let s = c.args.self.now in
    let found : c.is_marked.result ≡ false = search rules in
    let P : List ℕ → Type 0 = λ word. accept_marked word c.args.kind (state_from g.X.Expander.answer s s.next) ≡ None in
    subst P c.lexeme.ensures
    (marked_left (run_of g.X.Expander.answer s) s.depth s.next s.list_features.items c.lexeme.result.now c.args.kind c.index-self-self.result c.index-self-self-2.result (omega arith) (sym c.is_marked.ensures.marked ∙ found))
