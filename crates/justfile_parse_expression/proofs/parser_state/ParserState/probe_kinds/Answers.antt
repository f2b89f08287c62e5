use Rattle.std.proofs.Common.{sym, ◌∙◌, arith}
use Rattle.justfile_vocabulary.specs.declared.token_kind.TokenKind.TheVariants as kinds
use Rattle.justfile_model.specs.Readers.ReaderState.{same_kind}
use Rattle.justfile_parse_expression.specs.View.{tokens_left, run_of, state_of}
use Rattle.justfile_parse_expression.proofs.NextKinds.{are_all, are_ended, are_go_on, are_other, are_within, left_are}
use Rattle.justfile_parse_expression.proofs.parser_state.ParserState.probe_kinds.Goals as goal

pub returns-in_default-clause-next : goal.returns-in_default-clause-next
unfolding same_kind state_of
returns-in_default-clause-next g c =
    sym (left_are (run_of g.X.Expander.answer c.args.self.now) c.args.self.now.depth _ c.args.self.now.list_features.items _ _ (are_other _ _ _ _ _ c.loop-kind.invariant _ c.loop-kind-test.true _ _ c.in-Some.ensures.lookup.0 c.in-Some.ensures.lookup.1 (sym c.eq.ensures ∙ c.if-eq.false)))

pub returns-in_default-2-clause-next : goal.returns-in_default-2-clause-next
unfolding state_of
returns-in_default-2-clause-next g c =
    let none = rw c.in_default.is at c.get.ensures in
    sym (left_are (run_of g.X.Expander.answer c.args.self.now) c.args.self.now.depth _ c.args.self.now.list_features.items _ _ (are_ended _ _ _ _ _ c.loop-kind.invariant kinds.Eol c.loop-kind-test.true none.lookup.0))

pub loop-kind-preserved : goal.loop-kind-preserved
unfolding same_kind
loop-kind-preserved g c =
    are_go_on _ _ _ _ _ c.loop-kind.invariant _ c.loop-kind-test.true _ _ c.in-Some.ensures.lookup.0 c.in-Some.ensures.lookup.1 (sym c.eq.ensures ∙ c.if-eq.true)

pub returns-clause-next : goal.returns-clause-next
unfolding state_of
returns-clause-next g c = sym (left_are (run_of g.X.Expander.answer c.args.self.now) c.args.self.now.depth _ c.args.self.now.list_features.items _ _ (are_all _ _ _ _ _ c.loop-kind.invariant c.loop-kind-test.false))

pub returns-clause-within : goal.returns-clause-within
unfolding tokens_left
returns-clause-within g c = λ _. omega (arith, are_within _ _ _ _ _ c.loop-kind.invariant (omega (arith, c.loop-kind-test.false)) (omega arith))
