use Rattle.std.proofs.Common.{rules, ◌≡◌, ◌∙◌, Bool, true, false, List, [], ◌∷◌, ◌++◌, None, Ok, sym, ap, subst, arith}
use Rattle.std.proofs.lemmas.Grind.{common_steps}
use Rattle.justfile_token.specs.declared.token.Token.{Token}
use Rattle.justfile_model.specs.Trees.Tree.{Expr, Exprs}
use Rattle.justfile_expression.specs.declared.expression.Expression.{Expression}
use Rattle.std.proofs.lemmas.Result.{err_from_is_err_and}
use Rattle.justfile_parse_expression.specs.TableReader.{Read, Sequence, accept, element, format_parts, pair, read}
use Rattle.justfile_token.specs.StringKind.{kind_of}
use Rattle.justfile_token.specs.Token.{lexeme_of}
use Rattle.justfile_token.specs.declared.string_literal.StringLiteral.{StringLiteral}
use Rattle.justfile_parse_expression.specs.MethodResults.{IsExpressionError}
use Rattle.justfile_expression.specs.LeafTree.{Leaf, Literal, format_string_tree, literal_of, leaf_tree_of, trees_of}
use Rattle.justfile_parse_expression.specs.View.{state_of}
use Rattle.justfile_parse_expression.specs.declared.parser_state.ParserState.{ParserState}
use Rattle.justfile_parse_expression.proofs.Branches as branching
use Rattle.justfile_parse_expression.proofs.Chains as chains
use Rattle.justfile_parse_expression.specs.Chains.{branches, link_of, chain}
use Rattle.justfile_parse_expression.proofs.Elements as elements
use Rattle.justfile_parse_expression.proofs.FormatStrings.{after_expression, after_pair, after_start}
use Rattle.justfile_parse_expression.proofs.Parts as parts
use Rattle.justfile_parse_expression.proofs.parser_state.ParserState.+expression.Goals as goal

pub parse_sequence-returns-then-is_last-clause-reads : goal.parse_sequence-returns-then-is_last-clause-reads
parse_sequence-returns-then-is_last-clause-reads g t c =
    let s = state_of g.X.Expander.answer c.elements.self in
    let rest = state_of g.X.Expander.answer c.parse_element.new.self in
    let e = c.in_ok-element.element.value in
    let none : accept c.args.closing s ≡ None = first_of (grind (arith, common_steps), search rules) in
    let elem : ◌≡◌ {A = Read (Expr Leaf Token × Bool)} (element c.args.closing s) (Ok ((leaf_tree_of e, true), rest)) = first_of (grind (arith, common_steps), search rules) in
    let P : List Expression → Read (Exprs Leaf Token) = λ es. Ok (trees_of es, rest) in
    let Q : Expression → List Expression = λ e. c.elements.elements.items ++ e ∷ [] in
    sym c.elements.invariant.value ∙ elements.closes_last c.args.closing s c.elements.elements.items e rest none elem ∙ ap P (sym (c.in_ok-push.ensures.items ∙ ap Q c.into_inner.ensures))

pub parse_sequence-returns-in_err-element-clause-reads : goal.parse_sequence-returns-in_err-element-clause-reads
parse_sequence-returns-in_err-element-clause-reads g t c =
    let A = g.X.Expander.answer in
    let left = state_of A c.parse_element.new.self in
    let stop = c.in_err-element.field-0.0 in
    let P : ParserState _ → Type 0 = λ q. IsExpressionError stop left ⊥ (element c.args.closing (state_of A q)) in
    let p = err_from_is_err_and c.from_residual-in_err-element.result c.from_residual-in_err-element.ensures.1 in
    rw (p.1, p.2)
    (elements.stops c.args.closing (state_of A c.elements.self) c.elements.elements.items stop left (read (Sequence c.args.closing (state_of A c.args.self.now)))
    c.in_default.ensures.takes c.elements.invariant.value (subst P c.in_default.ensures.moves c.in_err-element.ensures.reads))

pub parse_sequence-elements-preserved : goal.parse_sequence-elements-preserved
parse_sequence-elements-preserved g t c =
    let s = state_of g.X.Expander.answer c.elements.self in
    let rest = state_of g.X.Expander.answer c.parse_element.new.self in
    let e = c.in_ok-element.element.value in
    let none : accept c.args.closing s ≡ None = first_of (grind (arith, common_steps), search rules) in
    let elem : ◌≡◌ {A = Read (Expr Leaf Token × Bool)} (element c.args.closing s) (Ok ((leaf_tree_of e, false), rest)) = first_of (grind (arith, common_steps), search rules) in
    let P : List Expression → Read (Exprs Leaf Token) = λ es. elements.with_front es (read (Sequence c.args.closing rest)) in
    let Q : Expression → List Expression = λ e. c.elements.elements.items ++ e ∷ [] in
    let pushed = c.in_ok-push.ensures.items ∙ ap Q c.into_inner.ensures in
    record {
      ahead = first_of (grind (arith, common_steps), search rules);
      value = ap P pushed ∙ elements.goes_on c.args.closing s c.elements.elements.items e rest none elem ∙ c.elements.invariant.value;
    }

pub parse_parts-returns-then-is_last-clause-reads : goal.parse_parts-returns-then-is_last-clause-reads
parse_parts-returns-then-is_last-clause-reads g t c =
    let s = state_of g.X.Expander.answer c.parts.self in
    let start = lexeme_of c.args.start.now.0 in
    let rest = state_of g.X.Expander.answer c.parse_pair.new.self in
    let e = c.in_ok-expression.expression in
    let l = c.in_ok-expression.literal in
    let found : ◌≡◌ {A = Read (Expr Leaf Token × Leaf × Bool)} (pair start s) (Ok ((leaf_tree_of e, Literal (literal_of l), true), rest)) = first_of (grind (arith, common_steps), search rules) in
    let P : List (Expression × StringLiteral) → Read (Leaf → Expr Leaf Token) = λ ps. Ok (format_string_tree ps, rest) in
    sym c.parts.invariant.value ∙ parts.ends start s c.parts.parts.items e l rest found ∙ ap P (sym c.in_ok-push.ensures.items)

pub parse_parts-parts-preserved : goal.parse_parts-parts-preserved
parse_parts-parts-preserved g t c =
    let s = state_of g.X.Expander.answer c.parts.self in
    let start = lexeme_of c.args.start.now.0 in
    let rest = state_of g.X.Expander.answer c.parse_pair.new.self in
    let e = c.in_ok-expression.expression in
    let l = c.in_ok-expression.literal in
    let found : ◌≡◌ {A = Read (Expr Leaf Token × Leaf × Bool)} (pair start s) (Ok ((leaf_tree_of e, Literal (literal_of l), false), rest)) = first_of (grind (arith, common_steps), search rules) in
    let P : List (Expression × StringLiteral) → Read (Leaf → Expr Leaf Token) = λ ps. parts.with_front ps (parts.pairs start rest) in
    record {
      ahead = first_of (grind (arith, common_steps), search rules);
      ended = after_pair (kind_of start) start s (leaf_tree_of e) (Literal (literal_of l)) rest found c.parts.invariant.ended;
      value = ap P c.in_ok-push.ensures.items ∙ parts.goes_on start s c.parts.parts.items e l rest found ∙ c.parts.invariant.value;
    }

pub parse_pair-parse_part-requires : goal.parse_pair-parse_part-requires
parse_pair-parse_part-requires g t c =
    let kind = kind_of (lexeme_of c.args.start.now.0) in
    record { ended = after_expression kind (state_of g.X.Expander.answer c.args.self.now) (leaf_tree_of c.in_ok-expression.expression.value) (state_of g.X.Expander.answer c.parse_level.new.self) c.in_ok-expression.ensures.reads c.requires.ended }

pub parse_format-parse_format_string-requires : goal.parse_format-parse_format_string-requires
parse_format-parse_format_string-requires g t c κs within =
    let start = c.in-Some.start.now in
    let ended = after_start g.X.Expander.answer c.args.self.now _ start (state_of g.X.Expander.answer c.accept_marked.new.self) c.in-Some.ensures.takes c.in-Some.ensures.table_token.0 in
    (first_of (grind (arith, common_steps), search rules), (search rules, (c.in-Some.ensures.table_token, ended)))

pub parse_parts-returns-in_err-expression-clause-reads : goal.parse_parts-returns-in_err-expression-clause-reads
parse_parts-returns-in_err-expression-clause-reads g t c =
    let start = lexeme_of c.args.start.now.0 in
    let p = err_from_is_err_and c.from_residual.result c.from_residual.ensures.1 in
    rw (p.1, p.2) (parts.stops_at start (state_of g.X.Expander.answer c.parts.self) c.parts.parts.items c.in_err-expression.field-0.0 (state_of g.X.Expander.answer c.parse_pair.new.self) (format_parts start (state_of g.X.Expander.answer c.args.self.now)) c.parts.invariant.value c.in_err-expression.ensures.reads)

pub parse_chain-returns-in_err-last-clause-reads : goal.parse_chain-returns-in_err-last-clause-reads
parse_chain-returns-in_err-last-clause-reads g t c =
    let A = g.X.Expander.answer in
    let p = err_from_is_err_and c.from_residual.result c.from_residual.ensures.1 in
    rw (p.1, p.2) (chains.stops c.args.level (state_of A c.chain.self) c.chain.chain.items c.chain.link c.in_err-last.field-0.0 (state_of A c.parse_step.new.self) (chain c.args.level (link_of c.args.first) (state_of A c.args.self.now)) c.chain.invariant.value c.in_err-last.ensures.reads)

pub parse_branches-returns-in_err-last-clause-reads : goal.parse_branches-returns-in_err-last-clause-reads
parse_branches-returns-in_err-last-clause-reads g t c =
    let A = g.X.Expander.answer in
    let p = err_from_is_err_and c.from_residual.result c.from_residual.ensures.1 in
    rw (p.1, p.2) (branching.stops c.branches.word (state_of A c.branches.self) c.branches.chain.items c.branches.link c.in_err-last.field-0.0 (state_of A c.parse_branch.new.self) (branches (link_of c.args.first) c.args.word.now (state_of A c.args.self.now)) c.branches.invariant.value c.in_err-last.ensures.reads)
