use Rattle.std.proofs.Common.{◌∙◌, sym, ap, Ok}
use Rattle.justfile_literal.specs.Literal.{answers_by}
use Rattle.justfile_expression.specs.declared.expression.Expression.{Expression}
use Rattle.justfile_parse_expression.specs.TableReader.{ReadExpr}
use Rattle.justfile_expression.specs.LeafTree.{leaf_tree_of}
use Rattle.justfile_parse_expression.specs.View.{state_of}
use Rattle.justfile_parse_expression.proofs.Cooked.{command_given, command_is_literal, command_refused}
use Rattle.justfile_parse_expression.proofs.parser_state.ParserState.cook_backtick.Goals as goal

pub literal_error-requires : goal.literal_error-requires
literal_error-requires g c = command_is_literal (answers_by g.X.Expander.answer c.args.self.now.expander.now) c.args.table_token.now.0 c.in-Err.fault c.in-Err.ensures.err

pub returns-in_ok-box_expression-in-Ok : goal.returns-in_ok-box_expression-in-Ok
returns-in_ok-box_expression-in-Ok g c =
    let p = c.args.self.now in
    let P : Expression → ReadExpr = λ e. Ok (leaf_tree_of e, state_of g.X.Expander.answer p) in
    record { reads = command_given g.X.Expander.answer p c.args.table_token.now _ c.in-Ok.ensures.ok ∙ ap P (sym c.in_ok-box_expression-in-Ok.ensures) }

pub returns-in-Err : goal.returns-in-Err
returns-in-Err g c = record { reads = command_refused g.X.Expander.answer c.args.self.now c.args.table_token.now c.in-Err.fault c.literal_error.result c.in-Err.ensures.err c.literal_error.ensures }
