use Rattle.std.proofs.Common.{◌≡◌, ◌∙◌, None, Ok, false, refl, sym, ap}
use Rattle.justfile_token.specs.declared.string_literal.StringLiteral.{StringLiteral}
use Rattle.justfile_parse_expression.proofs.Cooked.{verbatim_given}
use Rattle.justfile_parse_expression.proofs.parser_state.ParserState.copy_literal.Goals as goal

pub returns-clause-reads : goal.returns-clause-reads
returns-clause-reads g c =
    let literal : StringLiteral = record { cooked = c.in_ok-cooked.cooked; expand = false; kind = c.find_kind.result; part = None; token = c.args.table_token.now.0 } in
    verbatim_given g.X.Expander.answer c.args.self.now c.args.table_token.now literal refl (c.requires ∙ ap (λ l. Ok l) (sym c.in_ok-cooked.ensures.ok)) refl c.find_kind.ensures refl
