use Rattle.std.proofs.Common.{IsTrue, subst, sym}
use Rattle.justfile_token.specs.StringKind.{delimiter_len}
use Rattle.justfile_literal.specs.Literal.{is_framed}
use Rattle.justfile_literal.proofs.LiteralTexts.{begins}
use Rattle.justfile_literal.proofs.literal.between_quotes.Goals as goal

pub range-requires-clause-start_boundary : goal.range-requires-clause-start_boundary
range-requires-clause-start_boundary c some =
    let by_kind = subst (λ k. IsTrue (is_framed (delimiter_len k) (delimiter_len k) c.args.lexeme.now)) (sym c.literal_kind.ensures) c.requires in
    let quoted = subst (λ n. IsTrue (is_framed n n c.args.lexeme.now)) (sym c.delimiter_len-quotes.ensures) by_kind in
    begins c.delimiter_len-quotes.result c.delimiter_len-quotes.result c.args.lexeme.now c.utf8.lexeme some quoted
