-- Literals that are written as what they mean.
use Rattle.std.proofs.Common.{◌≡◌, ◌∙◌, ◌+◌, ◌++◌, ◌≤◌, ℕ, List, true, drop, length, sym, ap, arith, string_bytes}
use Rattle.std.proofs.lemmas.List.{length-append, length-drop, length-replicate, length-take-le}
use Rattle.std.proofs.lemmas.Slice.Eq.{bytes_eq-Decides}
use Rattle.justfile_token.specs.StringKind.{delimiter_len, delimiter_text, quote_of}
use Rattle.justfile_token.specs.Token.{lexeme_of}
use Rattle.justfile_token.specs.declared.string_literal.StringLiteral.{StringLiteral}
use Rattle.justfile_mentions.specs.Arguments.{is_plain}

-- such a literal is at least as long as its delimiter
pub has_quotes : (l : StringLiteral) → is_plain l ≡ true → delimiter_len l.kind ≤ l.token.length
has_quotes l plain =
    let front = delimiter_text l.kind ++ string_bytes l.cooked in
    let is : lexeme_of l.token ≡ front ++ delimiter_text l.kind = (bytes_eq-Decides _ _).0 plain in
    let long : length (lexeme_of l.token) ≡ l.token.length =
    length-take-le l.token.length (drop l.token.offset l.token.src.now) (omega (arith, l.token.in_source.0, length-drop l.token.offset l.token.src.now))
    in
    let quotes : length (delimiter_text l.kind) ≡ delimiter_len l.kind = length-replicate (delimiter_len l.kind) (quote_of l.kind.delimiter) in
    let both : l.token.length ≡ length front + delimiter_len l.kind = sym long ∙ ap (λ (bs : List ℕ). length bs) is ∙ length-append front (delimiter_text l.kind) ∙ ap (λ n. length front + n) quotes in
    omega (arith, both)
