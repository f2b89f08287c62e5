-- Each format string ends with the delimiter of its start.
use Rattle.std.proofs.Common.{rules, ◌≡◌, ℕ, true, IsTrue, List, [], ◌∷◌, ◌++◌, map, sym, subst}
use Rattle.justfile_token.specs.StringKind.{delimiter_len, kind_of}
use Rattle.justfile_vocabulary.specs.declared.format_string_part.FormatStringPart.TheVariants as string_parts
use Rattle.justfile_token.specs.declared.string_kind.StringKind.{StringKind}
use Rattle.justfile_token.specs.declared.token.Token.{Token}
use Rattle.justfile_vocabulary.specs.declared.token_kind.TokenKind.TheVariants as kinds
use Rattle.justfile_round_trip.proofs.LiteralTexts.FormatParts.{AreInFormat, InFormat, continue_inside, end_inside, expression_inside, lexed_inside}
use Rattle.justfile_literal.specs.Literal.{is_part}
use Rattle.justfile_model.specs.Grammars.Expressions as grammar
use Rattle.justfile_model.specs.Grammars.Expressions.{AnyDepth, IsKind, Tokens}
use Rattle.justfile_model.specs.Grammars.Features.{Noted}
use Rattle.justfile_model.specs.Lexing.SignificantTokens.{SignificantToken, significant_tokens}
use Rattle.justfile_model.specs.Lexing.Tok.{Tok, tok_of}
use Rattle.justfile_model.specs.Trees.Tree.{Parts, itself}
use Rattle.justfile_parse_expression.specs.FormatStrings.{AreEnded, IsEnded, IsEndedPastExpression, last_of}
use Rattle.justfile_parse_file.specs.Parsing.{IsOneLex}
use Rattle.justfile_parse_expression.specs.Significant.{TableToken, significant_of}
use Rattle.justfile_parse_file.proofs.Parsed.{framed_test}

parts_ended : {k : StringKind} {d : ℕ} {ps : Parts Tok Tok} {fs : List (Noted Tok)} {ts rest : Tokens} → grammar.FormatParts itself itself AnyDepth d ps fs ts rest → InFormat k ts → IsTrue (is_part k string_parts.End (last_of ps).lexeme)
parts_ended {k} (grammar.end {token = t} {rest = rest} kind) h =
    let e : is_part k string_parts.End t.tok.lexeme ≡ true = framed_test 2 (delimiter_len k) t.tok.lexeme (end_inside t rest kind h) in
    search (rules, e)
parts_ended (grammar.next {token = t} {tokens = ts} kind x ps) h = parts_ended ps (expression_inside itself itself AnyDepth x (continue_inside t ts kind h).1)

start_inside : (before : Tokens) (start : SignificantToken) (following : Tokens) → AreInFormat (before ++ start ∷ following) → IsKind kinds.FormatStringStart start → InFormat (kind_of start.tok.lexeme) following
start_inside [] start following h kind = h.0 kind
start_inside (t ∷ before) start following h kind = start_inside before start following h.1 kind

pub inside_ended : (ts : Tokens) → AreInFormat ts → AreEnded ts
unfolding AreEnded IsEndedPastExpression IsEnded
inside_ended ts h before start following is kind depth e fs rest x ps gs end parts =
    parts_ended parts (expression_inside itself itself AnyDepth x (start_inside before start following (subst AreInFormat is h) kind))

pub ended_lex : (tokens : List Token) (table : List TableToken) → IsOneLex tokens → map significant_of table ≡ significant_tokens (map tok_of tokens) → AreEnded (map significant_of table)
ended_lex tokens table l is = subst AreEnded (sym is) (inside_ended (significant_tokens (map tok_of tokens)) (lexed_inside l.text (map tok_of tokens) l.utf8 l.lexed))
