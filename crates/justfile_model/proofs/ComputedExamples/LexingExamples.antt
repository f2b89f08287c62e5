-- Examples for the laws of lexing, by computation: the cases of each law occur.
use Rattle.std.proofs.Common.{◌≡◌, ℕ, true, false, List, [], ◌∷◌, ◌++◌, inl, Ok, Err, refl, sym, ap, subst, codes}
use Rattle.std.specs.Prelude.{reverse}
use Rattle.std.proofs.lemmas.List.Elements.{All-nil}
use Rattle.std.specs.Char.{encode_utf8}
use Rattle.std.specs.Str.{chars, is_utf8}
use Rattle.justfile_vocabulary.specs.ByteClass.{class_of}
use Rattle.justfile_token.specs.declared.delimiter.Delimiter.TheVariants.{Paren}
use Rattle.justfile_token.specs.declared.string_kind.StringDelimiter.TheVariants.{QuoteDouble, QuoteSingle}
use Rattle.justfile_token.specs.declared.string_kind.StringKind.{StringKind}
use Rattle.justfile_vocabulary.specs.declared.token_kind.TokenKind.{TokenKind}
use Rattle.justfile_vocabulary.specs.declared.token_kind.TokenKind.TheVariants.{Colon, Dedent, Eof, Eol, FormatStringStart, Identifier, Indent, InterpolationEnd, InterpolationStart, ParenL, ParenR, StringToken, Text}
use Rattle.justfile_model.specs.declared.raw_text.RawText.{RawText}
use Rattle.justfile_model.specs.declared.raw_text.RawText.TheVariants.{Literal}
use Rattle.justfile_model.specs.Lexing.BlankLines.{BeginsWithWhiteLines, IsAtLineStart}
use Rattle.justfile_model.specs.Lexing.Bodies.{IsInBody}
use Rattle.justfile_model.specs.Lexing.Bytes.{closes_levels}
use Rattle.justfile_model.specs.Lexing.Lexed.{Begins, Lexed}
use Rattle.justfile_model.specs.Lexing.LiteralParts.{IsPart}
use Rattle.justfile_model.specs.Lexing.LiteralText.{pieces_len}
use Rattle.justfile_model.specs.Lexing.Modes.{Mode, start_mode, tail_of}
use Rattle.justfile_model.specs.Lexing.Next.{NextToken, body_token, fixed_token, token_by_class, token_within_line, layout, literal_part, next}
use Rattle.justfile_model.specs.Lexing.Pieces.{HasNoEnd, IsInside}
use Rattle.justfile_model.specs.Lexing.Places.{column_at, last_line_start, line_of_offset}
use Rattle.justfile_model.specs.Lexing.Tok.{Tok, tok}
use Rattle.justfile_model.specs.Lexing.Unclosed.{UnclosedDelimiters, UnclosedInterpolations, UnclosedLevels}
use Rattle.justfile_model.proofs.Lexing.AnswerLaws.{at, fault_of, is_eof, span_of}
use Rattle.justfile_model.proofs.Lexing.BlankLineLaws.{dedent_law}
use Rattle.justfile_model.proofs.Lexing.BodyLaws.{body_law}
use Rattle.justfile_model.proofs.Lexing.Computed.{answer, computed}
use Rattle.justfile_model.proofs.Lexing.LiteralPartLaws.{part_law}
use Rattle.justfile_model.proofs.Lexing.ModeLaws.{delimiters_law, interpolations_law, levels_law}
use Rattle.justfile_model.proofs.Lexing.PieceLaws.{inside_law, no_end_law}

-- ---- `"a\"b" c`: the quote after the backslash isn't an end

abbrev double : StringKind
double = record { delimiter = QuoteDouble; indented = false }

abbrev in_double : RawText
in_double = Literal double false

escaped_quote : IsInside in_double (codes "a\\\"b") (codes "\" c")
unfolding pieces_len
escaped_quote = (inside_law in_double (codes "a\\\"b") (codes "\" c")).0 (refl, λ e. cc)

whole_literal : IsPart double false FormatStringStart StringToken (codes "\"") (codes "a\\\"b\" c") (Ok (StringToken, 6))
unfolding literal_part pieces_len
whole_literal = (part_law double false FormatStringStart StringToken (codes "\"") (codes "a\\\"b\" c") _).0 refl

no_closing_quote : HasNoEnd in_double (codes "a\\\"")
unfolding pieces_len
no_closing_quote = (no_end_law in_double (codes "a\\\"")).0 refl

-- ---- `f'a{{{{b{{c}}'`: four braces are text, and two are an end

abbrev in_format : RawText
in_format = Literal (record { delimiter = QuoteSingle; indented = false }) true

start_of_format_string : IsPart (record { delimiter = QuoteSingle; indented = false }) true FormatStringStart StringToken (codes "'") (codes "a{{{{b{{c}}'") (Ok (FormatStringStart, 9))
unfolding literal_part pieces_len
start_of_format_string = (part_law (record { delimiter = QuoteSingle; indented = false }) true FormatStringStart StringToken (codes "'") (codes "a{{{{b{{c}}'") _).0 refl

four_braces : IsInside in_format (codes "a{{{{b") (codes "{{c}}'")
unfolding pieces_len
four_braces = (inside_law in_format (codes "a{{{{b") (codes "{{c}}'")).0 (refl, λ e. cc)

-- ---- a recipe, up to the parenthesis of an interpolation

abbrev recipe : List ℕ
recipe = codes "a:\n b{{(c)}}\n"

abbrev start_of_interpolation : Tok
start_of_interpolation = tok InterpolationStart (codes "{{") 5 1 2

-- the tokens up to the parenthesis, the last one first
abbrev up_to_paren : List Tok
up_to_paren = tok ParenL (codes "(") 7 1 4 ∷ start_of_interpolation ∷ tok Text (codes "b") 4 1 1 ∷ tok Indent (codes " ") 3 1 0 ∷ tok Eol (codes "\n") 2 0 2 ∷ tok Colon (codes ":") 1 0 1 ∷ tok Identifier (codes "a") 0 0 0 ∷ []

abbrev after_paren : List Tok
after_paren = tok Identifier (codes "c") 8 1 5 ∷ tok ParenR (codes ")") 9 1 6 ∷ tok InterpolationEnd (codes "}}") 10 1 7 ∷ tok Eol (codes "\n") 12 1 9 ∷ tok Dedent [] 13 1 10 ∷ tok Eof [] 13 1 10 ∷ []

whole : Lexed recipe (reverse up_to_paren ++ after_paren)
unfolding answer at fault_of is_eof span_of class_of closes_levels pieces_len body_token fixed_token token_by_class token_within_line layout literal_part next column_at last_line_start line_of_offset chars encode_utf8 is_utf8
whole = computed recipe refl

begun : Begins recipe up_to_paren
begun = (subst (Begins recipe) (sym (ap tail_of whole.are)) whole.begins).0.0.0.0.0

open_delimiters : UnclosedDelimiters (reverse up_to_paren) (record { delimiter = Paren; line = 1 } ∷ [])
open_delimiters = (delimiters_law recipe up_to_paren begun _).0 refl

open_levels : UnclosedLevels (reverse up_to_paren) (codes " " ∷ [])
open_levels = (levels_law recipe up_to_paren begun _).0 refl

open_interpolations : UnclosedInterpolations (reverse up_to_paren) (start_of_interpolation ∷ [])
open_interpolations = (interpolations_law recipe up_to_paren begun _).0 refl

in_a_body : IsInBody (reverse up_to_paren)
in_a_body = (body_law up_to_paren).0 refl

-- ---- a blank line in a body, before an item or before another line of the body

abbrev in_recipe : Mode
in_recipe = record start_mode { levels = codes " " ∷ []; colon = true; in_body = true }

at_line_start : IsAtLineStart in_recipe
at_line_start = record { line_start = refl; no_delimiter = refl; no_interpolation = refl }

before_item : BeginsWithWhiteLines (codes "\n \r\nb:")
unfolding class_of closes_levels layout next
before_item = (dedent_law in_recipe at_line_start (λ e. cc) (codes "\n \r\nb:") (λ e. cc) (record { blanks = []; follows = codes "\n \r\nb:"; are = refl; are_blanks = All-nil _; ends = inl refl })).0 refl

another_kind : ◌≡◌ {A = NextToken} (Ok (Eol, 1)) (Ok (Dedent, 0)) → ⊥
another_kind e = apart (ap kind e)
  where
    kind : NextToken → TokenKind
    kind (Ok x) = x.0
    kind (Err r) = Eof

    apart : Eol ≡ Dedent → ⊥
    apart e = cc

before_line : BeginsWithWhiteLines (codes "\n b") → ⊥
unfolding class_of closes_levels pieces_len body_token token_within_line layout next
before_line w =
    another_kind ((dedent_law in_recipe at_line_start (λ e. cc) (codes "\n b") (λ e. cc) (record { blanks = []; follows = codes "\n b"; are = refl; are_blanks = All-nil _; ends = inl refl })).1 w)
