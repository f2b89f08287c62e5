-- No error of lexing or parsing is an internal error.
use Rattle.std.proofs.Common.{◌≡◌, ℕ, zero, suc, Bool, true, false, cond, eqb, List, [], ◌∷◌, length, drop, get_or, Option, Some, None, Ok, Err, refl, sym, ap, ◌∙◌}
use Rattle.std.specs.Prelude.{◌&&◌, not, nat_eq}
use Rattle.std.specs.List.{starts_with}
use Rattle.std.specs.Str.{bytes_eq}
use Rattle.std.proofs.lemmas.Option.{none-some}
use Rattle.justfile_token.specs.StringKind.{delimiter_len, kind_of, token_kind_of}
use Rattle.justfile_vocabulary.specs.declared.token_kind.TokenKind.TheVariants.{FormatStringStart}
use Rattle.justfile_model.specs.Lexing.Bytes.{is_interpolation_start, is_interpolation_end, is_mixed, closes_levels, first_char}
use Rattle.justfile_token.specs.CompileErrorKind.{internal_message}
use Rattle.justfile_vocabulary.specs.declared.byte_class.ByteClass.{ByteClass}
use Rattle.justfile_vocabulary.specs.declared.byte_class.ByteClass.TheVariants as classes
use Rattle.justfile_token.specs.declared.compile_error.CompileError.{CompileError}
use Rattle.justfile_token.specs.declared.compile_error_kind.CompileErrorKind.{CompileErrorKind}
use Rattle.justfile_token.specs.declared.compile_error_kind.CompileErrorKind.TheVariants.{Internal}
use Rattle.justfile_token.specs.declared.delimiter.Delimiter.{Delimiter}
use Rattle.justfile_token.specs.declared.string_kind.StringDelimiter.{StringDelimiter}
use Rattle.justfile_token.specs.declared.string_kind.StringDelimiter.TheVariants as delimiters
use Rattle.justfile_token.specs.declared.string_kind.StringKind.{StringKind}
use Rattle.justfile_token.specs.declared.token.Token.{Token}
use Rattle.justfile_vocabulary.specs.declared.token_kind.TokenKind.{TokenKind}
use Rattle.justfile_literal.specs.Literal.{IsKindOf}
use Rattle.justfile_vocabulary.specs.ByteClass.{class_of}
use Rattle.justfile_model.specs.Lexing.Lexed.{IsFault, IsSpan}
use Rattle.justfile_model.specs.Readers.ReaderState as reader
use Rattle.justfile_model.specs.Readers.TreeReader as model
use Rattle.justfile_model.specs.Lexing.SignificantTokens.{SignificantToken}
use Rattle.justfile_attribute_rules.specs.RuleErrors.{IsKindOfRule}
use Rattle.justfile_model.specs.Meanings.Rules as rules
use Rattle.justfile_model.specs.Meanings.Rules.{Rule}
use Rattle.justfile_parse_file.specs.Errors.{IsErrorOf, IsUnexpected}
use Rattle.justfile_parse_base.specs.ParseErrors.{IsAfterVariadic, IsExpectedKeyword, IsExtraneous, IsUnknownSetting}
use Rattle.justfile_model.specs.Lexing.LexicalFault.{LexicalFault, NotLexical, LexicalError, Here, Unclosed, lexical_fault_of}
use Rattle.justfile_model.specs.Lexing.LiteralText.{raw_len}
use Rattle.justfile_model.specs.Lexing.Modes.{Mode, head_of, innermost, is_empty, mode, nested}
use Rattle.justfile_model.specs.Lexing.Next.{NextToken, doubled_token, fixed_token, unterminated, literal_part, closing_delimiter, format_kind, brace_by, closing, escaped_line_end, token_by_class, text_or, body_token, at_end_by, Region, InText, InInterpolation, OutsideText, region_by, token_in_region, token_within_line, blanks_or, layout, next_by, next, is_same, is_backtick, begins_blank_line, is_level, tested_blanks}
use Rattle.justfile_model.specs.Lexing.Tok.{Tok}
use Rattle.justfile_model.specs.declared.open_delimiter.OpenDelimiter.{OpenDelimiter}
use Rattle.justfile_model.specs.declared.raw_text.RawText.TheVariants as raw_texts

abbrev is_lexical : LexicalFault → Bool
is_lexical NotLexical = false
is_lexical _ = true

abbrev lexical_found : NextToken → Bool
lexical_found (Err (Here fault skip span)) = is_lexical fault
lexical_found _ = true

record Lexical (found : NextToken) : Type 0 where
  is : lexical_found found ≡ true

if_lexical : (b : Bool) {x y : NextToken} → Lexical x → Lexical y → Lexical (cond b x y)
if_lexical true l r = l
if_lexical false l r = r

token : (kind : TokenKind) (n : ℕ) → Lexical (Ok (kind, n))
token kind n = record { is = refl }

here : (fault : LexicalFault) (skip span : ℕ) → is_lexical fault ≡ true → Lexical (Err (Here fault skip span))
here fault skip span h = record { is = h }

module _ (rest : List ℕ) where
  twice_lexical : (b : ℕ) (kind : TokenKind) → Lexical (doubled_token b kind rest)
  twice_lexical b kind = if_lexical (eqb (get_or rest 1 0) b) (token _ _) (if_lexical (eqb (length (drop 1 rest)) 0) (here _ _ _ refl) (here _ _ _ refl))

  fixed_lexical : (b : ℕ) → Lexical (fixed_token b rest)
  unfolding fixed_token
  fixed_lexical b =
      let c = get_or rest 1 0 in
      if_lexical (eqb b 33) (if_lexical (eqb c 61) (token _ _) (if_lexical (eqb c 126) (token _ _) (token _ _)))
      (if_lexical (eqb b 38) (twice_lexical _ _)
      (if_lexical (eqb b 124) (twice_lexical _ _)
      (if_lexical (eqb b 43) (if_lexical (eqb c 43) (token _ _) (token _ _))
      (if_lexical (eqb b 61) (if_lexical (eqb c 61) (token _ _) (if_lexical (eqb c 126) (token _ _) (token _ _)))
      (if_lexical (eqb b 58) (if_lexical (eqb c 61) (token _ _) (if_lexical (eqb c 58) (token _ _) (token _ _)))
      (if_lexical (eqb b 36) (token _ _)
      (if_lexical (eqb b 42) (token _ _)
      (if_lexical (eqb b 44) (token _ _)
      (if_lexical (eqb b 47) (token _ _)
      (if_lexical (eqb b 63) (token _ _)
      (if_lexical (eqb b 64) (token _ _) (here _ _ _ refl))))))))))))

  unterminated_lexical : (d : StringDelimiter) → is_lexical (unterminated d) ≡ true
  unterminated_lexical delimiters.Backtick = refl
  unterminated_lexical _ = refl

  part_lexical : (k : StringKind) (format : Bool) (opener : ℕ) (more whole : TokenKind) → Lexical (literal_part k format opener more whole rest)
  unfolding literal_part
  part_lexical k format opener more whole =
      let n = raw_len (raw_texts.Literal k format) (drop opener rest) in
      if_lexical (eqb n (length (drop opener rest))) (here _ _ _ (unterminated_lexical k.delimiter)) (if_lexical (format && is_interpolation_start (drop n (drop opener rest))) (token _ _) (token _ _))

  close_lexical : (o : Option OpenDelimiter) (d : Delimiter) (kind : TokenKind) → Lexical (closing_delimiter o d kind)
  close_lexical None d kind = here _ _ _ refl
  close_lexical (Some o) d kind = if_lexical (is_same o.delimiter d) (token _ _) (here _ _ _ refl)

  brace_lexical : (o : Option StringKind) (last : Option OpenDelimiter) → Lexical (brace_by o last rest)
  brace_lexical None last = close_lexical last _ _
  brace_lexical (Some k) last = if_lexical (is_interpolation_end rest) (part_lexical k _ _ _ _) (close_lexical last _ _)

  closing_lexical : (last : Option OpenDelimiter) (b : ℕ) → Lexical (closing last b rest)
  closing_lexical last b =
      if_lexical (eqb b 41) (close_lexical last _ _)
      (if_lexical (eqb b 93) (close_lexical last _ _)
      (if_lexical (eqb b 125) (brace_lexical (format_kind last) last) (here _ _ _ refl)))

  escape_lexical : Lexical (escaped_line_end rest)
  escape_lexical =
      let c = get_or rest 1 0 in
      if_lexical (eqb c 10) (token _ _)
      (if_lexical (eqb c 13) (if_lexical (eqb (get_or rest 2 0) 10) (token _ _) (here _ _ _ refl))
      (if_lexical (eqb (length (drop 1 rest)) 0) (here _ _ _ refl) (here _ _ _ refl)))

  inline_lexical : (m : Mode) (k : ByteClass) → Lexical (token_by_class m k rest)
  unfolding token_by_class
  inline_lexical m classes.Blank = token _ _
  inline_lexical m classes.LineFeed = if_lexical (nested m) (token _ _) (token _ _)
  inline_lexical m classes.CarriageReturn = if_lexical (eqb (get_or rest 1 0) 10) (if_lexical (nested m) (token _ _) (token _ _)) (here _ _ _ refl)
  inline_lexical m classes.IdentifierStart = token _ _
  inline_lexical m classes.IdentifierContinue = here _ _ _ refl
  inline_lexical m classes.Quote = let k = kind_of rest in part_lexical k (m.after_f && not (is_backtick k.delimiter)) (delimiter_len k) FormatStringStart (token_kind_of k.delimiter)
  inline_lexical m classes.Opener =
      if_lexical (eqb (get_or rest 0 0) 40) (token _ _)
      (if_lexical (eqb (get_or rest 0 0) 91) (token _ _)
      (if_lexical (eqb (get_or rest 0 0) 123) (token _ _) (here _ _ _ refl)))
  inline_lexical m classes.Closer = closing_lexical (head_of m.openers) (get_or rest 0 0)
  inline_lexical m classes.Fixed = fixed_lexical (get_or rest 0 0)
  inline_lexical m classes.Lead = if_lexical (eqb (first_char rest) 65279) (token _ _) (here _ _ _ refl)
  inline_lexical m classes.Other = if_lexical (eqb (get_or rest 0 0) 35) (token _ _) (if_lexical (eqb (get_or rest 0 0) 92) escape_lexical (here _ _ _ refl))

  text_lexical : (n b : ℕ) → Lexical (text_or n b)
  text_lexical zero b = if_lexical (eqb b 10) (token _ _) (if_lexical (eqb b 13) (token _ _) (token _ _))
  text_lexical (suc n) b = token _ _

  region_lexical : (p : Region) (m : Mode) → Lexical (token_in_region p m rest)
  unfolding body_token
  region_lexical InText m = text_lexical (raw_len raw_texts.Body rest) (get_or rest 0 0)
  region_lexical InInterpolation m = if_lexical (is_empty m.openers && is_interpolation_end rest) (token _ _) (inline_lexical m (class_of (get_or rest 0 0)))
  region_lexical OutsideText m = inline_lexical m (class_of (get_or rest 0 0))

  inside_lexical : (m : Mode) → Lexical (token_within_line m rest)
  unfolding token_within_line
  inside_lexical m = region_lexical (region_by m.in_body m.interpolation) m

  blanks_lexical : (n : ℕ) (m : Mode) → Lexical (blanks_or n m rest)
  blanks_lexical zero m = inside_lexical m
  blanks_lexical (suc n) m = token _ _

  layout_lexical : (m : Mode) (found following : List ℕ) → Lexical (layout m found following rest)
  unfolding layout
  layout_lexical m found following =
      let level = innermost m in
      if_lexical (nested m) (blanks_lexical _ m)
      (if_lexical (begins_blank_line following) (if_lexical (not (is_empty m.levels) && closes_levels false rest) (token _ _) (blanks_lexical _ m))
      (if_lexical (bytes_eq found level) (blanks_lexical _ m)
      (if_lexical (is_level m.levels found) (token _ _)
      (if_lexical (m.in_body && starts_with nat_eq found level) (blanks_lexical _ m)
      (if_lexical (is_mixed (tested_blanks m found)) (here _ _ _ refl)
      (if_lexical (not (starts_with nat_eq found level)) (here _ _ _ refl) (token _ _)))))))

  next_by_lexical : (b : Bool) (m : Mode) → Lexical (next_by b m rest)
  next_by_lexical true m = layout_lexical m _ _
  next_by_lexical false m = inside_lexical m

end_lexical : (o : Option Tok) (levels : List (List ℕ)) → Lexical (at_end_by o levels)
end_lexical (Some t) levels = record { is = refl }
end_lexical None levels = if_lexical (is_empty levels) (token _ _) (token _ _)

next_lexical : (m : Mode) (rest : List ℕ) → Lexical (next m rest)
unfolding next
next_lexical m [] = end_lexical m.interpolation m.levels
next_lexical m (b ∷ bs) = next_by_lexical (b ∷ bs) m.line_start m

span_lexical : (text : List ℕ) (earlier : List Tok) (fault : LexicalFault) (t : Tok) (refusal : LexicalError) → lexical_found (Err refusal) ≡ true → IsSpan text earlier refusal fault t → is_lexical fault ≡ true
span_lexical text earlier fault t (Here p skip n) h s = ap is_lexical s.0 ∙ h
span_lexical text earlier fault t (Unclosed u) h s = ap is_lexical s.0

fault_lexical : (text : List ℕ) (fault : LexicalFault) (t : Tok) → IsFault text fault t → is_lexical fault ≡ true
fault_lexical text fault t h =
    let found = (next_lexical (mode h.earlier) (drop _ text)).is in
    span_lexical text h.earlier fault t h.refusal (ap lexical_found (sym h.refused) ∙ found) h.spans

pub not_lexical : (text : List ℕ) (fault : LexicalFault) (t : Tok) → fault ≡ NotLexical → IsFault text fault t → ⊥
not_lexical text fault t other h = never (ap is_lexical (sym other) ∙ fault_lexical text fault t h)
  where
    never : false ≡ true → ⊥
    never e = cc

-- a kind of which something is said that isn't said of an internal error
never_internal : (Says : CompileErrorKind → Type 0) → ((message : _) → Says (Internal message) → ⊥) → (kind : CompileErrorKind) → Says kind → internal_message kind ≡ None
never_internal Says never (Internal message) h = absurd (never message h)
never_internal Says never _ h = refl

pub not_internal : (text : List ℕ) (kind : CompileErrorKind) (t : Tok) → IsFault text (lexical_fault_of kind) t → internal_message kind ≡ None
not_internal text kind t h = never_internal (λ k. IsFault text (lexical_fault_of k) t) (λ message k. not_lexical text NotLexical t refl k) kind h

-- ---- parsing

says_internal : (at : Token) (rule : Rule Token) (message : _) → IsKindOfRule at rule (Internal message) → ⊥
says_internal at (rules.UnknownAttribute name) message h = h
says_internal at _ message h = h

pub refusal_not_internal : (tokens : List SignificantToken) (r : model.ReadError) (e : CompileError) → IsErrorOf tokens r e → internal_message e.kind ≡ None
refusal_not_internal tokens (reader.Unexpected at) e h = never_internal (λ kind. IsUnexpected kind e.token) (λ message k. k) e.kind h.0
refusal_not_internal tokens (reader.TooDeep at) e h = ap internal_message h.0
refusal_not_internal tokens (reader.NotCooked fault t) e h = never_internal (IsKindOf fault) (λ message k. none-some fault k) e.kind h.0
refusal_not_internal tokens (reader.BreaksRule rule) e h = never_internal (IsKindOfRule h.rule.token h.rule.rule) (says_internal h.rule.token h.rule.rule) e.kind h.error.says
refusal_not_internal tokens (reader.Extraneous count opener) e h = never_internal (IsExtraneous count) (λ message k. k) e.kind h.0
refusal_not_internal tokens (reader.AfterVariadic name) e h = never_internal (IsAfterVariadic e.token) (λ message k. k) e.kind h.0
refusal_not_internal tokens (reader.UnknownSetting name) e h = never_internal (IsUnknownSetting e.token) (λ message k. k) e.kind h.0
refusal_not_internal tokens (reader.ExpectedKeyword expected found) e h = never_internal (IsExpectedKeyword expected e.token) (λ message k. k) e.kind h.0
refusal_not_internal tokens (reader.NoNumber counters) e h = absurd h
