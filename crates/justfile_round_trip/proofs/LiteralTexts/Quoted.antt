-- A literal begins and ends with its delimiter, and a part of a format string with a delimiter or two braces.
use Rattle.std.proofs.Common.{◌≡◌, ℕ, ◌+◌, ◌-◌, ◌<◌, ◌≤◌, Bool, true, false, List, [], ◌∷◌, ◌++◌, length, get_or, take, drop, Option, Some, None, refl, sym, ap, ◌∙◌, subst, arith, append_assoc, add-zero, get_or-drop}
use Rattle.std.proofs.lemmas.List.{append-nil, length-append}
use Rattle.std.specs.Str.{IsUtf8}
use Rattle.justfile_vocabulary.specs.declared.token_kind.TokenKind.{TokenKind}
use Rattle.justfile_vocabulary.specs.declared.token_kind.TokenKind.TheVariants as kinds
use Rattle.justfile_token.specs.declared.string_kind.StringDelimiter.{StringDelimiter}
use Rattle.justfile_token.specs.declared.string_kind.StringDelimiter.TheVariants.{Backtick}
use Rattle.justfile_token.specs.declared.string_kind.StringKind.{StringKind}
use Rattle.justfile_token.specs.StringKind.{delimiter_len, delimiter_text, kind_of}
use Rattle.justfile_model.specs.Lexing.Tok.{Tok}
use Rattle.justfile_model.specs.Lexing.Lexed.{Lexed}
use Rattle.justfile_model.specs.Lexing.SignificantTokens.{SignificantToken, significant_tokens}
use Rattle.justfile_round_trip.proofs.LiteralTexts.LexedModes.{take_front, drop_front}
use Rattle.justfile_round_trip.proofs.LiteralTexts.Inline.{delimiter_of, delimiter_length, IsPart}
use Rattle.justfile_round_trip.proofs.Good.{IsDelimited, IsPartOf, IsPartOfOpen}
use Rattle.justfile_round_trip.proofs.Values.TokenFacts.{Around, innermost, around, is_comment, outside, LexemeFact, Sound, lexed_sound}

-- The delimiter of this kind is at the front, and again at the end.
pub record IsQuotedBy (k : StringKind) (l : List ℕ) : Type 0 where
  pub long : delimiter_len k + delimiter_len k ≤ length l
  pub opens : take (delimiter_len k) l ≡ delimiter_text k
  pub closes : drop (length l - delimiter_len k) l ≡ delimiter_text k
  -- the byte before the inside of the literal, and the byte after it, are ASCII
  pub before : get_or l (delimiter_len k - 1) 0 < 128
  pub following : get_or l (length l - delimiter_len k) 0 < 128

-- by its own kind
abbrev pub IsQuoted : List ℕ → Type 0
IsQuoted l = IsQuotedBy (kind_of l) l

text_is : (d : StringDelimiter) (i : Bool) → delimiter_of (record { delimiter = d; indented = i }) ≡ delimiter_text (record { delimiter = d; indented = i })
text_is d true = refl
text_is d false = refl

ascii_front : (d : StringDelimiter) (i : Bool) (more : List ℕ) → get_or (delimiter_of (record { delimiter = d; indented = i }) ++ more) (delimiter_len (record { delimiter = d; indented = i }) - 1) 0 < 128
ascii_front Backtick true more = omega arith
ascii_front _ true more = omega arith
ascii_front _ _ more = omega arith

ascii_first : (d : StringDelimiter) (i : Bool) → get_or (delimiter_of (record { delimiter = d; indented = i })) 0 0 < 128
ascii_first Backtick i = omega arith
ascii_first _ i = omega arith

quoted_by : (k : StringKind) (inner : List ℕ) → IsQuotedBy k (delimiter_of k ++ (inner ++ delimiter_of k))
quoted_by k inner =
    let q = delimiter_of k in
    let l : List ℕ = q ++ (inner ++ q) in
    let size : length l ≡ length q + length inner + length q = omega (arith, length-append q (inner ++ q), length-append inner q) in
    let width = delimiter_length k in
    let place : length l - delimiter_len k ≡ length (q ++ inner) = omega (arith, size, width, length-append q inner) in
    let end : drop (length l - delimiter_len k) l ≡ q = ap (λ n. drop n l) place ∙ ap (drop (length (q ++ inner))) (sym (append_assoc q inner q)) ∙ drop_front (q ++ inner) q in
    record {
      long = omega (arith, size, width);
      opens = ap (λ n. take n l) width ∙ take_front q (inner ++ q) ∙ text_is k.delimiter k.indented;
      closes = end ∙ text_is k.delimiter k.indented;
      before = ascii_front k.delimiter k.indented (inner ++ q);
      following = subst (λ b. b < 128) (ap (λ x. get_or x 0 0) (sym end) ∙ get_or-drop (length l - delimiter_len k) l 0 0 ∙ ap (λ i. get_or l i 0) (add-zero (length l - delimiter_len k))) (ascii_first k.delimiter k.indented);
    }

pub delimited_quoted : (q : TokenKind) (l : List ℕ) → IsDelimited q l → IsQuoted l
delimited_quoted q l s =
    let kind : kind_of l ≡ s.kind = ap kind_of (sym (append-nil l)) ∙ s.literal.opens [] refl in
    subst (λ k. IsQuotedBy k l) (sym kind) (subst (IsQuotedBy s.kind) (sym s.literal.is) (quoted_by s.kind s.literal.inner))

-- each string literal and each command between backticks of a text is quoted
abbrev pub AreQuoted : List SignificantToken → Type 0
AreQuoted [] = Unit {0}
AreQuoted (t ∷ ts) = (t.tok.kind ≡ kinds.StringToken → IsQuoted t.tok.lexeme) × (t.tok.kind ≡ kinds.Backtick → IsQuoted t.tok.lexeme) × AreQuoted ts

sound_quoted : (s : Around) (comment : Bool) (ts : List SignificantToken) → Sound s comment ts → AreQuoted ts
sound_quoted s comment [] h = tt
sound_quoted s comment (t ∷ ts) h = (
  λ kind. delimited_quoted kinds.StringToken t.tok.lexeme (subst (λ k. LexemeFact s k t.tok.lexeme) kind h.0.fact),
  λ kind. delimited_quoted kinds.Backtick t.tok.lexeme (subst (λ k. LexemeFact s k t.tok.lexeme) kind h.0.fact),
  sound_quoted (around t.tok.kind t.tok.lexeme s) (is_comment t.tok.kind) ts h.2,
)

pub lexed_quoted : (text : List ℕ) (tokens : List Tok) → IsUtf8 text → Lexed text tokens → AreQuoted (significant_tokens tokens)
lexed_quoted text tokens u l = sound_quoted outside false (significant_tokens tokens) (lexed_sound text tokens u l)

-- ---- parts of format strings

-- Without this many bytes at its two ends, the lexeme is a text between two ASCII bytes.
pub record IsFramed (front end : ℕ) (l : List ℕ) : Type 0 where
  pub long : front + end ≤ length l
  pub before : get_or l (front - 1) 0 < 128
  pub following : get_or l (length l - end) 0 < 128

framed : (a inner b : List ℕ) (n : ℕ) → length a ≡ n → get_or (a ++ (inner ++ b)) (n - 1) 0 < 128 → get_or b 0 0 < 128 → IsFramed n (length b) (a ++ (inner ++ b))
framed a inner b n width first last =
    let l : List ℕ = a ++ (inner ++ b) in
    let size : length l ≡ length a + length inner + length b = omega (arith, length-append a (inner ++ b), length-append inner b) in
    let place : length l - length b ≡ length (a ++ inner) = omega (arith, size, length-append a inner) in
    let end : drop (length l - length b) l ≡ b = ap (λ n. drop n l) place ∙ ap (drop (length (a ++ inner))) (sym (append_assoc a inner b)) ∙ drop_front (a ++ inner) b in
    record {
      long = omega (arith, size, width);
      before = first;
      following = subst (λ b. b < 128) (ap (λ x. get_or x 0 0) (sym end) ∙ get_or-drop (length l - length b) l 0 0 ∙ ap (λ i. get_or l i 0) (add-zero (length l - length b))) last;
    }

-- a part by its kind: how many bytes are before its text, and how many after it
start_framed : (k : StringKind) (l : List ℕ) → IsPart k (delimiter_of k) false l → IsFramed (delimiter_len k) 2 l
start_framed k l h = subst (IsFramed (delimiter_len k) 2) (sym h.is) (framed (delimiter_of k) h.inner (123 ∷ 123 ∷ []) (delimiter_len k) (sym (delimiter_length k)) (ascii_front k.delimiter k.indented (h.inner ++ (123 ∷ 123 ∷ []))) (omega arith))

pub continue_framed : (k : StringKind) (l : List ℕ) → IsPartOf k false l → IsFramed 2 2 l
continue_framed k l h = subst (IsFramed 2 2) (sym h.is) (framed (125 ∷ 125 ∷ []) h.inner (123 ∷ 123 ∷ []) 2 refl (omega arith) (omega arith))

pub end_framed : (k : StringKind) (l : List ℕ) → IsPartOf k true l → IsFramed 2 (delimiter_len k) l
end_framed k l h =
    subst (IsFramed 2 (delimiter_len k)) (sym h.is)
    (subst (λ n. IsFramed 2 n ((125 ∷ 125 ∷ []) ++ (h.inner ++ delimiter_of k))) (sym (delimiter_length k)) (framed (125 ∷ 125 ∷ []) h.inner (delimiter_of k) 2 refl (omega arith) (ascii_first k.delimiter k.indented)))

-- each start of a format string of a text is framed, and so is each part between two expressions; each end for some kind
abbrev pub AreFramed : List SignificantToken → Type 0
AreFramed [] = Unit {0}
AreFramed (t ∷ ts) = (t.tok.kind ≡ kinds.FormatStringStart → IsFramed (delimiter_len (kind_of t.tok.lexeme)) 2 t.tok.lexeme) × (t.tok.kind ≡ kinds.FormatStringContinue → IsFramed 2 2 t.tok.lexeme)
    × (t.tok.kind ≡ kinds.FormatStringEnd → (k : StringKind) × IsFramed 2 (delimiter_len k) t.tok.lexeme) × AreFramed ts

open_continue : (o : Option StringKind) (l : List ℕ) → IsPartOfOpen o false l → IsFramed 2 2 l
open_continue None l h = absurd h
open_continue (Some k) l h = continue_framed k l h

open_end : (o : Option StringKind) (l : List ℕ) → IsPartOfOpen o true l → (k : StringKind) × IsFramed 2 (delimiter_len k) l
open_end None l h = absurd h
open_end (Some k) l h = (k, end_framed k l h)

sound_framed : (s : Around) (comment : Bool) (ts : List SignificantToken) → Sound s comment ts → AreFramed ts
sound_framed s comment [] h = tt
sound_framed s comment (t ∷ ts) h = (
  λ kind. start_framed (kind_of t.tok.lexeme) t.tok.lexeme (subst (λ k. LexemeFact s k t.tok.lexeme) kind h.0.fact).part,
  λ kind. open_continue (innermost s.openers) t.tok.lexeme (subst (λ k. LexemeFact s k t.tok.lexeme) kind h.0.fact),
  λ kind. open_end (innermost s.openers) t.tok.lexeme (subst (λ k. LexemeFact s k t.tok.lexeme) kind h.0.fact),
  sound_framed (around t.tok.kind t.tok.lexeme s) (is_comment t.tok.kind) ts h.2,
)

pub lexed_framed : (text : List ℕ) (tokens : List Tok) → IsUtf8 text → Lexed text tokens → AreFramed (significant_tokens tokens)
lexed_framed text tokens u l = sound_framed outside false (significant_tokens tokens) (lexed_sound text tokens u l)
