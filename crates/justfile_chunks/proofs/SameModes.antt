-- Modes that differ in lines, in places and in a pending colon differ in no more after the same tokens, if none of their indents needs that colon.
use Rattle.std.proofs.Common.{◌≡◌, ◌≢◌, ◌∙◌, ℕ, Bool, true, false, ◌||◌, List, [], ◌∷◌, map, Option, Some, None, Ok, Err, refl, sym, ap, arith}
use Rattle.std.proofs.lemmas.Bool.Decides.{nat_tests}
use Rattle.std.specs.Str.{bytes_eq}
use Rattle.justfile_vocabulary.specs.declared.token_kind.TokenKind.{TokenKind}
use Rattle.justfile_vocabulary.specs.declared.token_kind.TokenKind.TheVariants as kinds
use Rattle.justfile_token.specs.declared.delimiter.Delimiter.TheVariants.{Brace, Bracket, FormatString, Paren}
use Rattle.justfile_token.specs.StringKind.{kind_of}
use Rattle.justfile_model.specs.declared.open_delimiter.OpenDelimiter.{OpenDelimiter}
use Rattle.justfile_model.specs.Lexing.Modes.{Mode, ends_in_line_feed, mode_after, tail_of}
use Rattle.justfile_model.specs.Lexing.Next.{NextToken}
use Rattle.justfile_model.specs.Lexing.Tok.{Tok}
use Rattle.justfile_round_trip.proofs.LiteralTexts.LexedModes.{Sign, sign}
use Rattle.justfile_chunks.proofs.Colons.{NeedsColon, colon_after}
use Rattle.justfile_chunks.proofs.SameNext.{SameFound, SameMode, delimiters, found}

tail_same : (os : List OpenDelimiter) → delimiters (tail_of os) ≡ tail_of (delimiters os)
tail_same [] = refl
tail_same (o ∷ os) = refl

tails : (os ps : List OpenDelimiter) → delimiters os ≡ delimiters ps → delimiters (tail_of os) ≡ delimiters (tail_of ps)
tails os ps e = tail_same os ∙ ap tail_of e ∙ sym (tail_same ps)

-- a body begins with an indent in both or in neither
abbrev pub SameIndent : TokenKind → Mode → Mode → Type 0
SameIndent kinds.Indent m n = (m.in_body || m.colon) ≡ (n.in_body || n.colon)
SameIndent _ m n = Unit {0}

-- the modes after a token within a line, with these delimiters open
amid_line : {m n : Mode} {os ps : List OpenDelimiter} → SameMode m n → delimiters os ≡ delimiters ps
    → SameMode (record m { openers = os; line_start = false; after_f = false }) (record n { openers = ps; line_start = false; after_f = false })
amid_line s e = assumption (s, e)

-- the modes after a token of this kind and this text
pub same_after : (k : TokenKind) (t u : Tok) (m n : Mode) → t.lexeme ≡ u.lexeme → SameMode m n → SameIndent k m n
    → SameMode (mode_after k t m) (mode_after k u n)
same_after kinds.BraceL t u m n l s e = amid_line s (ap (λ ds. Brace ∷ ds) s.openers)
same_after kinds.BracketL t u m n l s e = amid_line s (ap (λ ds. Bracket ∷ ds) s.openers)
same_after kinds.ParenL t u m n l s e = amid_line s (ap (λ ds. Paren ∷ ds) s.openers)
same_after kinds.FormatStringStart t u m n l s e = amid_line s (λ i. FormatString (kind_of (l i)) ∷ s.openers i)
same_after kinds.BraceR t u m n l s e = amid_line s (tails m.openers n.openers s.openers)
same_after kinds.BracketR t u m n l s e = amid_line s (tails m.openers n.openers s.openers)
same_after kinds.ParenR t u m n l s e = amid_line s (tails m.openers n.openers s.openers)
same_after kinds.FormatStringEnd t u m n l s e = amid_line s (tails m.openers n.openers s.openers)
same_after kinds.Indent t u m n l s e =
    record { openers = s.openers; levels = λ i. l i ∷ s.levels i; in_body = e; interpolation = s.interpolation; line_start = refl; after_f = refl }
same_after kinds.Dedent t u m n l s e = assumption (ap tail_of s.levels, s)
same_after kinds.Whitespace t u m n l s e = assumption (ap ends_in_line_feed l, s)
same_after kinds.Identifier t u m n l s e = assumption (ap (λ b. bytes_eq b (102 ∷ [])) l, s)
same_after _ t u m n l s e = assumption s

-- ---- colons

-- this colon is in both modes
pub record HaveColon (colon : Bool) (m n : Mode) : Type 0 where
  pub first : colon ≡ true → m.colon ≡ true
  pub second : colon ≡ true → n.colon ≡ true

pub colons_kept : (k : TokenKind) (t u : Tok) (m n : Mode) (colon : Bool) → HaveColon colon m n
    → HaveColon (colon_after k colon) (mode_after k t m) (mode_after k u n)
colons_kept kinds.Colon t u m n colon h = record { first = λ e. refl; second = λ e. refl }
colons_kept kinds.Dedent t u m n colon h = record { first = λ e. cc; second = λ e. cc }
colons_kept _ t u m n colon h = record { first = h.first; second = h.second }

pub or_true : (a b : Bool) → b ≡ true → (a || b) ≡ true
or_true a b h = grind (arith, nat_tests)

pub both_indent : (k : TokenKind) (m n : Mode) (colon : Bool) → HaveColon colon m n → NeedsColon k colon → SameIndent k m n
both_indent kinds.Indent m n colon h e = or_true m.in_body m.colon (h.first e) ∙ sym (or_true n.in_body n.colon (h.second e))
both_indent _ m n colon h e = tt

-- ---- tokens

abbrev pub signs : List Tok → List Sign
signs ts = map (λ t. sign t.kind t.lexeme) ts

-- the mode after these tokens
abbrev pub mode_past : Mode → List Tok → Mode
mode_past m [] = m
mode_past m (t ∷ ts) = mode_past (mode_after t.kind t m) ts

abbrev pub NoneIsEof : List Tok → Type 0
NoneIsEof [] = Unit {0}
NoneIsEof (t ∷ ts) = (t.kind ≢ kinds.Eof) × NoneIsEof ts

pub some_same : (x : TokenKind × ℕ) (a b : NextToken) → SameFound a b → a ≡ Ok x → b ≡ Ok x
some_same x a (Ok y) s e = let h : ◌≡◌ {A = Option (TokenKind × ℕ)} (Some y) (Some x) = sym s.same ∙ ap found e in cc
some_same x a (Err r) s e = let h : ◌≡◌ {A = Option (TokenKind × ℕ)} None (Some x) = sym s.same ∙ ap found e in cc
