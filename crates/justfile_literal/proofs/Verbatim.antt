-- Texts that are what is between the quotes: these aren't tripled, and no backslash is between them.
use Rattle.std.proofs.Common.{◌≡◌, ◌∙◌, ℕ, ◌==◌, if◌then◌else◌, Bool, true, false, List, [], ◌∷◌, None, Ok, refl, ap, subst, sym}
use Rattle.std.specs.Prelude.{flat_map, map, encode_utf8_all}
use Rattle.std.specs.Str.{NonePass}
use Rattle.std.specs.Str.Pattern.{FindsChar}
use Rattle.justfile_token.specs.declared.string_kind.StringKind.{StringKind}
use Rattle.justfile_token.specs.StringKind.{escapes, kind_of}
use Rattle.justfile_model.specs.LiteralTexts.Cook.{AreEscapedPieces, Cooks, IsPiece, Plain, raw_of, value_of}
use Rattle.justfile_model.specs.LiteralTexts.FirstPiece.{cooked_from_left}
use Rattle.justfile_model.specs.LiteralTexts.Literals.{between_quotes, by_escapes, escaped, string_text}
use Rattle.justfile_model.specs.LiteralTexts.Unindent.{unindented}
use Rattle.justfile_vocabulary.specs.ByteNames as byte

plain_raw : (cs : List ℕ) → flat_map raw_of (map Plain cs) ≡ cs
plain_raw [] = refl
plain_raw (c ∷ cs) = ap (λ (l : List ℕ). c ∷ l) (plain_raw cs)

plain_value : (cs : List ℕ) → flat_map value_of (map Plain cs) ≡ cs
plain_value [] = refl
plain_value (c ∷ cs) = ap (λ (l : List ℕ). c ∷ l) (plain_value cs)

plain_piece : (c : ℕ) → (c == byte.backslash) ≡ false → IsPiece (Plain c)
plain_piece c passes e = let same : true ≡ false = subst (λ (x : ℕ). (x == byte.backslash) ≡ false) e passes in absurd (cc)

plain_pieces : (cs : List ℕ) → NonePass (λ c. c == byte.backslash) cs → AreEscapedPieces (map Plain cs)
plain_pieces [] none = tt
plain_pieces (c ∷ cs) none = (plain_piece c none.0, plain_pieces cs none.1)

pub cooks_itself : (text : List ℕ) → FindsChar byte.backslash text None → Cooks text text
cooks_itself text found = record {
  pieces = map Plain found.0;
  good = plain_pieces found.0 found.2;
  text_is = ap encode_utf8_all (plain_raw found.0) ∙ found.1;
  cooked_is = ap encode_utf8_all (plain_value found.0) ∙ found.1;
}

-- without escapes a text is cooked to itself
pub unescaped : (kind : StringKind) (text : List ℕ) → escapes kind.delimiter ≡ false → escaped kind text ≡ Ok text
unescaped kind text plain = ap (λ (b : Bool). if b then by_escapes (cooked_from_left text) else Ok text) plain

pub verbatim : (lexeme text : List ℕ) → (kind_of lexeme).indented ≡ false → text ≡ between_quotes lexeme → escaped (kind_of lexeme) text ≡ Ok text → string_text lexeme ≡ Ok text
verbatim lexeme text single text_is cooked =
    ap (λ (b : Bool). escaped (kind_of lexeme) (if b then unindented (between_quotes lexeme) else between_quotes lexeme)) single
    ∙ ap (escaped (kind_of lexeme)) (sym text_is) ∙ cooked
