-- A comment begins with a number sign, also without the whitespace at its end.
use Rattle.std.proofs.Common.{◌≡◌, ℕ, IsTrue, List, [], ◌∷◌, ◌++◌, drop, codes, refl, sym, ap, ◌∙◌, subst, arith}
use Rattle.std.specs.Prelude.{nat_eq}
use Rattle.std.specs.List.{starts_with}
use Rattle.std.specs.Str.{chars, drop_trailing_whitespace, trim_end}
use Rattle.std.proofs.Math.Utf8.{encodes}
use Rattle.std.proofs.lemmas.Bool.Decides.{Decides-eqb}
use Rattle.std.proofs.lemmas.Slice.Eq.{starts_is}
use Rattle.std.proofs.lemmas.Str.{encode_ascii}
use Rattle.justfile_token.specs.Token.{lexeme_of}
use Rattle.justfile_vocabulary.specs.declared.token_kind.TokenKind.{TokenKind}
use Rattle.justfile_vocabulary.specs.declared.token_kind.TokenKind.TheVariants as kinds
use Rattle.justfile_parse_expression.specs.Literal.{IsOf, is_delimited}
use Rattle.justfile_parse_expression.specs.Significant.{TableToken}

-- a comment that is taken begins so
pub begins_hash : (table_token : TableToken) → IsOf kinds.Comment table_token → IsTrue (starts_with nat_eq (lexeme_of table_token.0) (codes "#"))
begins_hash table_token h = subst (λ (k : TokenKind). IsTrue (is_delimited k (lexeme_of table_token.0))) h.0 h.1

chars_hash : (rest : List ℕ) → chars (35 ∷ rest) ≡ 35 ∷ chars rest
unfolding chars
chars_hash [] = refl
chars_hash (b ∷ bs) = refl

hash_stays : (rest : List ℕ) → trim_end (35 ∷ rest) ≡ 35 ∷ trim_end rest
unfolding trim_end
hash_stays rest =
    ap (λ (cs : List ℕ). encodes (drop_trailing_whitespace cs)) (chars_hash rest)
    ∙ ap (λ (front : List ℕ). front ++ encodes (drop_trailing_whitespace (chars rest))) (encode_ascii 35 (omega arith))

-- a text that begins so does without the whitespace at its end
pub still_hash : (text trimmed : List ℕ) → trimmed ≡ trim_end text → IsTrue (starts_with nat_eq text (codes "#")) → IsTrue (starts_with nat_eq trimmed (codes "#"))
still_hash text trimmed e h =
    let is = starts_is Decides-eqb text (codes "#") (starts_with nat_eq text (codes "#")) refl in
    subst (λ (t : List ℕ). IsTrue (starts_with nat_eq t (codes "#"))) (sym (e ∙ ap trim_end (is.0 h) ∙ hash_stays (drop 1 text))) refl
