-- Quick tests that settle most cases: of lengths, and of the token after the next one.
use Rattle.std.proofs.Common.{◌≡◌, ◌≢◌, ℕ, ◌+◌, ◌<◌, Bool, true, false, ◌&&◌, List, length, get_or, None, ap, refl}
use Rattle.std.proofs.lemmas.Slice.Eq.{bytes_eq-Decides}
use Rattle.std.specs.Str.{bytes_eq}
use Rattle.justfile_token.specs.declared.token.Token.{Token}
use Rattle.justfile_vocabulary.specs.declared.list_feature.ListFeature.{ListFeature}
use Rattle.justfile_vocabulary.specs.declared.token_kind.TokenKind.{TokenKind}
use Rattle.justfile_model.specs.Readers.ReaderState.{is_word, same_kind}
use Rattle.justfile_parse_expression.specs.Significant.{significant_of}
use Rattle.justfile_parse_expression.specs.TableReader.{Run, accept_marked}
use Rattle.justfile_parse_expression.specs.View.{state_at}
use Rattle.justfile_parse_expression.specs.Significant.{TableToken}
use Rattle.justfile_parse_expression.proofs.Rest.{marked_left}

decided : (a b : List ℕ) (answer : Bool) → length a ≢ length b → bytes_eq a b ≡ answer → bytes_eq a b ≡ false
decided a b true h e = absurd (h (ap length ((bytes_eq-Decides a b).0 e)))
decided a b false h e = e

-- texts of different lengths are different
pub unequal : (a b : List ℕ) → length a ≢ length b → bytes_eq a b ≡ false
unequal a b h = decided a b (bytes_eq a b) h refl

neither : (a b c : Bool) → b ≡ false → (a && b && c) ≡ false
neither true b c e = ap (λ x. x && c) e
neither false b c e = refl

-- nothing marks the token after the next one if that is of another kind
pub unmarked : (run : Run) (depth n : ℕ) (fs : List (ListFeature × Token)) (word : List ℕ) (kind : TokenKind) (d : TableToken) → n + 1 < length run.table
    → same_kind (get_or run.table (n + 1) d).0.kind kind ≡ false → accept_marked word kind (state_at run depth n fs) ≡ None
unmarked run depth n fs word kind d h other =
    let mark = get_or run.table n d in
    let token = get_or run.table (n + 1) d in
    marked_left run depth n fs word kind d d h
    (neither (is_word word (significant_of mark)) (same_kind token.0.kind kind) token.1 other)
