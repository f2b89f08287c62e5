-- The words before the cursor.
use Rattle.std.specs.Prelude.{ℕ, ◌+◌, ◌-◌, ◌^◌, ◌==◌, ◌&&◌, Bool, true, not, Option, None, Some, length, List, [], ◌∷◌, cond, drop, filter, min, nat_lt, reverse, take}
use Rattle.std.specs.List.{after_last, before_last, list_any, prefix_len, slice_get, suffix_len, take_while}
use Rattle.std.specs.Str.{bytes_eq}
use Rattle.justfile_vocabulary.specs.declared.token_kind.TokenKind.{TokenKind}
use Rattle.justfile_token.specs.Token.{lexeme_of}
use Rattle.justfile_token.specs.declared.token.Token.{Token}
use Rattle.justfile_completion.specs.Kinds.{begins_line, closes, ends_line, is_between, is_identifier, is_indent, is_word, opens}

-- the tokens that begin before the cursor
abbrev pub tokens_before : (cursor : ℕ) → List Token → List Token
tokens_before cursor tokens = take_while (λ t. nat_lt t.offset cursor) tokens

-- the cursor is inside of one
abbrev pub is_inside : (cursor : ℕ) → List Token → Bool
is_inside cursor tokens = list_any (λ t. nat_lt cursor (t.offset + t.length)) tokens

-- a line may begin after the last token, if there is one
abbrev pub begins_after : (last : Option Token) → Bool
begins_after None = true
begins_after (Some t) = begins_line t.kind

-- nothing stands on the line after these tokens
abbrev pub starts_line : List Token → Bool
starts_line tokens = begins_after (slice_get tokens (length tokens - 1))

-- the words of the line that ends with these tokens
abbrev pub line_of : List Token → List Token
line_of tokens = filter (λ t. is_word t.kind) (after_last (λ t. ends_line t.kind) tokens)

-- the list without the last elements, as long as they pass
abbrev pub without_end : {X : Type 0} → (X → Bool) → List X → List X
without_end p xs = take (length xs - suffix_len p xs) xs

-- the words of the header of the recipe whose body ends with these tokens
abbrev pub header_of : List Token → List Token
header_of tokens = line_of (without_end (λ t. is_between t.kind) (before_last (λ t. is_indent t.kind) tokens))

-- how many brackets are closed after a word, by how many are after the next one; a count has 64 bits
abbrev pub closed_before : (closed : ℕ) → TokenKind → ℕ
closed_before closed kind = cond (closes kind) (min (closed + 1) (2 ^ 64 - 1)) (cond (opens kind) (closed - 1) closed)

-- The words, the last one first, that aren't in brackets that are closed later on. Of these only the closing one is left.
abbrev pub outside : (closed : ℕ) → List Token → List Token
outside closed [] = []
outside closed (w ∷ ws) = cond (closed == 0) (w ∷ outside (closed_before closed w.kind) ws) (outside (closed_before closed w.kind) ws)

-- those of these words, the last one first
abbrev pub outline : List Token → List Token
outline words = outside 0 (reverse words)

-- what stands from the last open bracket on, of words with the last one first
abbrev pub from_opener : List Token → List Token
from_opener words = drop (prefix_len (λ w. not (opens w.kind)) words) words

-- the word is this name or keyword
abbrev pub is_spelled : (text : List ℕ) → Token → Bool
is_spelled text word = is_identifier word.kind && bytes_eq (lexeme_of word) text

-- a word of one of these kinds is among them
abbrev pub has : (TokenKind → Bool) → List Token → Bool
has is words = list_any (λ w. is w.kind) words
