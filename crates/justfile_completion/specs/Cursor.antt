-- The text before the cursor.
use Rattle.std.specs.Prelude.{◌≡◌, ◌==◌, ◌&&◌, ◌||◌, ◌+◌, ◌-◌, ◌++◌, ℕ, Bool, false, true, cond, not, List, [], ◌∷◌, Option, None, Some, drop, map, take}
use Rattle.std.specs.List.{prefix_len, suffix_len}
use Rattle.std.specs.Str.{IsCharBoundary}
use Rattle.justfile_vocabulary.specs.ByteClass.{class_of}
use Rattle.justfile_vocabulary.specs.declared.byte_class.ByteClass.{ByteClass}
use Rattle.justfile_vocabulary.specs.declared.byte_class.ByteClass.TheVariants.{IdentifierContinue, IdentifierStart}
use Rattle.justfile_token.specs.declared.token.Token.{Token}
use Rattle.justfile_model.specs.Lexing.LexicalFault.{LexicalFault}
use Rattle.justfile_model.specs.Lexing.Lexed.{IsFault, Lexed}
use Rattle.justfile_model.specs.Lexing.Tok.{Tok, tok_of}

abbrev pub is_of_name : ByteClass → Bool
is_of_name IdentifierStart = true
is_of_name IdentifierContinue = true
is_of_name _ = false

-- the byte may stand in a name
abbrev pub is_name_byte : ℕ → Bool
is_name_byte b = is_of_name (class_of b)

-- where the word begins that the cursor is in or at an end of
abbrev pub word_start : (text : List ℕ) (cursor : ℕ) → ℕ
word_start text cursor = cursor - suffix_len is_name_byte (take cursor text)

-- where it ends
abbrev pub word_end : (text : List ℕ) (cursor : ℕ) → ℕ
word_end text cursor = cursor + prefix_len is_name_byte (drop cursor text)

-- the text before an offset, and nothing if it is inside of a character
pub data IsFront (text : List ℕ) (start : ℕ) (front : List ℕ) : Type 0 where
  cut : front ≡ take start text → IsFront text start front
  outside : (IsCharBoundary text start → ⊥) → front ≡ [] → IsFront text start front

-- an item may begin here: at the end, or with what is neither a blank nor a part of a line end
abbrev pub begins_item : List ℕ → Bool
begins_item [] = true
begins_item (b ∷ text) = not (b == 9 || b == 10 || b == 13 || b == 32)

-- what stands after the last line feed after which an item may begin, or what stood before if there is none
abbrev pub item_after : (before text : List ℕ) → List ℕ
item_after before [] = before
item_after before (b ∷ text) = cond (b == 10 && begins_item text) (item_after text text) (item_after before text)

abbrev pub last_item : List ℕ → List ℕ
last_item text = item_after text text

-- the text of the last item, and nothing if that begins inside of a character
pub data IsLastItem (text item : List ℕ) : Type 0 where
  from : item ≡ last_item text → IsLastItem text item
  in_character : (start : ℕ) → drop start text ≡ last_item text → (IsCharBoundary text start → ⊥) → item ≡ [] → IsLastItem text item

-- the text has no tokens
pub record HasNoTokens (text : List ℕ) : Type 0 where
  pub fault : LexicalFault
  pub span : Tok
  pub is_fault : IsFault text fault span

-- The tokens of a text with the first of these ends by which it has tokens. There are none if there is no such end.
pub data AreTokens (front : List ℕ) : (ends : List (List ℕ)) → Option (List Token) → Type 0 where
  none : AreTokens front [] None
  closed : (end : List ℕ) {ends : List (List ℕ)} (tokens : List Token) → Lexed (front ++ end) (map tok_of tokens) → AreTokens front (end ∷ ends) (Some tokens)
  open_still : (end : List ℕ) {ends : List (List ℕ)} {found : Option (List Token)} → HasNoTokens (front ++ end) → AreTokens front ends found → AreTokens front (end ∷ ends) found
