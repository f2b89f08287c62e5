-- Parts of a text that are texts of their own: some chunks each, read one byte further than they go.
use Rattle.std.specs.Prelude.{◌≡◌, ℕ, ◌+◌, ◌-◌, false, List, [], ◌∷◌, ◌++◌, map, drop, length, reverse}
use Rattle.std.specs.List.{count_by, flat_map}
use Rattle.std.specs.Str.{IsUtf8}
use Rattle.justfile_vocabulary.specs.ByteNames as byte
use Rattle.justfile_model.specs.Grammars.Conditions.{Conditions}
use Rattle.justfile_model.specs.Grammars.Features.{Noted, over_noted}
use Rattle.justfile_model.specs.Grammars.Files.{FileDerives}
use Rattle.justfile_model.specs.Lexing.BlankLines.{is_blank_or_line_end}
use Rattle.justfile_model.specs.Lexing.Lexed.{Lexed}
use Rattle.justfile_model.specs.Lexing.Places.{is_line_feed}
use Rattle.justfile_model.specs.Lexing.SignificantTokens.{significant_tokens}
use Rattle.justfile_model.specs.Lexing.Tok.{Tok}
use Rattle.justfile_model.specs.Trees.Tree.{Tree, shape_of}
use Rattle.justfile_round_trip.specs.RoundTrip.{TextDerives}
use Rattle.justfile_chunks.specs.Chunks.{Chunk, IsCut, joined, moved, moved_item, text_of}

-- ---- chunks that are parsed

-- the chunk with this text, at this offset and on this line
abbrev pub chunk : List ℕ → (offset line : ℕ) → Chunk
chunk text offset line = record { text = text; offset = offset; line = line }

-- After its line feed the chunk begins with a byte that is no blank and no line end.
pub record BeginsAtOnce (c : Chunk) : Type 0 where
  pub first : ℕ
  pub others : List ℕ
  pub are : c.text ≡ byte.line_feed ∷ (first ∷ others)
  pub is_other : is_blank_or_line_end first ≡ false

-- a chunk, and what it derives as a text of its own
pub record ParsedChunk : Type 0 where
  pub chunk : Chunk
  pub tree : Tree
  pub features : List (Noted Tok)

-- the items and the features of a chunk, where they are in the text
abbrev pub items_in_text : ParsedChunk → Tree
items_in_text p = map (moved_item p.chunk.offset p.chunk.line) p.tree

abbrev pub features_in_text : ParsedChunk → List (Noted Tok)
features_in_text p = map (over_noted (moved p.chunk.offset p.chunk.line)) p.features

-- ---- parts that are read

-- A text was read up to a byte after it. Its tokens end at a cut, and with the end in the place of the byte they derive this tree.
pub record IsRead (conditions : Conditions) (text : List ℕ) (next : ℕ) (tree : Tree) (features : List (Noted Tok)) : Type 0 where
  pub utf8 : IsUtf8 (text ++ (next ∷ []))
  pub tokens : List Tok
  pub at : Tok
  pub end : Tok
  pub lexed : Lexed (text ++ (next ∷ [])) (tokens ++ (at ∷ end ∷ []))
  pub text_is : text ≡ text_of tokens
  pub cut : IsCut (reverse tokens) (at ∷ end ∷ [])
  pub derives : FileDerives conditions (significant_tokens (tokens ++ (end ∷ []))) tree features

-- Of a text that was read so, and one that is parsed from that byte on, after a line feed, the whole derives both trees, joined.
abbrev pub ReadLaw : Type 0
ReadLaw = (conditions : Conditions) (text others : List ℕ) (next : ℕ) (left right : Tree) (left_features right_features : List (Noted Tok))
    → IsRead conditions text next left left_features → TextDerives conditions (byte.line_feed ∷ (next ∷ others)) right right_features
    → is_blank_or_line_end next ≡ false
    → TextDerives conditions (text ++ (next ∷ others)) (left ++ drop 1 (map (moved_item (length text - 1) (count_by is_line_feed text - 1)) right))
    (left_features ++ map (over_noted (moved (length text - 1) (count_by is_line_feed text - 1))) right_features)

-- A part was read up to the first byte of the next one, which begins at once.
pub record IsReadBefore (conditions : Conditions) (p q : ParsedChunk) : Type 0 where
  pub begins : BeginsAtOnce q.chunk
  pub read : IsRead conditions p.chunk.text begins.first p.tree p.features

-- Parts of a text that follow one another from this place on, each as a chunk: each but the first begins with the line feed that ends the one
-- before it. Each but the last was read up to the next one.
abbrev pub AreRead : Conditions → (offset line : ℕ) → List ParsedChunk → Type 0
AreRead conditions offset line [] = ⊥
AreRead conditions offset line (p ∷ []) = (p.chunk.offset ≡ offset) × (p.chunk.line ≡ line) × TextDerives conditions p.chunk.text p.tree p.features
AreRead conditions offset line (p ∷ q ∷ parts) =
    (p.chunk.offset ≡ offset) × (p.chunk.line ≡ line) × IsReadBefore conditions p q
    × AreRead conditions (offset + (length p.chunk.text - 1)) (line + (count_by is_line_feed p.chunk.text - 1)) (q ∷ parts)

-- A text in such parts derives their trees, joined.
abbrev pub PartsLaw : Type 0
PartsLaw = (conditions : Conditions) (parts : List ParsedChunk) → AreRead conditions 0 0 parts
    → TextDerives conditions (joined (map (λ p. p.chunk.text) parts)) (joined (map items_in_text parts)) (flat_map features_in_text parts)

-- Shapes have no places: that of such a tree is those of the parts, joined.
abbrev pub JoinedShapeLaw : Type 0
JoinedShapeLaw = (parts : List ParsedChunk) → shape_of (joined (map items_in_text parts)) ≡ joined (map (λ p. shape_of p.tree) parts)
