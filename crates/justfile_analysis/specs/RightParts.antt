-- A text in parts, each of which was read by itself and is right.
use Rattle.std.specs.Prelude.{◌≡◌, ℕ, ◌+◌, ◌-◌, ◌<◌, Bool, true, false, List, [], ◌∷◌, ◌++◌, map, take, drop, length, slice_index}
use Rattle.std.specs.List.{count_by, flat_map}
use Rattle.justfile_vocabulary.specs.ByteNames as byte
use Rattle.justfile_model.specs.Grammars.Conditions.{Conditions}
use Rattle.justfile_model.specs.Grammars.Features.{Noted}
use Rattle.justfile_model.specs.Lexing.BlankLines.{is_blank_or_line_end}
use Rattle.justfile_model.specs.Lexing.Places.{is_line_feed}
use Rattle.justfile_model.specs.Lexing.Tok.{Tok}
use Rattle.justfile_model.specs.Trees.Tree.{Tree, shape_of}
use Rattle.justfile_round_trip.specs.RoundTrip.{TextDerives}
use Rattle.justfile_chunks.specs.Chunks.{joined}
use Rattle.justfile_chunks.specs.Parts.{AreRead, IsRead, ParsedChunk, chunk, features_in_text, items_in_text}
use Rattle.text_parts.specs.Parts.{before}

-- ---- right parts

-- what a part was read as, and the number of its bytes
pub record Read : Type 0 where
  pub tree : Tree
  pub features : List (Noted Tok)
  pub size : ℕ

-- where a part ends in what is left of a text, which begins with the line feed before the part if that is a later one
abbrev pub end_of : (is_first : Bool) → Read → ℕ
end_of is_first r = before is_first + r.size

-- what a part is read from
abbrev pub part_text : (is_first : Bool) (rest : List ℕ) → Read → List ℕ
part_text is_first rest r = take (end_of is_first r) rest

-- what is left after a part, from the line feed that ends it on
abbrev pub left_after : (is_first : Bool) (rest : List ℕ) → Read → List ℕ
left_after is_first rest r = drop (end_of is_first r - 1) rest

-- The part was read up to the first byte of the next one, which begins at once, on a line of its own.
pub record IsReadFurther (conditions : Conditions) (is_first : Bool) (rest : List ℕ) (r : Read) : Type 0 where
  pub next : ℕ
  pub read : IsRead conditions (part_text is_first rest r) next r.tree r.features
  pub further : take (end_of is_first r + 1) rest ≡ part_text is_first rest r ++ (next ∷ [])
  pub is_other : is_blank_or_line_end next ≡ false
  pub feed : slice_index rest (end_of is_first r - 1) ≡ byte.line_feed
  pub some : 0 < r.size

-- These are the parts of what is left of a text, and they are right.
pub data AreRight (conditions : Conditions) : (is_first : Bool) (rest : List ℕ) → List Read → Type 0 where
  last : {is_first : Bool} {rest : List ℕ} {r : Read} → TextDerives conditions rest r.tree r.features → end_of is_first r ≡ length rest
      → AreRight conditions is_first rest (r ∷ [])
  more : {is_first : Bool} {rest : List ℕ} {r : Read} {rs : List Read} → IsReadFurther conditions is_first rest r
      → AreRight conditions false (left_after is_first rest r) rs
      → AreRight conditions is_first rest (r ∷ rs)

-- ---- the law

-- the parts of a text from an offset on, as chunks, each with the number of the line feeds before it
abbrev pub chunks_from : (text : List ℕ) (is_first : Bool) (offset : ℕ) → List Read → List ParsedChunk
chunks_from text is_first offset [] = []
chunks_from text is_first offset (r ∷ rs) =
    (record {
      chunk = chunk (part_text is_first (drop offset text) r) offset (count_by is_line_feed (take offset text));
      tree = r.tree;
      features = r.features;
    }) ∷ chunks_from text false (offset + (end_of is_first r - 1)) rs

-- the parts of a text, as chunks
abbrev pub chunks_of : (text : List ℕ) → List Read → List ParsedChunk
chunks_of text rs = chunks_from text true 0 rs

-- The text is that of these parts, joined, and it derives their trees, joined.
pub record IsJoined (conditions : Conditions) (text : List ℕ) (rs : List Read) (parts : List ParsedChunk) : Type 0 where
  pub trees_are : map (λ p. p.tree) parts ≡ map (λ r. r.tree) rs
  pub features_are : map (λ p. p.features) parts ≡ map (λ r. r.features) rs
  pub are_read : AreRead conditions 0 0 parts
  pub text_is : joined (map (λ p. p.chunk.text) parts) ≡ text
  pub derives : TextDerives conditions text (joined (map items_in_text parts)) (flat_map features_in_text parts)
  pub shape_is : shape_of (joined (map items_in_text parts)) ≡ joined (map (λ r. shape_of r.tree) rs)

-- A text whose parts are right derives their trees, joined.
abbrev pub RightPartsLaw : Type 0
RightPartsLaw = (conditions : Conditions) (text : List ℕ) (rs : List Read) → AreRight conditions true text rs → IsJoined conditions text rs (chunks_of text rs)
