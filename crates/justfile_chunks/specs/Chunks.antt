-- The chunks of a text: the lines of an item with its doc, its attributes and its body, or a line without an item. What the text derives is
-- what its chunks derive, joined.
use Rattle.std.specs.Prelude.{◌≡◌, ◌≢◌, ◌⊎◌, ◌↔◌, ℕ, ◌+◌, ◌-◌, Bool, true, false, cond, List, [], ◌∷◌, ◌++◌, map, drop, length, filter, not, Option, Some, None}
use Rattle.std.specs.List.{AllByRecursion, flat_map}
use Rattle.std.specs.Str.{IsUtf8}
use Rattle.justfile_vocabulary.specs.ByteNames as byte
use Rattle.justfile_vocabulary.specs.declared.token_kind.TokenKind.{TokenKind}
use Rattle.justfile_vocabulary.specs.declared.token_kind.TokenKind.TheVariants.{BracketL, ByteOrderMark, Comment, Dedent, Eof, Eol, Indent, Whitespace}
use Rattle.justfile_model.specs.Grammars.Conditions.{Conditions}
use Rattle.justfile_model.specs.Grammars.Features.{Noted, over_noted}
use Rattle.justfile_model.specs.Grammars.Files.{FileDerives, NumbersFrom, ShapeDerives, bindings, recipes}
use Rattle.justfile_model.specs.Lexing.Lexed.{Lexed}
use Rattle.justfile_model.specs.Lexing.Modes.{is_empty, mode}
use Rattle.justfile_model.specs.Lexing.SignificantTokens.{is_whitespace, significant_tokens}
use Rattle.justfile_model.specs.Lexing.Tok.{Tok, tok}
use Rattle.justfile_model.specs.Trees.Tree.{OrderedItem, Shape, Tree, lexeme, over_entry, over_item}

-- ---- cuts, by the tokens before them, the last one first, and the tokens after them

-- the kind of the next token, other than whitespace
abbrev pub next_kind : List Tok → Option TokenKind
next_kind [] = None
next_kind (t ∷ later) = cond (is_whitespace t.kind) (next_kind later) (Some t.kind)

-- a token of this kind ends a line, or a body at the start of a line
abbrev pub ends_line : TokenKind → Bool
ends_line Eol = true
ends_line Dedent = true
ends_line _ = false

-- a token of this kind begins no line
abbrev pub is_ignored : TokenKind → Bool
is_ignored ByteOrderMark = true
is_ignored Whitespace = true
is_ignored _ = false

-- the first kind if there is one, and this kind otherwise
abbrev pub first_or : TokenKind → Option TokenKind → TokenKind
first_or kind None = kind
first_or kind (Some first) = first

-- the kind of the first token on the line of the last one, if that line isn't ended
abbrev pub line_kind : List Tok → Option TokenKind
line_kind [] = None
line_kind (t ∷ earlier) = cond (is_ignored t.kind) (line_kind earlier) (cond (ends_line t.kind) None (Some (first_or t.kind (line_kind earlier))))

-- A line or a body ends with this token, after the earlier ones, and with it what belongs to an item. At the end of the text there is no cut.
pub record IsCutAfter (t : Tok) (earlier later : List Tok) : Type 0 where
  pub ends : ends_line t.kind ≡ true
  -- A body is cut nowhere, and not before its first line.
  pub outside : (mode (t ∷ earlier)).levels ≡ []
  pub no_body : next_kind later ≢ Some Indent
  -- Attributes belong to the construct after them.
  pub no_attributes : line_kind earlier ≢ Some BracketL
  -- A comment belongs to the item on the next line, if there is one.
  pub no_doc : line_kind earlier ≡ Some Comment → (next_kind later ≡ Some Comment) ⊎ (next_kind later ≡ Some Eol)
  pub goes_on : next_kind later ≢ Some Eof

abbrev pub IsCut : (earlier later : List Tok) → Type 0
IsCut [] later = ⊥
IsCut (t ∷ earlier) later = IsCutAfter t earlier later

-- ---- chunks

-- The later tokens in parts, which are cut at each cut and nowhere else. None of the parts is empty.
pub data Parts : (earlier later : List Tok) → (parts : List (List Tok)) → Type 0 where
  last : {earlier : List Tok} {t : Tok}
      → Parts earlier (t ∷ []) ((t ∷ []) ∷ [])
  cut : {earlier later : List Tok} {parts : List (List Tok)} {t : Tok} → IsCut (t ∷ earlier) later → Parts (t ∷ earlier) later parts
      → Parts earlier (t ∷ later) ((t ∷ []) ∷ parts)
  uncut : {earlier later part : List Tok} {parts : List (List Tok)} {t : Tok} → (IsCut (t ∷ earlier) later → ⊥) → Parts (t ∷ earlier) later (part ∷ parts)
      → Parts earlier (t ∷ later) ((t ∷ part) ∷ parts)

-- the tokens of a text, in parts
abbrev pub AreParts : List Tok → List (List Tok) → Type 0
AreParts tokens parts = Parts [] tokens parts

-- the text of tokens
abbrev pub text_of : List Tok → List ℕ
text_of tokens = flat_map lexeme tokens

-- a part as a text of its own, after the line feed that is before it
abbrev pub after_feed : List Tok → List ℕ
after_feed part = byte.line_feed ∷ text_of part

-- the texts of the chunks, each from the line feed before it on
abbrev pub chunk_texts : List (List Tok) → List (List ℕ)
chunk_texts [] = []
chunk_texts (part ∷ parts) = text_of part ∷ map after_feed parts

-- what chunks have, joined, without the line ends for the line feeds before them
abbrev pub joined : {X : Type 0} → List (List X) → List X
joined [] = []
joined (xs ∷ others) = xs ++ flat_map (drop 1) others

-- each of these has its items and its features
abbrev pub Each : {I X F : Type 0} → (I → X → F → Type 0) → List I → List X → List F → Type 0
Each Has [] [] [] = Unit {0}
Each Has (i ∷ is) (x ∷ xs) (f ∷ fs) = Has i x f × Each Has is xs fs
Each Has _ _ _ = ⊥

-- the chunks have items and features, which are these, joined
pub record ChunksHave {I X F : Type 0} (Has : I → List X → List F → Type 0) (chunks : List I) (items : List X) (features : List F) : Type 0 where
  pub each_items : List (List X)
  pub each_features : List (List F)
  pub have : Each Has chunks each_items each_features
  pub items_are : items ≡ joined each_items
  pub features_are : features ≡ flat_map (λ fs. fs) each_features

-- ---- the law for shapes

abbrev pub ShapeFeatures : Type 0
ShapeFeatures = List (Noted (Unit {0}))

-- The text has tokens, which derive the shape with these features.
pub record HasShape (conditions : Conditions) (text : List ℕ) (shape : Shape) (features : ShapeFeatures) : Type 0 where
  pub tokens : List Tok
  pub lexed : Lexed text tokens
  pub derives : ShapeDerives conditions (significant_tokens tokens) shape features

-- A text derives a shape exactly if its chunks have it.
abbrev pub ShapeLaw : Type 0
ShapeLaw = (conditions : Conditions) (text : List ℕ) (tokens : List Tok) (parts : List (List Tok)) → IsUtf8 text → Lexed text tokens → AreParts tokens parts
    → (shape : Shape) (features : ShapeFeatures)
    → ShapeDerives conditions (significant_tokens tokens) shape features ↔ ChunksHave (HasShape conditions) (chunk_texts parts) shape features

-- ---- the law for trees: chunks are moved to their places in the text

-- the token with this much added to its offset and its line
abbrev pub moved : (offset line : ℕ) → Tok → Tok
moved offset line t = tok t.kind t.lexeme (offset + t.offset) (line + t.line) t.column

abbrev pub moved_item : (offset line : ℕ) → OrderedItem Tok Tok ℕ → OrderedItem Tok Tok ℕ
moved_item offset line = over_item (moved offset line) (moved offset line) (λ n. line + n) (λ star. star) (map (over_entry (moved offset line) (moved offset line)))

-- a text of its own, which begins at this offset and on this line of another one
pub record Chunk : Type 0 where
  pub text : List ℕ
  pub offset : ℕ
  pub line : ℕ

abbrev pub first_chunk : List Tok → Chunk
first_chunk part = record { text = text_of part; offset = 0; line = 0 }

-- where a part begins
abbrev pub first_offset : List Tok → ℕ
first_offset [] = 0
first_offset (t ∷ part) = t.offset

abbrev pub first_line : List Tok → ℕ
first_line [] = 0
first_line (t ∷ part) = t.line

-- The line feed before a part is one byte before it, and on the line before.
abbrev pub later_chunk : List Tok → Chunk
later_chunk part = record { text = after_feed part; offset = first_offset part - 1; line = first_line part - 1 }

abbrev pub chunks_of : List (List Tok) → List Chunk
chunks_of [] = []
chunks_of (part ∷ parts) = first_chunk part ∷ map later_chunk parts

-- The chunk has tokens, which derive a tree with its features; moved, they are these.
pub record HasTree (conditions : Conditions) (chunk : Chunk) (tree : Tree) (features : List (Noted Tok)) : Type 0 where
  pub tokens : List Tok
  pub lexed : Lexed chunk.text tokens
  pub own_tree : Tree
  pub own_features : List (Noted Tok)
  pub derives : FileDerives conditions (significant_tokens tokens) own_tree own_features
  pub tree_is : tree ≡ map (moved_item chunk.offset chunk.line) own_tree
  pub features_are : features ≡ map (over_noted (moved chunk.offset chunk.line)) own_features

-- A text derives a tree exactly if its chunks have it.
abbrev pub TreeLaw : Type 0
TreeLaw = (conditions : Conditions) (text : List ℕ) (tokens : List Tok) (parts : List (List Tok)) → IsUtf8 text → Lexed text tokens → AreParts tokens parts
    → (tree : Tree) (features : List (Noted Tok))
    → FileDerives conditions (significant_tokens tokens) tree features ↔ ChunksHave (HasTree conditions) (chunks_of parts) tree features

-- ---- the law for tokens

-- the tokens with bytes: all but the dedents and the end of a text
abbrev pub with_bytes : List Tok → List Tok
with_bytes tokens = filter (λ t. not (is_empty t.lexeme)) tokens

-- If the chunk derives a tree, its tokens with bytes, moved, are those of the part, after this many others.
abbrev pub HasTokens : Conditions → (others : ℕ) (part : List Tok) → Chunk → Type 0
HasTokens conditions others part chunk =
    (tokens : List Tok) (tree : Tree) (features : List (Noted Tok)) → Lexed chunk.text tokens → FileDerives conditions (significant_tokens tokens) tree features
    → with_bytes part ≡ drop others (map (moved chunk.offset chunk.line) (with_bytes tokens))

-- The tokens of each chunk that derives a tree are those of the text, whatever the other chunks are. Its line feed isn't among them.
abbrev pub TokenLaw : Type 0
TokenLaw = (conditions : Conditions) (text : List ℕ) (tokens first : List Tok) (others : List (List Tok)) → IsUtf8 text → Lexed text tokens
    → AreParts tokens (first ∷ others)
    → HasTokens conditions 0 first (first_chunk first) × AllByRecursion (λ part. HasTokens conditions 1 part (later_chunk part)) others

-- ---- the law for numbers

-- Each row of numbers counts up from where the one before it ends, and has as many as the items.
abbrev pub FollowOn : {X : Type 0} → (count : List X → ℕ) → (first : ℕ) → List (List X) → List (List ℕ) → Type 0
FollowOn count first [] [] = Unit {0}
FollowOn count first (items ∷ others) (ns ∷ numbers) = NumbersFrom first ns × (length ns ≡ count items) × FollowOn count (first + count items) others numbers
FollowOn count first _ _ = ⊥

-- If the numbers of chunks follow on, they are those of the text.
abbrev pub NumbersOf : (count : Tree → ℕ) → Type 0
NumbersOf count = (conditions : Conditions) (text : List ℕ) (tokens : List Tok) (parts : List (List Tok)) → IsUtf8 text → Lexed text tokens → AreParts tokens parts
    → (tree : Tree) (features : List (Noted Tok)) (chunks : ChunksHave (HasTree conditions) (chunks_of parts) tree features) (first : ℕ) (numbers : List (List ℕ))
    → FollowOn count first chunks.each_items numbers
    → NumbersFrom first (flat_map (λ ns. ns) numbers) × (length (flat_map (λ ns. ns) numbers) ≡ count tree)

-- of bindings and of recipes
abbrev pub NumberLaw : Type 0
NumberLaw = NumbersOf bindings × NumbersOf recipes
