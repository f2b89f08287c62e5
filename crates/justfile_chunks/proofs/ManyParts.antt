-- Parts of a text that were read one after the other: by the law of one part and a text, the text derives their trees, joined.
use Rattle.std.proofs.Common.{◌≡◌, ◌∙◌, ℕ, ◌+◌, ◌-◌, List, [], ◌∷◌, ◌++◌, length, map, drop, refl, sym, ap, subst, append-nil}
use Rattle.std.specs.List.{count_by, flat_map}
use Rattle.std.specs.Str.{IsUtf8}
use Rattle.std.proofs.lemmas.List.{map-append}
use Rattle.justfile_model.specs.Grammars.Conditions.{Conditions}
use Rattle.justfile_model.specs.Grammars.Features.{Noted, over_noted}
use Rattle.justfile_model.specs.Grammars.Files.{FileDerives}
use Rattle.justfile_model.specs.Lexing.Lexed.{Lexed}
use Rattle.justfile_model.specs.Lexing.Places.{is_line_feed}
use Rattle.justfile_model.specs.Lexing.SignificantTokens.{significant_tokens}
use Rattle.justfile_model.specs.Lexing.Tok.{Tok}
use Rattle.justfile_model.specs.Trees.Tree as tree
use Rattle.justfile_model.specs.Trees.Tree.{Tree}
use Rattle.justfile_round_trip.specs.RoundTrip.{TextDerives}
use Rattle.justfile_chunks.specs.Chunks.{joined, moved, moved_item, text_of}
use Rattle.justfile_chunks.proofs.Moved.{moved_derives}
use Rattle.justfile_chunks.specs.Parts.{AreRead, IsRead, ParsedChunk, PartsLaw, features_in_text, items_in_text}
use Rattle.justfile_chunks.proofs.MovedChunks.{unmoved}
use Rattle.justfile_chunks.proofs.MovedTrees.{drop_mapped, items_twice, noted_twice}
use Rattle.justfile_chunks.proofs.ReadTexts.{BeginsWithNewline, feed_before, newline_first, read_law}

abbrev texts : List ParsedChunk → List (List ℕ)
texts parts = map (λ (p : ParsedChunk). p.chunk.text) parts

module _ (conditions : Conditions) where
  -- the tree of a text that begins with a line feed, whatever tokens end it
  begins : (text : List ℕ) (feed : Tok) (ts us : List Tok) {all : Tree} {features : List (Noted Tok)} → IsUtf8 (10 ∷ text) → Lexed (10 ∷ text) (feed ∷ ts)
      → FileDerives conditions (significant_tokens (feed ∷ us)) all features → BeginsWithNewline all
  begins text feed ts us u l d = newline_first conditions feed us (feed_before text feed ts u l).kind d

  later_begins : (q : ParsedChunk) (parts : List ParsedChunk) (offset line : ℕ) (rest : List ℕ) → AreRead conditions offset line (q ∷ parts)
      → q.chunk.text ≡ 10 ∷ rest → BeginsWithNewline q.tree
  later_begins q [] offset line rest h is = by h.2.tokens (subst (λ x. Lexed x h.2.tokens) is h.2.lexed) h.2.file
    where
      by : (ts : List Tok) → Lexed (10 ∷ rest) ts → FileDerives conditions (significant_tokens ts) q.tree q.features → BeginsWithNewline q.tree
      by [] l d = cc (l.are)
      by (feed ∷ ts) l d = begins rest feed ts ts (subst IsUtf8 is h.2.utf8) l d
  later_begins q (r ∷ parts) offset line rest h is =
      by read.tokens (sym is ∙ read.text_is) (subst (λ x. Lexed (x ++ (next ∷ [])) (read.tokens ++ both)) is read.lexed) read.derives
    where
      next : ℕ
      next = h.2.begins.first

      read : IsRead conditions q.chunk.text next q.tree q.features
      read = h.2.read

      both : List Tok
      both = read.at ∷ read.end ∷ []

      by : (ts : List Tok) → 10 ∷ rest ≡ text_of ts → Lexed (10 ∷ rest ++ (next ∷ [])) (ts ++ both)
          → FileDerives conditions (significant_tokens (ts ++ (read.end ∷ []))) q.tree q.features → BeginsWithNewline q.tree
      by [] e l d = cc
      by (feed ∷ ts) e l d =
          begins (rest ++ (next ∷ [])) feed (ts ++ both) (ts ++ (read.end ∷ [])) (subst (λ x. IsUtf8 (x ++ (next ∷ []))) is read.utf8) l d

  -- what the parts from a place on derive, as a text that begins there
  record Whole (offset line : ℕ) (parts : List ParsedChunk) : Type 0 where
    all : Tree
    noted : List (Noted Tok)
    derives : TextDerives conditions (joined (texts parts)) all noted
    all_is : joined (map items_in_text parts) ≡ map (moved_item offset line) all
    noted_are : flat_map features_in_text parts ≡ map (over_noted (moved offset line)) noted

  items_at : (p : ParsedChunk) (offset line : ℕ) → p.chunk.offset ≡ offset → p.chunk.line ≡ line → items_in_text p ≡ map (moved_item offset line) p.tree
  items_at p offset line o l = λ i. map (moved_item (o i) (l i)) p.tree

  features_at : (p : ParsedChunk) (offset line : ℕ) → p.chunk.offset ≡ offset → p.chunk.line ≡ line
      → features_in_text p ≡ map (over_noted (moved offset line)) p.features
  features_at p offset line o l = λ i. map (over_noted (moved (o i) (l i))) p.features

  -- without its first item, a tree that begins with a line end, and others after it
  drop_before : (q : ParsedChunk) (others : Tree) → BeginsWithNewline q.tree → drop 1 (items_in_text q) ++ others ≡ drop 1 (items_in_text q ++ others)
  drop_before q others b = by q.tree b.1
    where
      by : (all : Tree) → all ≡ tree.Newline ∷ b.0
          → drop 1 (map (moved_item q.chunk.offset q.chunk.line) all) ++ others ≡ drop 1 (map (moved_item q.chunk.offset q.chunk.line) all ++ others)
      by [] e = cc
      by (x ∷ all) e = refl

  whole : (parts : List ParsedChunk) (offset line : ℕ) → AreRead conditions offset line parts → Whole offset line parts
  whole [] offset line h = absurd h
  whole (p ∷ []) offset line h = record {
    all = p.tree;
    noted = p.features;
    derives = subst (λ x. TextDerives conditions x p.tree p.features) (sym (append-nil p.chunk.text)) h.2;
    all_is = append-nil (items_in_text p) ∙ items_at p offset line h.0 h.1;
    noted_are = append-nil (features_in_text p) ∙ features_at p offset line h.0 h.1;
  }
  whole (p ∷ q ∷ parts) offset line h = joined_with (whole (q ∷ parts) (offset + bytes) (line + lines) h.3)
    where
      bytes : ℕ
      bytes = length p.chunk.text - 1

      lines : ℕ
      lines = count_by is_line_feed p.chunk.text - 1

      rest : List ℕ
      rest = flat_map (drop 1) (texts parts)

      joined_with : Whole (offset + bytes) (line + lines) (q ∷ parts) → Whole offset line (p ∷ q ∷ parts)
      joined_with w =
          let b = h.2.begins in
          let move = moved_item offset line in
          let right = map (moved_item bytes lines) w.all in
          let others = flat_map (drop 1) (map items_in_text parts) in
          record {
            all = p.tree ++ drop 1 right;
            noted = p.features ++ map (over_noted (moved bytes lines)) w.noted;
            derives = subst (λ x. TextDerives conditions (p.chunk.text ++ (drop 1 x ++ rest)) (p.tree ++ drop 1 right)
                (p.features ++ map (over_noted (moved bytes lines)) w.noted)) (sym b.are)
                (read_law conditions p.chunk.text (b.others ++ rest) b.first p.tree w.all p.features w.noted h.2.read
                (subst (λ x. TextDerives conditions (x ++ rest) w.all w.noted) b.are w.derives) b.is_other);
            all_is =
                (λ i. items_at p offset line h.0 h.1 i ++ drop_before q others (later_begins q parts _ _ (b.first ∷ b.others) h.3 b.are) i)
                ∙ ap (λ l. map move p.tree ++ drop 1 l) (w.all_is ∙ sym (items_twice offset line bytes lines w.all))
                ∙ ap (λ l. map move p.tree ++ l) (sym (drop_mapped move right)) ∙ sym (map-append move p.tree (drop 1 right));
            noted_are =
                (λ i. features_at p offset line h.0 h.1 i ++ (w.noted_are ∙ sym (noted_twice offset line bytes lines w.noted)) i)
                ∙ sym (map-append (over_noted (moved offset line)) p.features (map (over_noted (moved bytes lines)) w.noted));
          }

pub parts_law : PartsLaw
parts_law conditions parts h =
    let w = whole conditions parts 0 0 h in
    let d = w.derives in
    let text = joined (texts parts) in
    subst (λ all. TextDerives conditions text all (flat_map features_in_text parts)) (sym w.all_is)
    (subst (TextDerives conditions text (map (moved_item 0 0) w.all)) (sym w.noted_are)
    (search (
      subst (λ ts. FileDerives conditions (significant_tokens ts) (map (moved_item 0 0) w.all) (map (over_noted (moved 0 0)) w.noted))
          (unmoved d.tokens) (moved_derives 0 0 conditions d.tokens w.all w.noted d.file),
      d,
    )))
