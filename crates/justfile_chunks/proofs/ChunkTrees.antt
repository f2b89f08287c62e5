-- The laws for trees, tokens and numbers: the tree of a text is that of its chunks, moved and joined.
use Rattle.std.proofs.Common.{◌≡◌, ◌∙◌, ℕ, ◌+◌, Bool, true, false, cond, not, List, [], ◌∷◌, ◌++◌, inl, inr, length, map, drop, refl, sym, ap, subst, arith, length-append}
use Rattle.std.proofs.lemmas.Bool.Decides.{nat_tests}
use Rattle.std.proofs.lemmas.List.{map-append}
use Rattle.std.specs.Prelude.{◌↔◌}
use Rattle.std.specs.List.{AllByRecursion, AllZip, flat_map}
use Rattle.std.specs.Str.{IsUtf8}
use Rattle.justfile_model.specs.Grammars.Conditions.{Conditions}
use Rattle.justfile_model.specs.Grammars.Expressions.{BelowLimit}
use Rattle.justfile_model.specs.Grammars.Features.{Noted}
use Rattle.justfile_model.specs.Grammars.Files.{FileDerives, NumbersFrom, bindings, item_bindings, item_recipes, recipes, to_tokens}
use Rattle.justfile_model.specs.Lexing.Lexed.{Lexed}
use Rattle.justfile_model.specs.Lexing.Modes.{is_empty}
use Rattle.justfile_model.specs.Lexing.SignificantTokens.{significant_tokens}
use Rattle.justfile_model.specs.Lexing.Tok.{Tok}
use Rattle.justfile_model.specs.LiteralTexts.Literals.{over_literal}
use Rattle.justfile_model.specs.Trees.LeafView.{views_tokens}
use Rattle.justfile_model.specs.Trees.Tree as tree
use Rattle.justfile_model.specs.Trees.Tree.{Tree, lexeme}
use Rattle.justfile_model.proofs.Derivations.CarryExpressions.{Pairs}
use Rattle.justfile_chunks.specs.Chunks.{AreParts, Chunk, ChunksHave, Each, FollowOn, HasTokens, HasTree, NumberLaw, NumbersOf, TokenLaw, TreeLaw, after_feed, chunk_texts, chunks_of, first_chunk, joined, later_chunk, moved, moved_item, with_bytes}
use Rattle.justfile_chunks.proofs.Colons.{IndentsHaveColons}
use Rattle.justfile_chunks.proofs.Moved.{derives_moved, moved_derives}
use Rattle.justfile_chunks.proofs.OneCut.{TokensDeriveTree, colons_law, cut_law, feed_law, rederived, tree_from, tree_to}
use Rattle.justfile_chunks.proofs.OtherDedents.{Near, NearToken, file_near, near_back, near_tokens}
use Rattle.justfile_chunks.proofs.AllCuts.{cuts_have, each_same, zip_over}
use Rattle.justfile_chunks.proofs.ChunkTokens.{ChunkLexes, chunks_by, chunks_lex, ended_before, first_part}
use Rattle.justfile_chunks.proofs.MovedChunks.{NearChunk, borders, chunks_near, in_text}

-- ---- one chunk

-- A chunk is lexed to the tokens that it has in the text, and there they are, except for dedents.
record OneChunk (chunk : Chunk) (tokens : List Tok) : Type 0 where
  lexes : ChunkLexes chunk.text tokens
  near : NearChunk chunk tokens

module _ (conditions : Conditions) where
  pub have_colons : (ts : List Tok) {all : Tree} {features : List (Noted Tok)} → FileDerives conditions (significant_tokens ts) all features
      → IndentsHaveColons false ts
  have_colons ts {all = all} {features = features} d =
      colons_law to_tokens conditions (views_tokens conditions.expander) (map (over_literal lexeme)) (map-append (over_literal lexeme)) ts all features
      (tree_to conditions ts d)

  -- near tokens derive the same
  near_derive : (ts us : List Tok) {all : Tree} {features : List (Noted Tok)} → Pairs Near (significant_tokens ts) (significant_tokens us)
      → TokensDeriveTree conditions ts all features → TokensDeriveTree conditions us all features
  near_derive ts us n d =
      rederived to_tokens conditions (views_tokens conditions.expander) (map (over_literal lexeme)) (map-append (over_literal lexeme)) ts us d
      (file_near to_tokens (BelowLimit conditions.limit) d.derives n)

  has_tree : (chunk : Chunk) (tokens : List Tok) → OneChunk chunk tokens → (all : Tree) (features : List (Noted Tok))
      → HasTree conditions chunk all features ↔ TokensDeriveTree conditions tokens all features
  has_tree chunk tokens c all features = (to, from)
    where
      to : HasTree conditions chunk all features → TokensDeriveTree conditions tokens all features
      to h =
          let us = map (in_text chunk) h.tokens in
          let near = c.near.near h.tokens h.lexed (c.lexes.has h.tokens h.lexed (have_colons h.tokens h.derives)) in
          let d = moved_derives chunk.offset chunk.line conditions h.tokens h.own_tree h.own_features h.derives in
          let e = near_derive us tokens (near_back (near_tokens tokens us near false)) (tree_to conditions us d) in
          subst (λ x. TokensDeriveTree conditions tokens x features) (sym h.tree_is)
          (subst (λ fs. TokensDeriveTree conditions tokens (map (moved_item chunk.offset chunk.line) h.own_tree) fs) (sym h.features_are) e)

      from : TokensDeriveTree conditions tokens all features → HasTree conditions chunk all features
      from d =
          let l = c.lexes.lexes (have_colons tokens (tree_from conditions tokens d)) in
          let us = map (in_text chunk) l.0 in
          let e = near_derive tokens us (near_tokens tokens us (c.near.near l.0 l.1 l.2) false) d in
          let b = derives_moved chunk.offset chunk.line conditions l.0 all features (tree_from conditions us e) in
          search (l, b)

-- ---- all chunks

texts_are : (parts : List (List Tok)) → chunk_texts parts ≡ map (λ (c : Chunk). c.text) (chunks_of parts)
texts_are [] = refl
texts_are (part ∷ parts) = ap (λ l. (first_chunk part).text ∷ l) (by parts)
  where
    by : (parts : List (List Tok)) → map after_feed parts ≡ map (λ (c : Chunk). c.text) (map later_chunk parts)
    by [] = refl
    by (p ∷ parts) = ap (λ l. after_feed p ∷ l) (by parts)

both : (cs : List Chunk) (ts : List (List Tok)) → AllZip ChunkLexes (map (λ (c : Chunk). c.text) cs) ts → AllZip NearChunk cs ts → AllZip OneChunk cs ts
both [] [] l n = tt
both (c ∷ cs) (t ∷ ts) l n = (record { lexes = l.0; near = n.0 }, both cs ts l.1 n.1)
both _ _ l n = absurd n

module _ (conditions : Conditions) (text : List ℕ) (tokens : List Tok) (utf8 : IsUtf8 text) (lexed : Lexed text tokens) where
  module _ (parts : List (List Tok)) (are : AreParts tokens parts) where
    chunks_are : AllZip OneChunk (chunks_of parts) (chunks_by borders true parts)
    chunks_are =
        both (chunks_of parts) (chunks_by borders true parts)
        (subst (λ xs. AllZip ChunkLexes xs (chunks_by borders true parts)) (texts_are parts) (chunks_lex text tokens utf8 lexed borders parts are))
        (chunks_near text tokens parts utf8 lexed are)

    trees_are : AllZip (λ c ts. (all : Tree) (features : List (Noted Tok)) → HasTree conditions c all features ↔ TokensDeriveTree conditions ts all features)
        (chunks_of parts) (chunks_by borders true parts)
    trees_are = zip_over (has_tree conditions) (chunks_of parts) (chunks_by borders true parts) chunks_are

pub trees_derive : TreeLaw
trees_derive conditions text tokens parts utf8 lexed are all features =
    let view = views_tokens conditions.expander in
    let have =
    cuts_have tree.Newline (TokensDeriveTree conditions) (cut_law to_tokens conditions view (map (over_literal lexeme)) (map-append (over_literal lexeme)))
    (feed_law to_tokens conditions view (map (over_literal lexeme)) (map-append (over_literal lexeme))) borders (HasTree conditions) (chunks_of parts) tokens
    parts are (trees_are conditions text tokens utf8 lexed parts are) all features in
    (λ d. have.0 (tree_to conditions tokens d), λ c. tree_from conditions tokens (have.1 c))

-- ---- tokens

near_bytes : (ts us : List Tok) → AllZip NearToken ts us → with_bytes ts ≡ with_bytes us
near_bytes [] [] h = refl
near_bytes (t ∷ ts) (u ∷ us) h = by h.0 (near_bytes ts us h.1)
  where
    by : NearToken t u → with_bytes ts ≡ with_bytes us → with_bytes (t ∷ ts) ≡ with_bytes (u ∷ us)
    by (inl e) more = λ i. cond (not (is_empty (e i).lexeme)) (e i ∷ more i) (more i)
    by (inr d) more =
        ap (λ l. cond (not (is_empty l)) (t ∷ with_bytes ts) (with_bytes ts)) d.0.1 ∙ more
        ∙ sym (ap (λ l. cond (not (is_empty l)) (u ∷ with_bytes us) (with_bytes us)) d.1.1)
near_bytes _ _ h = absurd h

bytes_moved : (offset line : ℕ) (us : List Tok) → with_bytes (map (moved offset line) us) ≡ map (moved offset line) (with_bytes us)
bytes_moved offset line [] = refl
bytes_moved offset line (u ∷ us) = grind (arith, nat_tests, bytes_moved offset line us)

bytes_closed : (ts : List Tok) (t : Tok) → t.lexeme ≡ [] → with_bytes (ts ++ (t ∷ [])) ≡ with_bytes ts
bytes_closed [] t e = ap (λ l. cond (not (is_empty l)) (t ∷ []) []) e
bytes_closed (u ∷ ts) t e = ap (λ l. cond (not (is_empty u.lexeme)) (u ∷ l) l) (bytes_closed ts t e)

module _ (conditions : Conditions) where
  -- the tokens of the chunk are those that it has in the text
  one_tokens : (chunk : Chunk) (tokens part : List Tok) (others : ℕ) → OneChunk chunk tokens → with_bytes part ≡ drop others (with_bytes tokens)
      → HasTokens conditions others part chunk
  one_tokens chunk tokens part others c is us all features l d =
      let near = c.near.near us l (c.lexes.has us l (have_colons conditions us d)) in
      is ∙ ap (drop others) (near_bytes tokens (map (in_text chunk) us) near ∙ bytes_moved chunk.offset chunk.line us)

  ended_bytes : (first : Bool) (part : List Tok) (parts : List (List Tok)) → with_bytes part ≡ with_bytes (ended_before borders parts first part)
  ended_bytes first part [] = refl
  ended_bytes first part (q ∷ parts) = sym (bytes_closed part (borders.eof first part) refl)

  later_tokens : (parts : List (List Tok)) → AllZip OneChunk (map later_chunk parts) (chunks_by borders false parts)
      → AllByRecursion (λ part. HasTokens conditions 1 part (later_chunk part)) parts
  later_tokens [] h = tt
  later_tokens (part ∷ parts) h = (
    one_tokens (later_chunk part) (borders.feed part ∷ ended_before borders parts false part) part 1 h.0 (ended_bytes false part parts),
    later_tokens parts h.1,
  )

pub tokens_move : TokenLaw
tokens_move conditions text tokens first others utf8 lexed are =
    let h = chunks_are conditions text tokens utf8 lexed (first ∷ others) are in (
      one_tokens conditions (first_chunk first) (ended_before borders others true first) first 0 h.0 (ended_bytes conditions true first others),
      later_tokens conditions others h.1,
    )

-- ---- numbers

numbers_append : (first : ℕ) (ns ms : List ℕ) → NumbersFrom first ns → NumbersFrom (first + length ns) ms → NumbersFrom first (ns ++ ms)
numbers_append first [] ms h k = subst (λ n. NumbersFrom n ms) (omega arith) k
numbers_append first (n ∷ ns) ms h k = (h.0, numbers_append (first + 1) ns ms h.1 (subst (λ n. NumbersFrom n ms) (omega arith) k))

module _ (count : Tree → ℕ) (count_append : (xs ys : Tree) → count (xs ++ ys) ≡ count xs + count ys)
    (count_newline : (xs : Tree) → count (tree.Newline ∷ xs) ≡ count xs) (count_none : count [] ≡ 0) where
  abbrev total : List Tree → ℕ
  total [] = 0
  total (x ∷ xs) = count x + total xs

  follow_on : (first : ℕ) (trees : List Tree) (numbers : List (List ℕ)) → FollowOn count first trees numbers
      → NumbersFrom first (flat_map (λ ns. ns) numbers) × (length (flat_map (λ ns. ns) numbers) ≡ total trees)
  follow_on first [] [] h = (tt, refl)
  follow_on first (x ∷ trees) (ns ∷ numbers) h =
      let m = follow_on (first + count x) trees numbers h.2 in (
        numbers_append first ns (flat_map (λ ns. ns) numbers) h.0
            (subst (λ n. NumbersFrom (first + n) (flat_map (λ ns. ns) numbers)) (sym h.1) m.0),
        length-append ns (flat_map (λ ns. ns) numbers) ∙ omega (arith, h.1, m.1),
      )
  follow_on first _ _ h = absurd h

  module _ (conditions : Conditions) where
    -- the trees of later chunks begin with line ends
    later_counts : (parts : List (List Tok)) (trees : List Tree) (noted : List (List (Noted Tok)))
        → Each (TokensDeriveTree conditions) (chunks_by borders false parts) trees noted → count (flat_map (drop 1) trees) ≡ total trees
    later_counts [] [] [] h = count_none
    later_counts (part ∷ parts) (x ∷ trees) (fs ∷ noted) h =
        let f =
        feed_law to_tokens conditions (views_tokens conditions.expander) (map (over_literal lexeme)) (map-append (over_literal lexeme)) (borders.feed part)
        (ended_before borders parts false part) x fs refl h.0 in
        count_append (drop 1 x) (flat_map (drop 1) trees)
        ∙ (λ i. (ap (λ y. count (drop 1 y)) f.1 ∙ sym (count_newline f.0) ∙ ap count (sym f.1)) i + later_counts parts trees noted h.1 i)
    later_counts _ _ _ h = absurd h

    joined_counts : (part : List Tok) (parts : List (List Tok)) (trees : List Tree) (noted : List (List (Noted Tok)))
        → Each (TokensDeriveTree conditions) (chunks_by borders true (part ∷ parts)) trees noted → count (joined trees) ≡ total trees
    joined_counts part parts (x ∷ trees) (fs ∷ noted) h =
        count_append x (flat_map (drop 1) trees) ∙ ap (λ n. count x + n) (later_counts parts trees noted h.1)
    joined_counts part parts _ _ h = absurd h

  numbers_of : NumbersOf count
  numbers_of conditions text tokens parts utf8 lexed are all features c first numbers h = by parts are c h
    where
      by : (parts : List (List Tok)) → AreParts tokens parts → (c : ChunksHave (HasTree conditions) (chunks_of parts) all features)
          → FollowOn count first c.each_items numbers
          → NumbersFrom first (flat_map (λ ns. ns) numbers) × (length (flat_map (λ ns. ns) numbers) ≡ count all)
      by [] are c h = absurd (first_part are)
      by (part ∷ parts) are c h =
          let each = (each_same (HasTree conditions) (TokensDeriveTree conditions) (chunks_of (part ∷ parts)) (chunks_by borders true (part ∷ parts))
          (trees_are conditions text tokens utf8 lexed (part ∷ parts) are) c.each_items c.each_features).0 c.have in
          let m = follow_on first c.each_items numbers h in
          (m.0, m.1 ∙ sym (joined_counts conditions part parts c.each_items c.each_features each) ∙ ap count (sym c.items_are))

bindings_append : (xs ys : Tree) → bindings (xs ++ ys) ≡ bindings xs + bindings ys
bindings_append [] ys = omega arith
bindings_append (x ∷ xs) ys = ap (λ n. item_bindings x + n) (bindings_append xs ys) ∙ omega arith

recipes_append : (xs ys : Tree) → recipes (xs ++ ys) ≡ recipes xs + recipes ys
recipes_append [] ys = omega arith
recipes_append (x ∷ xs) ys = ap (λ n. item_recipes x + n) (recipes_append xs ys) ∙ omega arith

pub numbers_follow : NumberLaw
numbers_follow = (numbers_of bindings bindings_append (λ xs. omega arith) refl, numbers_of recipes recipes_append (λ xs. omega arith) refl)
