-- Texts that were read up to a byte after them, and a text that is parsed from that byte on, joined.
use Rattle.std.proofs.Common.{◌≡◌, ◌∙◌, ℕ, ◌-◌, ◌<◌, false, cond, List, [], ◌∷◌, ◌++◌, length, map, drop, Some, refl, sym, ap, subst, arith, append-nil}
use Rattle.std.specs.Prelude.{reverse}
use Rattle.std.specs.List.{count_by}
use Rattle.std.specs.Str.{IsUtf8}
use Rattle.std.proofs.lemmas.List.{map-append}
use Rattle.std.proofs.lemmas.List.Concat.{flat_map-append}
use Rattle.std.proofs.lemmas.Str.{IsUtf8-append}
use Rattle.justfile_vocabulary.specs.declared.token_kind.TokenKind.TheVariants as kinds
use Rattle.justfile_model.specs.Grammars.Conditions.{Conditions}
use Rattle.justfile_model.specs.Grammars.Features.{Noted, over_noted}
use Rattle.justfile_model.specs.Grammars.Files.{FileDerives, to_tokens}
use Rattle.justfile_model.specs.Lexing.BlankLines.{is_blank_or_line_end}
use Rattle.justfile_model.specs.Lexing.Lexed.{Lexed}
use Rattle.justfile_model.specs.Lexing.Modes.{mode, mode_after, start_mode}
use Rattle.justfile_model.specs.Lexing.Places.{is_line_feed}
use Rattle.justfile_model.specs.Lexing.SignificantTokens.{is_whitespace, significant_tokens}
use Rattle.justfile_model.specs.Lexing.Tok.{Tok}
use Rattle.justfile_model.specs.LiteralTexts.Literals.{over_literal}
use Rattle.justfile_model.specs.Trees.LeafView.{views_tokens}
use Rattle.justfile_model.specs.Trees.Tree as tree
use Rattle.justfile_model.specs.Trees.Tree.{Tree, lexeme}
use Rattle.justfile_round_trip.specs.RoundTrip.{TextDerives}
use Rattle.justfile_round_trip.proofs.LiteralTexts.FormatScans.{same_front}
use Rattle.justfile_round_trip.proofs.Values.TokenFacts.{Runs}
use Rattle.justfile_chunks.specs.Chunks.{IsCut, moved, moved_item, next_kind, text_of}
use Rattle.justfile_chunks.proofs.Colons.{IndentsHaveColons, colon_after}
use Rattle.justfile_chunks.proofs.Moved.{moved_derives}
use Rattle.justfile_chunks.proofs.OneCut.{TokensDeriveTree, cut_law, feed_law, tree_from, tree_to}
use Rattle.justfile_chunks.specs.Parts.{ReadLaw}
use Rattle.justfile_chunks.proofs.AllCuts.{onto_reverse}
use Rattle.justfile_chunks.proofs.AskedNext.{as_asked, cut_next, same_by_byte}
use Rattle.justfile_chunks.proofs.ChunkTokens.{AfterCut, Later, after_cut, feed_first, from_start, onto, whole_is}
use Rattle.justfile_chunks.proofs.ChunkTrees.{have_colons}
use Rattle.justfile_chunks.proofs.JoinedNext.{is_dark}
use Rattle.justfile_chunks.proofs.JoinedTokens.{joined_tokens}
use Rattle.justfile_chunks.proofs.MovedChunks.{fed_moves}
use Rattle.justfile_chunks.proofs.MovedPlaces.{Placed, placed, placed_front}
use Rattle.justfile_chunks.proofs.PartLexes.{EndsEmpty, EndsOnce, ends_later}
use Rattle.justfile_chunks.proofs.PartSteps.{fed_utf8, kind_is, len_is}
use Rattle.justfile_chunks.proofs.SameNext.{SameMode}
use Rattle.justfile_chunks.proofs.SplitRuns.{rest_utf8, runs_of, split_run}
use Rattle.justfile_chunks.proofs.TidyModes.{feed_of}

-- ---- a text after a line feed

-- the line feed, and the tokens of the text after it
pub record FeedFirst (text : List ℕ) (feed : Tok) (us : List Tok) : Type 0 where
  pub kind : feed.kind ≡ kinds.Eol
  later : Later (feed ∷ []) us
  text_is : text_of us ≡ text
  places : Placed (10 ∷ text) 1 us

pub feed_before : (text : List ℕ) (feed : Tok) (us : List Tok) → IsUtf8 (10 ∷ text) → Lexed (10 ∷ text) (feed ∷ us) → FeedFirst text feed us
feed_before text feed us u l =
    let h = from_start (10 ∷ text) (feed ∷ us) u l in
    let run : Runs start_mode (10 ∷ text) (feed ∷ us) = runs_of (10 ∷ text) (feed ∷ us) l in
    let same = sym run.2 ∙ feed_first text in
    let kind : feed.kind ≡ kinds.Eol = kind_is feed.kind kinds.Eol (length feed.lexeme) 1 same in
    let size : length feed.lexeme ≡ 1 = len_is feed.kind kinds.Eol (length feed.lexeme) 1 same in
    let following : run.0 ≡ text = (same_front feed.lexeme run.0 (10 ∷ []) text (sym run.1) size).1 in
    let is : text_of us ≡ text = (same_front feed.lexeme (text_of us) (10 ∷ []) text (whole_is (10 ∷ text) (feed ∷ us) u l) size).1 in
    record {
      kind = kind;
      later = record {
        same = subst (λ k. SameMode (mode_after k feed start_mode) start_mode) (sym kind)
            (record { openers = refl; levels = refl; in_body = refl; interpolation = refl; line_start = refl; after_f = refl });
        utf8 = subst IsUtf8 (following ∙ sym is) (rest_utf8 feed us start_mode (10 ∷ text) u run);
        run = subst (λ x. Runs (mode (feed ∷ [])) x us) (following ∙ sym is) run.3;
        ends = ends_later feed us h.ends (λ e. let bad : kinds.Eol ≡ kinds.Eof = sym kind ∙ e in cc);
        empty = end_empty us (ends_later feed us h.ends (λ e. let bad : kinds.Eol ≡ kinds.Eof = sym kind ∙ e in cc)) h.empty;
      };
      text_is = is;
      places = subst (λ n. Placed (10 ∷ text) n us) (omega (arith, size)) (placed (10 ∷ text) (feed ∷ us) l).1;
    }
  where
    end_empty : (us : List Tok) → EndsOnce us → EndsEmpty (feed ∷ us) → EndsEmpty us
    end_empty [] o e = absurd o
    end_empty (u ∷ us) o e = e

-- the tree begins with a line end
abbrev pub BeginsWithNewline : Tree → Type 0
BeginsWithNewline all = (others : Tree) × (all ≡ tree.Newline ∷ others)

pub newline_first : (conditions : Conditions) (feed : Tok) (us : List Tok) {all : Tree} {features : List (Noted Tok)} → feed.kind ≡ kinds.Eol
    → FileDerives conditions (significant_tokens (feed ∷ us)) all features → BeginsWithNewline all
newline_first conditions feed us {all = all} {features = features} kind d =
    feed_law to_tokens conditions (views_tokens conditions.expander) (map (over_literal lexeme)) (map-append (over_literal lexeme)) feed us all features kind
    (tree_to conditions (feed ∷ us) d)

-- ---- the joined text

some_tokens : (ts rest : List Tok) → IsCut (reverse ts) rest → 0 < length ts
some_tokens [] rest c = absurd c
some_tokens (t ∷ ts) rest c = omega arith

-- The text of tokens, a byte after it, which has a token of its own; and a text from that byte on, after a line feed.
module _ (conditions : Conditions) (ts : List Tok) (at end : Tok) (others : List ℕ) (next : ℕ) (is_other : is_blank_or_line_end next ≡ false)
    (left right : Tree) (left_features right_features : List (Noted Tok)) (utf8 : IsUtf8 (text_of ts ++ (next ∷ [])))
    (lexed : Lexed (text_of ts ++ (next ∷ [])) (ts ++ (at ∷ end ∷ []))) (cut : IsCut (reverse ts) (at ∷ end ∷ []))
    (derives : FileDerives conditions (significant_tokens (ts ++ (end ∷ []))) left left_features)
    (feed : Tok) (us : List Tok) (right_utf8 : IsUtf8 (10 ∷ next ∷ others)) (right_lexed : Lexed (10 ∷ next ∷ others) (feed ∷ us))
    (right_derives : FileDerives conditions (significant_tokens (feed ∷ us)) right right_features) where
  abbrev text : List ℕ
  text = text_of ts

  abbrev offset : ℕ
  offset = length text - 1

  abbrev line : ℕ
  line = count_by is_line_feed text - 1

  abbrev move : Tok → Tok
  move = moved offset line

  abbrev moved_rest : List Tok
  moved_rest = map move us

  before : AfterCut [] ts (at ∷ end ∷ [])
  before =
      after_cut [] (ts ++ (at ∷ end ∷ [])) ts (at ∷ end ∷ []) (from_start (text ++ (next ∷ [])) (ts ++ (at ∷ end ∷ [])) utf8 lexed) refl
      (some_tokens ts (at ∷ end ∷ []) cut) (omega arith)
      (subst (λ e. IsCut e (at ∷ end ∷ [])) (sym (append-nil (reverse ts)) ∙ onto_reverse ts []) cut)

  at_text : text_of (at ∷ end ∷ []) ≡ next ∷ []
  at_text = (same_front text (text_of (at ∷ end ∷ [])) text (next ∷ [])
      (sym (flat_map-append lexeme ts (at ∷ end ∷ [])) ∙ whole_is (text ++ (next ∷ [])) (ts ++ (at ∷ end ∷ [])) utf8 lexed) refl).1

  after : FeedFirst (next ∷ others) feed us
  after = feed_before (next ∷ others) feed us right_utf8 right_lexed

  tokens_are : Lexed (text ++ (next ∷ others)) (ts ++ moved_rest)
  tokens_are =
      joined_tokens offset line next (is_dark next is_other) [] others ts (feed ∷ []) us after.text_is utf8
      (feed_of text before.fed before.bytes) before.no_eof
      (subst (λ x. Runs start_mode (text ++ x) ts) at_text (split_run start_mode (text ++ text_of (at ∷ end ∷ [])) ts (at ∷ end ∷ []) before.run).first)
      before.ended (placed_front (text ++ (next ∷ [])) ts (at ∷ end ∷ []) 0 (placed (text ++ (next ∷ [])) (ts ++ (at ∷ end ∷ [])) lexed)) after.later
      (subst (λ k. IndentsHaveColons (colon_after k false) us) after.kind (have_colons conditions (feed ∷ us) right_derives).1)
      (subst (λ x. Placed (10 ∷ x) 1 us) (sym after.text_is) after.places) (fed_moves text (feed_of text before.fed before.bytes))

  next_moved : (us : List Tok) → next_kind us ≡ next_kind (map move us)
  next_moved [] = refl
  next_moved (u ∷ us) = ap (λ k. cond (is_whitespace u.kind) k (Some u.kind)) (next_moved us)

  cut_there : IsCut (reverse ts) moved_rest
  cut_there =
      cut_next (reverse ts) (at ∷ end ∷ []) moved_rest
      (same_by_byte next (is_dark next is_other) (onto [] ts) (at ∷ end ∷ []) (feed ∷ []) us others before.later at_text after.later after.text_is
      ∙ ap as_asked (next_moved us)) cut

  joined_derives : FileDerives conditions (significant_tokens (ts ++ moved_rest)) (left ++ drop 1 (map (moved_item offset line) right))
      (left_features ++ map (over_noted move) right_features)
  joined_derives =
      let view = views_tokens conditions.expander in
      let d = moved_derives offset line conditions (feed ∷ us) right right_features right_derives in
      let f = newline_first conditions (move feed) moved_rest after.kind d in
      tree_from conditions (ts ++ moved_rest)
      ((cut_law to_tokens conditions view (map (over_literal lexeme)) (map-append (over_literal lexeme)) ts moved_rest (move feed) end after.kind before.later.ends.1
      cut_there (left ++ drop 1 (map (moved_item offset line) right)) (left_features ++ map (over_noted move) right_features)).1
      (search (
        tree_to conditions (ts ++ (end ∷ [])) derives,
        subst (λ all. TokensDeriveTree conditions (move feed ∷ moved_rest) all (map (over_noted move) right_features)) f.1
            (tree_to conditions (move feed ∷ moved_rest) d),
        ap (λ all. left ++ drop 1 all) f.1,
      )))

  joined_text : TextDerives conditions (text ++ (next ∷ others)) (left ++ drop 1 (map (moved_item offset line) right))
      (left_features ++ map (over_noted move) right_features)
  joined_text =
      let utf8_is = IsUtf8-append text (next ∷ others) (fed_utf8 text (next ∷ []) (feed_of text before.fed before.bytes) utf8)
      (subst IsUtf8 after.text_is after.later.utf8) in
      search (utf8_is, tokens_are, joined_derives)

pub read_law : ReadLaw
read_law conditions text others next left right left_features right_features l r is_other =
    subst Whole (sym l.text_is) (by r.tokens r.lexed r.file)
  where
    Whole : List ℕ → Type 0
    Whole text =
        TextDerives conditions (text ++ (next ∷ others)) (left ++ drop 1 (map (moved_item (length text - 1) (count_by is_line_feed text - 1)) right))
        (left_features ++ map (over_noted (moved (length text - 1) (count_by is_line_feed text - 1))) right_features)

    by : (us : List Tok) → Lexed (10 ∷ next ∷ others) us → FileDerives conditions (significant_tokens us) right right_features → Whole (text_of l.tokens)
    by [] lexed derives = cc (lexed.are)
    by (feed ∷ us) lexed derives =
        joined_text conditions l.tokens l.at l.end others next is_other left right left_features right_features
        (subst (λ x. IsUtf8 (x ++ (next ∷ []))) l.text_is l.utf8)
        (subst (λ x. Lexed (x ++ (next ∷ [])) (l.tokens ++ (l.at ∷ l.end ∷ []))) l.text_is l.lexed) l.cut l.derives feed us r.utf8 lexed derives
