-- A text derives a shape exactly if its chunks derive it: by the law of one cut, all cuts.
use Rattle.std.proofs.Common.{◌≡◌, ◌∙◌, ℕ, ◌<◌, Bool, true, false, cond, List, [], ◌∷◌, ◌++◌, ◌⊎◌, length, drop, Some, None, refl, sym, ap, subst, arith, append-nil}
use Rattle.std.specs.Prelude.{◌↔◌, reverse}
use Rattle.std.specs.List.{AllZip, flat_map}
use Rattle.justfile_vocabulary.specs.declared.token_kind.TokenKind.{TokenKind}
use Rattle.justfile_vocabulary.specs.declared.token_kind.TokenKind.TheVariants as kinds
use Rattle.justfile_model.specs.Grammars.Conditions.{Conditions}
use Rattle.justfile_model.specs.Grammars.Files.{to_lexemes}
use Rattle.justfile_model.specs.Lexing.Modes.{Mode, mode, mode_after, start_mode, tail_of}
use Rattle.justfile_model.specs.Lexing.SignificantTokens.{is_whitespace, significant_from}
use Rattle.justfile_model.specs.Lexing.Tok.{Tok}
use Rattle.justfile_model.specs.Trees.LeafView.{views_lexemes}
use Rattle.justfile_model.specs.Trees.Tree as tree
use Rattle.justfile_model.specs.Trees.Tree.{Shape}
use Rattle.justfile_model.proofs.Derivations.CarryExpressions.{Pairs, Same, nil, pairs_before}
use Rattle.justfile_model.proofs.Derivations.Leaves.{elsewhere}
use Rattle.justfile_model.proofs.Lexing.UnclosedLaws.{reverse_more}
use Rattle.justfile_round_trip.proofs.LiteralTexts.LexedModes.{Sign, sign}
use Rattle.justfile_chunks.specs.Chunks.{AreParts, ChunksHave, Each, HasShape, IsCut, IsCutAfter, Parts, ShapeFeatures, ShapeLaw, chunk_texts, ends_line, joined, line_kind, next_kind}
use Rattle.justfile_chunks.proofs.Colons.{IndentsHaveColons}
use Rattle.justfile_chunks.proofs.OneCut.{CutLaw, FeedLaw, TokensDeriveShape, colons_law, cut_law, feed_law, rederived, shape_from, shape_to}
use Rattle.justfile_chunks.proofs.Passes.{line_ended, line_with}
use Rattle.justfile_chunks.proofs.ChunkTokens.{Borders, ChunkLexes, chunks_by, chunks_lex, closed, ended_before, first_part, onto, plain, tokens_by}
use Rattle.justfile_chunks.proofs.SameModes.{signs}
use Rattle.justfile_chunks.proofs.SameNext.{cons_parts}

-- ---- tokens with the same kinds and lexemes

pairs_of : (ts us : List Tok) → signs ts ≡ signs us → (g : Bool) → Pairs Same (significant_from g ts) (significant_from g us)
pairs_of [] [] e g = nil
pairs_of (t ∷ ts) (u ∷ us) e g =
    let h = cons_parts (sign t.kind t.lexeme) (sign u.kind u.lexeme) (signs ts) (signs us) e in
    let kind : t.kind ≡ u.kind = ap (λ (m : Sign). m.kind) h.0 in
    subst (λ k. Pairs Same (significant_from g (t ∷ ts)) (cond (is_whitespace k) (significant_from false us)
    (record { tok = u; glued = g } ∷ significant_from true us))) kind
    (pairs_before _ _ (is_whitespace t.kind) (record { kind = kind; lexeme = ap (λ (m : Sign). m.lexeme) h.0; glued = refl }) (pairs_of ts us h.1 false)
    (pairs_of ts us h.1 true))
pairs_of _ _ e g = cc

-- ---- cuts, by what is before them

levels_like : (k : TokenKind) (t u : Tok) (m n : Mode) → t.lexeme ≡ u.lexeme → m.levels ≡ n.levels
    → (mode_after k t m).levels ≡ (mode_after k u n).levels
levels_like kinds.Indent t u m n l e = λ i. l i ∷ e i
levels_like kinds.Dedent t u m n l e = ap tail_of e
levels_like _ t u m n l e = e

cut_by : (t u : Tok) (e f ts us : List Tok) → t.kind ≡ u.kind → (mode (t ∷ e)).levels ≡ (mode (u ∷ f)).levels → line_kind e ≡ line_kind f
    → next_kind ts ≡ next_kind us → IsCutAfter t e ts → IsCutAfter u f us
cut_by t u e f ts us kind levels line next c = record {
  ends = sym (ap ends_line kind) ∙ c.ends;
  outside = sym levels ∙ c.outside;
  no_body = λ h. c.no_body (next ∙ h);
  no_attributes = λ h. c.no_attributes (line ∙ h);
  no_doc = λ h. subst (λ n. (n ≡ Some kinds.Comment) ⊎ (n ≡ Some kinds.Eol)) next (c.no_doc (line ∙ h));
  goes_on = λ h. c.goes_on (next ∙ h);
}

-- a cut after a part depends on the levels and the line before the part alone
cut_like : (p e f rest : List Tok) → 0 < length p → (mode e).levels ≡ (mode f).levels → line_kind e ≡ line_kind f → IsCut (onto e p) rest
    → IsCut (onto f p) rest
cut_like [] e f rest l levels line c = absurd (omega arith)
cut_like (t ∷ []) e f rest l levels line c = cut_by t t e f rest rest refl (levels_like t.kind t t (mode e) (mode f) refl levels) line refl c
cut_like (t ∷ w ∷ p) e f rest l levels line c =
    cut_like (w ∷ p) (t ∷ e) (t ∷ f) rest (omega arith) (levels_like t.kind t t (mode e) (mode f) refl levels) (ap (line_with t.kind) line) c

pub onto_reverse : (p e : List Tok) → reverse p ++ e ≡ onto e p
onto_reverse [] e = refl
onto_reverse (t ∷ p) e = reverse_more t p e ∙ onto_reverse p (t ∷ e)

-- no level is open and the line is ended, at the start of a text and after a cut
record Fresh (earlier : List Tok) : Type 0 where
  pub levels : (mode earlier).levels ≡ []
  pub line : line_kind earlier ≡ None

fresh : (e rest : List Tok) → IsCut e rest → Fresh e
fresh [] rest c = absurd c
fresh (t ∷ e) rest c = record { levels = c.outside; line = line_ended t.kind (line_kind e) c.ends }

-- ---- chunks that have the same

module _ {I J X F : Type 0} (P : I → X → F → Type 0) (Q : J → X → F → Type 0) where
  pub each_same : (is : List I) (js : List J) → AllZip (λ i j. (x : X) (f : F) → P i x f ↔ Q j x f) is js → (xs : List X) (fs : List F)
      → Each P is xs fs ↔ Each Q js xs fs
  each_same [] [] e [] [] = (λ h. h, λ h. h)
  each_same (i ∷ is) (j ∷ js) e (x ∷ xs) (f ∷ fs) =
      let m = each_same is js e.1 xs fs in
      (λ h. ((e.0 x f).0 h.0, m.0 h.1), λ h. ((e.0 x f).1 h.0, m.1 h.1))
  each_same [] (j ∷ js) e xs fs = absurd e
  each_same (i ∷ is) [] e xs fs = absurd e
  each_same _ _ e _ _ = (λ h. absurd h, λ h. absurd h)

with_each : {I J X F : Type 0} (P : I → List X → List F → Type 0) (Q : J → List X → List F → Type 0) (is : List I) (js : List J) (items : List X) (features : List F)
    → ((xs : List (List X)) (fs : List (List F)) → Each P is xs fs → Each Q js xs fs) → ChunksHave P is items features → ChunksHave Q js items features
with_each P Q is js items features f h = search (h, f)

have_same : {I J X F : Type 0} (P : I → List X → List F → Type 0) (Q : J → List X → List F → Type 0) (is : List I) (js : List J)
    → AllZip (λ i j. (xs : List X) (fs : List F) → P i xs fs ↔ Q j xs fs) is js → (items : List X) (features : List F)
    → ChunksHave P is items features ↔ ChunksHave Q js items features
have_same P Q is js e items features =
    let same = each_same P Q is js e in
    (with_each P Q is js items features (λ xs fs. (same xs fs).0), with_each Q P js is items features (λ xs fs. (same xs fs).1))

-- what follows of each two
pub zip_over : {I J : Type 0} {R S : I → J → Type 0} → ((i : I) (j : J) → R i j → S i j) → (is : List I) (js : List J) → AllZip R is js → AllZip S is js
zip_over f [] [] h = tt
zip_over f (i ∷ is) (j ∷ js) h = (f i j h.0, zip_over f is js h.1)
zip_over f _ _ h = absurd h

-- ---- all cuts, of tokens that derive items with features

module _ {X F : Type 0} (newline : X) (Derives : List Tok → List X → List F → Type 0) where
  abbrev ChunksDerive : List (List Tok) → List X → List F → Type 0
  ChunksDerive = ChunksHave Derives

  -- one chunk
  alone : (tokens : List Tok) (all : List X) (features : List F) → Derives tokens all features ↔ ChunksDerive (tokens ∷ []) all features
  alone tokens all features = (to, λ h. from h.each_items h.each_features h.have h.items_are h.features_are)
    where
      to : Derives tokens all features → ChunksDerive (tokens ∷ []) all features
      to d = record { each_items = all ∷ []; each_features = features ∷ []; have = (d, tt); items_are = sym (append-nil all); features_are = sym (append-nil features) }

      from : (alls : List (List X)) (noted : List (List F)) → Each Derives (tokens ∷ []) alls noted → all ≡ joined alls → features ≡ flat_map (λ fs. fs) noted
          → Derives tokens all features
      from (s ∷ []) (fs ∷ []) h e f = subst (λ x. Derives tokens x features) (sym (e ∙ append-nil s))
          (subst (λ x. Derives tokens s x) (sym (f ∙ append-nil fs)) h.0)
      from (s ∷ []) (fs ∷ gs ∷ noted) h e f = absurd h.1
      from (s ∷ r ∷ alls) (fs ∷ noted) h e f = absurd h.1
      from _ _ h e f = absurd h

  module _ (cut_law : CutLaw newline Derives) (feed_law : FeedLaw newline Derives) where
    -- the first chunk, and the others
    module _ (front rest : List Tok) (feed eof : Tok) (feed_is : feed.kind ≡ kinds.Eol) (eof_is : eof.kind ≡ kinds.Eof) (x : List Tok) (xs : List (List Tok))
        (cut : IsCut (reverse front) rest)
        (law : (all : List X) (features : List F) → Derives (feed ∷ rest) all features ↔ ChunksDerive ((feed ∷ x) ∷ xs) all features) where
      -- what the others derive begins with a line end
      begins : (alls : List (List X)) (noted : List (List F)) → Each Derives ((feed ∷ x) ∷ xs) alls noted
          → (right : List X) × (joined alls ≡ newline ∷ right) × (flat_map (drop 1) alls ≡ right)
      begins (s ∷ alls) (fs ∷ noted) h =
          let f = feed_law feed x s fs feed_is h.0 in
          (f.0 ++ flat_map (drop 1) alls, ap (λ y. y ++ flat_map (drop 1) alls) f.1, ap (λ y. drop 1 y ++ flat_map (drop 1) alls) f.1)
      begins _ _ h = absurd h

      one_more : (all : List X) (features : List F)
          → Derives (front ++ rest) all features ↔ ChunksDerive ((front ++ (eof ∷ [])) ∷ (feed ∷ x) ∷ xs) all features
      one_more all features = (to, λ h. from h.each_items h.each_features h.have h.items_are h.features_are)
        where
          to : Derives (front ++ rest) all features → ChunksDerive ((front ++ (eof ∷ [])) ∷ (feed ∷ x) ∷ xs) all features
          to d =
              let s = (cut_law front rest feed eof feed_is eof_is cut all features).0 d in
              let t = (law (newline ∷ s.right) s.right_features).0 s.right_derives in
              let n = begins t.each_items t.each_features t.have in
              record {
                each_items = s.left ∷ t.each_items;
                each_features = s.left_features ∷ t.each_features;
                have = (s.left_derives, t.have);
                items_are = s.all_is ∙ ap (λ y. s.left ++ y) (ap (drop 1) (t.items_are ∙ n.1) ∙ sym n.2);
                features_are = s.features_are ∙ ap (λ y. s.left_features ++ y) t.features_are;
              }

          from : (alls : List (List X)) (noted : List (List F)) → Each Derives ((front ++ (eof ∷ [])) ∷ (feed ∷ x) ∷ xs) alls noted → all ≡ joined alls
              → features ≡ flat_map (λ fs. fs) noted → Derives (front ++ rest) all features
          from (s ∷ alls) (fs ∷ noted) d e g =
              let n = begins alls noted d.1 in
              (cut_law front rest feed eof feed_is eof_is cut all features).1
              (search (
                d.0,
                (law (newline ∷ n.0) (flat_map (λ fs. fs) noted)).1
                    (record { each_items = alls; each_features = noted; have = d.1; items_are = sym n.1; features_are = refl }),
                e ∙ ap (λ y. s ++ y) n.2,
                g,
              ))
          from _ _ d e g = absurd d

    module _ (b : Borders) where
      -- the tokens that are before the first part: none, or a line feed
      abbrev before : Bool → List Tok → List Tok
      before true part = []
      before false part = b.feed part ∷ []

      fresh_before : (first : Bool) (part : List Tok) → Fresh (before first part)
      fresh_before true part = record { levels = refl; line = refl }
      fresh_before false part = record {
        levels = ap (λ k. (mode_after k (b.feed part) start_mode).levels) (b.feed_kind part);
        line = line_ended (b.feed part).kind None (ap ends_line (b.feed_kind part));
      }

      cut_of : (first : Bool) (part earlier rest : List Tok) → 0 < length part → Fresh earlier → IsCut (onto earlier part) rest
          → IsCut (reverse (tokens_by b first part part)) rest
      cut_of first part earlier rest l f c =
          let g = fresh_before first part in
          subst (λ x. IsCut x rest) (by first) (cut_like part earlier (before first part) rest l (f.levels ∙ sym g.levels) (f.line ∙ sym g.line) c)
        where
          by : (first : Bool) → onto (before first part) part ≡ reverse (tokens_by b first part part)
          by true = sym (onto_reverse part []) ∙ append-nil (reverse part)
          by false = sym (onto_reverse (b.feed part ∷ part) []) ∙ append-nil (reverse (b.feed part ∷ part))

      tokens_append : (first : Bool) (part rest : List Tok) → tokens_by b first part (part ++ rest) ≡ tokens_by b first part part ++ rest
      tokens_append true part rest = refl
      tokens_append false part rest = refl

      -- tokens derive items exactly if those of their chunks derive them
      all_cuts : (part : List Tok) (parts : List (List Tok)) (earlier later : List Tok) → Fresh earlier → Parts earlier later (part ∷ parts)
          → (first : Bool) (all : List X) (features : List F)
          → Derives (tokens_by b first part later) all features ↔ ChunksDerive (chunks_by b first (part ∷ parts)) all features
      all_cuts part [] earlier later f p first all features =
          subst (λ x. Derives (tokens_by b first part x) all features ↔ ChunksDerive (tokens_by b first part part ∷ []) all features) (sym (first_part p))
          (alone (tokens_by b first part part) all features)
      all_cuts part (q ∷ parts) earlier later f p first all features =
          let s = first_part p in
          let front = tokens_by b first part part in
          let others = chunks_by b false (q ∷ parts) in
          let t = b.eof first part in
          let law = all_cuts q parts (onto earlier part) s.rest (fresh (onto earlier part) s.rest s.cut) s.others false in
          subst (λ y. Derives y all features ↔ ChunksDerive (tokens_by b first part (closed b first part) ∷ others) all features)
          (sym (tokens_append first part s.rest) ∙ ap (tokens_by b first part) (sym s.is))
          (subst (λ y. Derives (front ++ s.rest) all features ↔ ChunksDerive (y ∷ others) all features) (sym (tokens_append first part (t ∷ [])))
          (one_more front s.rest (b.feed q) t (b.feed_kind q) (b.eof_kind first part) (ended_before b parts false q) (chunks_by b false parts)
          (cut_of first part earlier s.rest s.some f s.cut) law all features))

      -- what a text derives is what its chunks have, if each has what its tokens derive
      pub cuts_have : {I : Type 0} (Has : I → List X → List F → Type 0) (chunks : List I) (tokens : List Tok) (parts : List (List Tok)) → AreParts tokens parts
          → AllZip (λ i ts. (all : List X) (features : List F) → Has i all features ↔ Derives ts all features) chunks (chunks_by b true parts)
          → (all : List X) (features : List F) → Derives tokens all features ↔ ChunksHave Has chunks all features
      cuts_have Has chunks tokens [] are same all features = absurd (first_part are)
      cuts_have Has chunks tokens (part ∷ parts) are same all features =
          let cuts = all_cuts part parts [] tokens (record { levels = refl; line = refl }) are true all features in
          let have = have_same Has Derives chunks (chunks_by b true (part ∷ parts)) same all features in
          (λ d. have.1 (cuts.0 d), λ c. cuts.1 (have.0 c))

-- ---- shapes

module _ (conditions : Conditions) where
  -- tokens with the same kinds and lexemes derive the same shapes
  elsewhere_too : (ts us : List Tok) {shape : Shape} {features : ShapeFeatures} → signs ts ≡ signs us → TokensDeriveShape conditions ts shape features
      → TokensDeriveShape conditions us shape features
  elsewhere_too ts us e h =
      rederived to_lexemes conditions (views_lexemes conditions.expander) (λ ls. ls) (λ ls ms. refl) ts us h
      (elsewhere conditions.limit h.derives (pairs_of ts us e false))

  has_shape : (text : List ℕ) (tokens : List Tok) → ChunkLexes text tokens → (shape : Shape) (features : ShapeFeatures)
      → HasShape conditions text shape features ↔ TokensDeriveShape conditions tokens shape features
  has_shape text tokens l shape features = (to, from)
    where
      colons : (ts : List Tok) → TokensDeriveShape conditions ts shape features → IndentsHaveColons false ts
      colons ts d = colons_law to_lexemes conditions (views_lexemes conditions.expander) (λ ls. ls) (λ ls ms. refl) ts shape features d

      to : HasShape conditions text shape features → TokensDeriveShape conditions tokens shape features
      to h =
          let d = shape_to conditions h.tokens h.derives in
          elsewhere_too h.tokens tokens (l.has h.tokens h.lexed (colons h.tokens d)) d

      from : TokensDeriveShape conditions tokens shape features → HasShape conditions text shape features
      from d =
          let x = l.lexes (colons tokens d) in
          record { tokens = x.0; lexed = x.1; derives = shape_from conditions x.0 (elsewhere_too tokens x.0 (sym x.2) d) }

-- A text derives a shape exactly if its chunks have it.
pub chunks_derive : ShapeLaw
chunks_derive conditions text tokens parts utf8 lexed are shape features =
    let view = views_lexemes conditions.expander in
    let have =
    cuts_have tree.Newline (TokensDeriveShape conditions) (cut_law to_lexemes conditions view (λ ls. ls) (λ ls ms. refl))
    (feed_law to_lexemes conditions view (λ ls. ls) (λ ls ms. refl)) plain (HasShape conditions) (chunk_texts parts) tokens parts are
    (zip_over (has_shape conditions) (chunk_texts parts) (chunks_by plain true parts) (chunks_lex text tokens utf8 lexed plain parts are)) shape features in
    (λ d. have.0 (shape_to conditions tokens d), λ c. shape_from conditions tokens (have.1 c))
