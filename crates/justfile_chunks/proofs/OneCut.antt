-- The grammar's part of the laws of chunks: the law for one cut, that tokens that derive items have their colons, and that a line end before
-- tokens is derived as one.
use Rattle.std.proofs.Common.{◌≡◌, ◌∙◌, ℕ, true, false, cond, List, [], ◌∷◌, ◌++◌, refl, sym, ap, subst, append_assoc, append-nil}
use Rattle.std.proofs.lemmas.List.{map-append, reverse-append, reverse-reverse}
use Rattle.std.specs.Prelude.{◌↔◌, map, reverse}
use Rattle.justfile_vocabulary.specs.declared.token_kind.TokenKind.TheVariants as kinds
use Rattle.justfile_model.specs.Grammars.Conditions.{Conditions}
use Rattle.justfile_model.specs.Grammars.Docs.{LineEnd, documented}
use Rattle.justfile_model.specs.Grammars.Expressions.{BelowLimit, Tokens}
use Rattle.justfile_model.specs.Grammars.Features.{Noted}
use Rattle.justfile_model.specs.Grammars.Files.{FileDerives, ShapeDerives, ordered, sets_doc, to_lexemes, to_tokens}
use Rattle.justfile_model.specs.Grammars.Grammar.{File, TokenProjection}
use Rattle.justfile_model.specs.Lexing.SignificantTokens.{is_whitespace, significant_from, significant_tokens}
use Rattle.justfile_model.specs.Lexing.Tok.{Tok}
use Rattle.justfile_model.specs.LiteralTexts.Literals.{Literal, over_literal}
use Rattle.justfile_model.specs.Trees.LeafView.{LeafView, views_lexemes, views_tokens}
use Rattle.justfile_model.specs.Trees.Tree as tree
use Rattle.justfile_model.specs.Trees.Tree.{OrderedItem, Shape, Tree, lexeme}
use Rattle.justfile_chunks.specs.Chunks.{IsCut, IsCutAfter, ShapeFeatures, ends_line}
use Rattle.justfile_chunks.proofs.Colons.{IndentsHaveColons, LastIs, file_colons, with_whitespace}
use Rattle.justfile_chunks.proofs.CutTokens.{cut_here, ends_dark, significant, significant_append}
use Rattle.justfile_chunks.proofs.Joins.{after_end}
use Rattle.justfile_chunks.proofs.Passes.{CutHere, clash}
use Rattle.justfile_chunks.proofs.Sides.{Derives, Sides, behind, cut_joined, cut_split, past_end, with_end, without_end}

-- no cut comes after the end
not_cut : (later earlier ts : Tokens) → CutHere later (behind earlier ts) → LastIs kinds.Eof ts → ⊥
not_cut later earlier [] k h = h
not_cut later earlier (t ∷ []) k h = clash (ap ends_line h) k.ends
not_cut later earlier (t ∷ u ∷ ts) k h = not_cut later (t ∷ earlier) (u ∷ ts) k h

-- ---- tokens that derive items with features, before a cut and after it

module _ {X F : Type 0} (newline : X) (Derives : List Tok → List X → List F → Type 0) where
  -- The tokens before a cut and those after it derive these items: with the end of a text after the first ones, and a line end before the others.
  pub record CutSides (before after : List Tok) (feed eof : Tok) (all : List X) (features : List F) : Type 0 where
    pub left : List X
    pub right : List X
    pub left_features : List F
    pub right_features : List F
    pub left_derives : Derives (before ++ (eof ∷ [])) left left_features
    pub right_derives : Derives (feed ∷ after) (newline ∷ right) right_features
    pub all_is : all ≡ left ++ right
    pub features_are : features ≡ left_features ++ right_features

  -- What tokens with a cut derive is what those before it and those after it derive, joined.
  abbrev pub CutLaw : Type 0
  CutLaw = (before after : List Tok) (feed eof : Tok) → feed.kind ≡ kinds.Eol → eof.kind ≡ kinds.Eof → IsCut (reverse before) after
      → (all : List X) (features : List F)
      → Derives (before ++ after) all features ↔ CutSides before after feed eof all features

  -- A line end before tokens is derived as one.
  abbrev pub FeedLaw : Type 0
  FeedLaw = (feed : Tok) (tokens : List Tok) (all : List X) (features : List F) → feed.kind ≡ kinds.Eol → Derives (feed ∷ tokens) all features
      → (right : List X) × (all ≡ newline ∷ right)

-- ---- one cut

-- the token before a cut, and those before it
record LastToken (before after : List Tok) : Type 0 where
  front : List Tok
  last : Tok
  before_is : before ≡ front ++ (last ∷ [])
  cut : IsCutAfter last (reverse front) after

last_token : (before after : List Tok) → IsCut (reverse before) after → LastToken before after
last_token before after c = by (reverse before) refl c
  where
    by : (e : List Tok) → reverse before ≡ e → IsCut e after → LastToken before after
    by [] e c = absurd c
    by (t ∷ earlier) e c = record {
      front = reverse earlier;
      last = t;
      before_is = sym (reverse-reverse before) ∙ ap reverse e ∙ reverse-append (t ∷ []) earlier;
      cut = subst (λ l. IsCutAfter t l after) (sym (reverse-reverse earlier)) c;
    }

-- for trees and for shapes
module _ {A B C : Type 0} (projection : TokenProjection A B C B) (conditions : Conditions) (view : LeafView A B)
    (texts : List (Literal A) → List (Literal (List ℕ))) (texts_append : (ls ms : List (Literal A)) → texts (ls ++ ms) ≡ texts ls ++ texts ms) where
  abbrev Ordered : Type 0
  Ordered = List (OrderedItem A B C)

  abbrev Derived : Tokens → Ordered → List (Noted B) → Type 0
  Derived = Derives projection conditions view texts texts_append

  -- the tokens of a text derive these items
  abbrev pub TokensDerive : List Tok → Ordered → List (Noted B) → Type 0
  TokensDerive tokens = Derived (significant_tokens tokens)

  -- tokens that derive the same written items derive the same items and features
  pub rederived : (ts us : List Tok) {all : Ordered} {features : List (Noted B)} (d : TokensDerive ts all features)
      → File projection (BelowLimit conditions.limit) d.written d.by_construct (significant_tokens us) → TokensDerive us all features
  rederived ts us d derives = search (derives, d)

  abbrev SidesDerive : (before after : List Tok) (feed eof : Tok) → Ordered → List (Noted B) → Type 0
  SidesDerive = CutSides tree.Newline TokensDerive

  module _ (before after : List Tok) (feed eof : Tok) (is_feed : feed.kind ≡ kinds.Eol) (is_eof : eof.kind ≡ kinds.Eof) (l : LastToken before after) where
    ts : Tokens
    ts = significant_from false (l.front ++ (l.last ∷ []))

    us : Tokens
    us = significant_from true after

    parted : (later : List Tok) → significant_tokens (before ++ later) ≡ significant_from false (l.front ++ (l.last ∷ [])) ++ significant_from true later
    parted later =
        ap (λ b. significant_from false (b ++ later)) l.before_is ∙ ap (significant_from false) (append_assoc l.front (l.last ∷ []) later)
        ∙ significant_append l.front l.last later false (ends_dark l.last.kind l.cut.ends)

    whole_is : significant_tokens (before ++ after) ≡ ts ++ us
    unfolding ts us
    whole_is = parted after

    left_is : significant_tokens (before ++ (eof ∷ [])) ≡ ts ++ (significant eof true ∷ [])
    unfolding ts
    left_is = parted (eof ∷ []) ∙ ap (λ k. ts ++ cond (is_whitespace k) [] (significant eof true ∷ [])) is_eof

    right_is : significant_tokens (feed ∷ after) ≡ significant feed false ∷ us
    unfolding us
    right_is = ap (λ k. cond (is_whitespace k) (significant_from false after) (significant feed false ∷ significant_from true after)) is_feed

    cut : CutHere us (behind [] ts)
    unfolding ts us
    cut = cut_here l.front l.last after l.cut

    join : (all : Ordered) (features : List (Noted B)) → SidesDerive before after feed eof all features
        → Derived (significant_tokens (before ++ after)) all features
    join all features s =
        let left = subst (λ t. Derived t s.left s.left_features) left_is s.left_derives in
        let derives = subst (λ t. Derived t (tree.Newline ∷ s.right) s.right_features) right_is s.right_derives in
        let right = without_end projection conditions view texts texts_append is_feed derives in
        let whole = cut_joined projection conditions view texts texts_append ts (significant eof true) is_eof us cut left right in
        subst (λ t. Derived t all features) (sym whole_is)
        (subst (λ x. Derived (ts ++ us) x features) (sym s.all_is) (subst (λ n. Derived (ts ++ us) (s.left ++ s.right) n) (sym s.features_are) whole))

    abbrev Both : Tokens → Ordered → List (Noted B) → Type 0
    Both vs all features = Sides projection conditions view texts texts_append ts vs (significant eof true) all features

    split_by : (vs : Tokens) → us ≡ vs → (all : Ordered) (features : List (Noted B)) → Derived (ts ++ us) all features → Both us all features
    split_by [] e all features d =
        absurd (not_cut us [] ts cut (file_colons projection (BelowLimit conditions.limit)
        (subst (λ t. File projection (BelowLimit conditions.limit) d.written d.by_construct t) (ap (λ x. ts ++ x) e ∙ append-nil ts) d.derives) false).last)
    split_by (u ∷ x) e all features d =
        subst (λ v. Both v all features) (sym e)
        (cut_split projection conditions view texts texts_append ts (significant eof true) is_eof u x (subst (λ v. CutHere v (behind [] ts)) e cut)
        (subst (λ v. Derived (ts ++ v) all features) e d))

    split : (all : Ordered) (features : List (Noted B)) → Derived (significant_tokens (before ++ after)) all features
        → SidesDerive before after feed eof all features
    split all features d =
        let s = split_by us refl all features (subst (λ t. Derived t all features) whole_is d) in
        search (
          s,
          subst (λ t. Derived t s.left s.left_features) (sym left_is) s.left_derives,
          subst (λ t. Derived t (tree.Newline ∷ s.right) s.right_features) (sym right_is) (with_end projection conditions view texts texts_append is_feed s.right_derives),
        )

  pub cut_law : CutLaw tree.Newline TokensDerive
  cut_law before after feed eof is_feed is_eof c all features =
      let l = last_token before after c in
      (split before after feed eof is_feed is_eof l all features, join before after feed eof is_feed is_eof l all features)

  pub feed_law : FeedLaw tree.Newline TokensDerive
  feed_law feed tokens all features e d =
      let first : significant_tokens (feed ∷ tokens) ≡ significant feed false ∷ significant_from true tokens =
      ap (λ k. cond (is_whitespace k) (significant_from false tokens) (significant feed false ∷ significant_from true tokens)) e in
      let derives = subst (File projection (BelowLimit conditions.limit) d.written d.by_construct) first d.derives in
      let a = after_end projection (BelowLimit conditions.limit) derives e in
      let p = past_end projection conditions view texts texts_append a.others all (sym (ap (ordered view) a.items_are) ∙ d.ordered_is) in
      (documented sets_doc LineEnd p.items, p.all_is)

  -- Each indent comes after a colon, with no dedent between them.
  pub colons_law : (tokens : List Tok) (all : Ordered) (features : List (Noted B)) → TokensDerive tokens all features → IndentsHaveColons false tokens
  colons_law tokens all features d = with_whitespace tokens false false (file_colons projection (BelowLimit conditions.limit) d.derives false).are

module _ (conditions : Conditions) where
  -- ---- shapes

  abbrev pub TokensDeriveShape : List Tok → Shape → ShapeFeatures → Type 0
  TokensDeriveShape = TokensDerive to_lexemes conditions (views_lexemes conditions.expander) (λ ls. ls) (λ ls ms. refl)

  pub shape_from : (ts : List Tok) {shape : Shape} {features : ShapeFeatures} → TokensDeriveShape ts shape features
      → ShapeDerives conditions (significant_tokens ts) shape features
  shape_from ts d = search d

  pub shape_to : (ts : List Tok) {shape : Shape} {features : ShapeFeatures} → ShapeDerives conditions (significant_tokens ts) shape features
      → TokensDeriveShape ts shape features
  shape_to ts d = search d

  -- ---- trees

  abbrev pub TokensDeriveTree : List Tok → Tree → List (Noted Tok) → Type 0
  TokensDeriveTree =
      TokensDerive to_tokens conditions (views_tokens conditions.expander) (map (over_literal lexeme)) (map-append (over_literal lexeme))

  pub tree_from : (ts : List Tok) {all : Tree} {features : List (Noted Tok)} → TokensDeriveTree ts all features
      → FileDerives conditions (significant_tokens ts) all features
  tree_from ts d = search d

  pub tree_to : (ts : List Tok) {all : Tree} {features : List (Noted Tok)} → FileDerives conditions (significant_tokens ts) all features
      → TokensDeriveTree ts all features
  tree_to ts d = search d
