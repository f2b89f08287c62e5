-- A file that is moved derives the moved tree.
use Rattle.std.proofs.Common.{◌≡◌, ◌∙◌, ℕ, ◌+◌, Bool, true, false, List, [], ◌∷◌, ◌++◌, map, Option, Some, None, refl, sym, ap, subst}
use Rattle.std.proofs.lemmas.List.{map-append}
use Rattle.std.specs.Option.{option_map}
use Rattle.justfile_vocabulary.specs.declared.attribute_kind.AttributeKind.TheVariants.{Doc}
use Rattle.justfile_model.specs.Grammars.Conditions.{Conditions, VersionNumbers}
use Rattle.justfile_model.specs.Grammars.Docs.{Nothing, documented}
use Rattle.justfile_model.specs.Grammars.Expressions.{BelowLimit, Tokens}
use Rattle.justfile_model.specs.Grammars.Features.{ConstructFeatures, Noted, over_features, over_noted}
use Rattle.justfile_model.specs.Grammars.Files.{FileDerives, all_features, all_literals, broken, construct_features, entries_features, if_both, item_broken, ordered, ordered_item, sets_doc, to_tokens, undocumented, with_entries, written_literals}
use Rattle.justfile_model.specs.Grammars.Grammar.{File}
use Rattle.justfile_model.specs.Lexing.SignificantTokens.{SignificantToken, is_whitespace, significant_from, significant_tokens}
use Rattle.justfile_model.specs.Lexing.Tok.{Tok}
use Rattle.justfile_model.specs.LiteralTexts.Literals as literals
use Rattle.justfile_model.specs.LiteralTexts.Literals.{AreCookedTexts, Expansions, Literal, over_literal}
use Rattle.justfile_model.specs.Meanings.AttributeKinds.{same_attribute}
use Rattle.justfile_model.specs.Meanings.AttributeRules.{of_some}
use Rattle.justfile_model.specs.Meanings.Meaning.{entries_of}
use Rattle.justfile_model.specs.Meanings.Rules.{over_broken}
use Rattle.justfile_model.specs.Trees.ContentLeaf.{literal_value}
use Rattle.justfile_model.specs.Trees.LeafView.{LeafView, tok_content, views_tokens}
use Rattle.justfile_model.specs.Trees.Tree.{Construct, Content, Entry, Tree, WrittenAttribute, WrittenItem, WrittenTree, lexeme, line_of, over_content, over_entry, over_item, over_written_attribute}
use Rattle.justfile_model.proofs.Derivations.Carry as carry
use Rattle.justfile_model.proofs.Derivations.Carry.{Alike, Maps, over_items}
use Rattle.justfile_model.proofs.Derivations.CarryExpressions.{Pairs, Same, cons, nil, pairs_before}
use Rattle.justfile_model.proofs.Derivations.Leaves.{features_itself, items_itself, items_over, unchanged, written_over}
use Rattle.justfile_model.proofs.Lists.Binds.{never_some, some_back}
use Rattle.justfile_model.proofs.Meanings.Ordered.{both_mapped, content_over}
use Rattle.justfile_model.proofs.Meanings.SameViewRecipes.{construct_broken_over, entries_features_over}
use Rattle.justfile_model.proofs.Meanings.SameViewRules.{both_over, some_over}
use Rattle.justfile_model.proofs.Meanings.ShapesMean.{none_of_none}
use Rattle.justfile_model.proofs.Printed.DocsKept.{any_kind_over, documented_over}
use Rattle.justfile_model.proofs.Relations.AlikeAttributes.{SeesContent}
use Rattle.justfile_model.proofs.Relations.AlikeMeanings.{entries_alike}
use Rattle.justfile_model.proofs.Relations.Graph.{SameView, graph, literal_graph, relates_only, sees_graph, written_graph}
use Rattle.justfile_model.proofs.Relations.Projected.{entries_same}
use Rattle.justfile_chunks.specs.Chunks.{moved, moved_item}

module _ (offset line : ℕ) where
  abbrev move : Tok → Tok
  move = moved offset line

  abbrev moves : Maps Tok Tok ℕ Tok Tok Tok ℕ Tok
  moves = record { leaf = move; position = move; number = λ n. line + n; star = move }

  abbrev move_written : List (WrittenAttribute Tok Tok) → List (WrittenAttribute Tok Tok)
  move_written = map (over_written_attribute move move)

  abbrev move_content : Content Tok Tok ℕ Tok → Content Tok Tok ℕ Tok
  move_content = over_content move move (λ n. line + n) move

  abbrev move_item : WrittenItem Tok Tok ℕ Tok → WrittenItem Tok Tok ℕ Tok
  move_item = over_item move move (λ n. line + n) move move_written

  abbrev move_tree : Tree → Tree
  move_tree = map (moved_item offset line)

  -- ---- derivations

  pub record IsMoved (t u : SignificantToken) : Type 0 where
    pub tok_is : u.tok ≡ move t.tok
    pub glued_is : t.glued ≡ u.glued

  moved_same : (t u : SignificantToken) → IsMoved t u → Same t u
  moved_same t u m = record { kind = sym (ap (λ (x : Tok). x.kind) m.tok_is); lexeme = sym (ap (λ (x : Tok). x.lexeme) m.tok_is); glued = m.glued_is }

  moved_pairs : (ts : List Tok) (glued : Bool) → Pairs IsMoved (significant_from glued ts) (significant_from glued (map move ts))
  moved_pairs [] glued = nil
  moved_pairs (t ∷ ts) glued = pairs_before _ _ (is_whitespace t.kind) (record { tok_is = refl; glued_is = refl }) (moved_pairs ts false) (moved_pairs ts true)

  moved_file : (limit : ℕ) {written : WrittenTree} {fs : List (ConstructFeatures Tok)} {ts us : Tokens} → File to_tokens (BelowLimit limit) written fs ts
      → Pairs IsMoved ts us
      → File to_tokens (BelowLimit limit) (over_items moves written) (map (over_features move) fs) us
  moved_file limit {fs = fs} {us = us} h s =
      let same : Alike to_tokens moves to_tokens unchanged IsMoved = record {
        leaves = λ t u m. m.tok_is;
        positions = λ t u m. m.tok_is;
        numbers = λ t u m. ap line_of m.tok_is;
        stars = λ t u m. m.tok_is;
      } in
      let x =
      carry.file to_tokens (BelowLimit limit) moves IsMoved moved_same to_tokens (BelowLimit limit) unchanged same (λ d ts us s opened. opened) h us s in
      subst (λ y. File to_tokens (BelowLimit limit) y (map (over_features move) fs) us) (sym (items_itself x.tree) ∙ x.alike)
      (subst (λ n. File to_tokens (BelowLimit limit) x.tree n us) (sym (features_itself x.features) ∙ x.noted_alike) x.derives)

  back_same : (t u : SignificantToken) → IsMoved u t → Same t u
  back_same t u m = record { kind = ap (λ (x : Tok). x.kind) m.tok_is; lexeme = ap (λ (x : Tok). x.lexeme) m.tok_is; glued = sym m.glued_is }

  back_pairs : {ts us : Tokens} → Pairs IsMoved ts us → Pairs (λ t u. IsMoved u t) us ts
  back_pairs nil = nil
  back_pairs (cons m ms) = cons m (back_pairs ms)

  -- what is derived by moved tokens is moved
  record Unmoved (limit : ℕ) (written : WrittenTree) (fs : List (ConstructFeatures Tok)) (ts : Tokens) : Type 0 where
    tree : WrittenTree
    features : List (ConstructFeatures Tok)
    derives : File to_tokens (BelowLimit limit) tree features ts
    written_is : written ≡ over_items moves tree
    features_are : fs ≡ map (over_features move) features

  unmoved_file : (limit : ℕ) {written : WrittenTree} {fs : List (ConstructFeatures Tok)} {ts us : Tokens} → File to_tokens (BelowLimit limit) written fs us
      → Pairs IsMoved ts us
      → Unmoved limit written fs ts
  unmoved_file limit {written = written} {fs = fs} {ts = ts} h s =
      let same : Alike to_tokens unchanged to_tokens moves (λ t u. IsMoved u t) = record {
        leaves = λ t u m. sym m.tok_is;
        positions = λ t u m. sym m.tok_is;
        numbers = λ t u m. ap line_of (sym m.tok_is);
        stars = λ t u m. sym m.tok_is;
      } in
      let x =
      carry.file to_tokens (BelowLimit limit) unchanged (λ t u. IsMoved u t) back_same to_tokens (BelowLimit limit) moves same (λ d ts us s opened. opened) h ts (back_pairs s) in
      search (x, sym (items_itself written) ∙ sym x.alike, sym (features_itself fs) ∙ sym x.noted_alike)

  -- ---- what is seen

  module _ (expander : Expansions) where
    abbrev view : LeafView Tok Tok
    view = views_tokens expander

    cooked_moved : (l : Literal Tok) → view.cooked (over_literal move l) ≡ view.cooked l
    cooked_moved (literals.Plain t) = refl
    cooked_moved _ = refl

    content_moved : (l : Literal Tok) → view.literal_content (over_literal move l) ≡ view.literal_content l
    content_moved (literals.Plain t) = refl
    content_moved _ = refl

    sees : SameView move move view view
    sees = record { bytes = λ t. refl; place = λ t. refl; cooked = cooked_moved; value = λ l. ap literal_value (content_moved l) }

    -- ---- what attributes mean

    contents : SeesContent (graph move move) view view
    unfolding graph
    contents = record {
      cooked = (sees_graph sees).cooked;
      name_content = λ n n' h. ap tok_content h;
      command_content = λ lexeme t t' h. ap tok_content h;
      position_content = λ kind spelled b b' h. ap tok_content h;
      literal_content = λ l l' h. sym (content_moved l) ∙ ap view.literal_content (literal_graph move move h);
    }

    entries_moved : (ws : List (WrittenAttribute Tok Tok))
        → entries_of view (move_written ws) ≡ option_map (map (over_entry move move)) (entries_of view ws)
    entries_moved ws =
        let related = entries_alike (graph move move) view view (sees_graph sees) contents (written_graph move move ws) in
        sym (entries_same (graph move move) move move (relates_only move move) related)

    -- ---- items

    with_moved : (content : Content Tok Tok ℕ Tok) (o : Option (List (Entry Tok Tok)))
        → with_entries (move_content content) (option_map (map (over_entry move move)) o) ≡ option_map (moved_item offset line) (with_entries content o)
    with_moved content None = refl
    with_moved content (Some entries) = ap (λ c. Some (Construct (map (over_entry move move) entries) c)) (content_over move move (λ n. line + n) move content)

    item_moved : (i : WrittenItem Tok Tok ℕ Tok)
        → ordered_item view (move_item i) ≡ option_map (moved_item offset line) (ordered_item view i)
    item_moved (Construct ws content) =
        ap (with_entries (move_content content)) (entries_moved ws) ∙ with_moved content (entries_of view ws)
    item_moved _ = refl

    undocumented_moved : (written : WrittenTree)
        → undocumented view (over_items moves written) ≡ option_map move_tree (undocumented view written)
    undocumented_moved [] = refl
    undocumented_moved (i ∷ items) =
        (λ j. if_both (item_moved i j) (undocumented_moved items j)) ∙ both_mapped (moved_item offset line) (ordered_item view i) (undocumented view items)

    documented_moved : (o : Option Tree)
        → option_map (documented sets_doc Nothing) (option_map move_tree o) ≡ option_map move_tree (option_map (documented sets_doc Nothing) o)
    documented_moved None = refl
    documented_moved (Some items) =
        ap Some (documented_over move move (λ n. line + n) (λ star. star) (map (over_entry move move)) sets_doc sets_doc
        (any_kind_over move move (λ kind. same_attribute kind Doc)) Nothing items)

    ordered_moved : (written : WrittenTree) → ordered view (over_items moves written) ≡ option_map move_tree (ordered view written)
    ordered_moved written = ap (option_map (documented sets_doc Nothing)) (undocumented_moved written) ∙ documented_moved (undocumented view written)

    -- ---- features

    construct_moved : (ws : List (WrittenAttribute Tok Tok)) (content : Content Tok Tok ℕ Tok) (f : ConstructFeatures Tok)
        → construct_features view (move_written ws) (move_content content) (over_features move f)
        ≡ map (over_noted move) (construct_features view ws content f)
    construct_moved ws content f =
        let meant = of_some (entries_features content) (entries_of view ws) in
        both_over (over_noted move) (f.attributes ++ meant) f.content _ _
        (both_over (over_noted move) f.attributes meant _ _ refl
        (some_over (map (over_entry move move)) (over_noted move) (entries_features content) (entries_features (move_content content))
        (entries_of view ws) _ (entries_moved ws) (entries_features_over move move (λ n. line + n) move content)))
        refl

    features_moved : (written : WrittenTree) (fs : List (ConstructFeatures Tok))
        → all_features view (over_items moves written) (map (over_features move) fs) ≡ map (over_noted move) (all_features view written fs)
    features_moved [] fs = refl
    features_moved (Construct ws content ∷ items) [] = refl
    features_moved (Construct ws content ∷ items) (f ∷ fs) =
        both_over (over_noted move) (construct_features view ws content f) (all_features view items fs) _ _ (construct_moved ws content f) (features_moved items fs)
    features_moved (i ∷ items) fs = features_moved items fs

    -- ---- rules

    item_broken_moved : (current : VersionNumbers) (i : WrittenItem Tok Tok ℕ Tok)
        → item_broken current view (move_item i) ≡ map (over_broken move) (item_broken current view i)
    item_broken_moved current (Construct ws content) = construct_broken_over sees current (λ n. line + n) ws content (entries_moved ws)
    item_broken_moved current _ = refl

    broken_moved : (current : VersionNumbers) (written : WrittenTree)
        → broken current view (over_items moves written) ≡ map (over_broken move) (broken current view written)
    broken_moved current [] = refl
    broken_moved current (i ∷ items) =
        (λ j. item_broken_moved current i j ++ broken_moved current items j)
        ∙ sym (map-append (over_broken move) (item_broken current view i) (broken current view items))

  -- ---- literals

  literal_lexeme : (l : Literal Tok) → over_literal lexeme (over_literal move l) ≡ over_literal lexeme l
  literal_lexeme (literals.Plain t) = refl
  literal_lexeme _ = refl

  lexemes_moved : (ls : List (Literal Tok)) → map (over_literal lexeme) (map (over_literal move) ls) ≡ map (over_literal lexeme) ls
  lexemes_moved [] = refl
  lexemes_moved (l ∷ ls) = λ i. literal_lexeme l i ∷ lexemes_moved ls i

  literals_moved : (written : WrittenTree)
      → map (over_literal lexeme) (all_literals (over_items moves written)) ≡ map (over_literal lexeme) (all_literals written)
  literals_moved written =
      ap (map (over_literal lexeme))
      (items_over move move (λ n. line + n) move move_written written_literals written_literals (written_over move move) written)
      ∙ lexemes_moved (all_literals written)

  -- ---- files

  -- Moved tokens derive the moved tree.
  pub moved_derives : (conditions : Conditions) (ts : List Tok) (all : Tree) (features : List (Noted Tok))
      → FileDerives conditions (significant_tokens ts) all features
      → FileDerives conditions (significant_tokens (map move ts)) (move_tree all) (map (over_noted move) features)
  moved_derives conditions ts all features d = record {
    written = over_items moves d.written;
    by_construct = map (over_features move) d.by_construct;
    derives = moved_file conditions.limit d.derives (moved_pairs ts false);
    features_are = ap (map (over_noted move)) d.features_are ∙ sym (features_moved conditions.expander d.written d.by_construct);
    obeys = record {
      cooked = d.obeys.cooked;
      cooks = subst (λ ls. AreCookedTexts conditions.expander ls d.obeys.cooked) (sym (literals_moved d.written)) d.obeys.cooks;
      unbroken = broken_moved conditions.expander conditions.current d.written ∙ ap (map (over_broken move)) d.obeys.unbroken;
    };
    ordered_is = ordered_moved conditions.expander d.written ∙ ap (option_map move_tree) d.ordered_is;
  }

  -- the tree before it was moved
  pub record Back (conditions : Conditions) (ts : List Tok) (all : Tree) (features : List (Noted Tok)) : Type 0 where
    pub unmoved : Tree
    pub noted : List (Noted Tok)
    pub derives : FileDerives conditions (significant_tokens ts) unmoved noted
    pub tree_is : all ≡ move_tree unmoved
    pub features_are : features ≡ map (over_noted move) noted

  -- What moved tokens derive is a moved tree.
  pub derives_moved : (conditions : Conditions) (ts : List Tok) (all : Tree) (features : List (Noted Tok))
      → FileDerives conditions (significant_tokens (map move ts)) all features
      → Back conditions ts all features
  derives_moved conditions ts all features d = by (ordered (view conditions.expander) u.tree) refl
      (sym (ordered_moved conditions.expander u.tree) ∙ sym (ap (ordered (view conditions.expander)) u.written_is) ∙ d.ordered_is)
    where
      u : Unmoved conditions.limit d.written d.by_construct (significant_tokens ts)
      u = unmoved_file conditions.limit d.derives (moved_pairs ts false)

      by : (o : Option Tree) → ordered (view conditions.expander) u.tree ≡ o → option_map move_tree o ≡ Some all
          → Back conditions ts all features
      by None e h = never_some all h
      by (Some unmoved) e h = record {
        unmoved = unmoved;
        noted = all_features (view conditions.expander) u.tree u.features;
        derives = record {
          written = u.tree;
          by_construct = u.features;
          derives = u.derives;
          features_are = refl;
          obeys = record {
            cooked = d.obeys.cooked;
            cooks =
                subst (λ ls. AreCookedTexts conditions.expander ls d.obeys.cooked)
                (ap (λ w. map (over_literal lexeme) (all_literals w)) u.written_is ∙ literals_moved u.tree) d.obeys.cooks;
            unbroken =
                none_of_none (over_broken move) (broken conditions.current (view conditions.expander) u.tree)
                (sym (broken_moved conditions.expander conditions.current u.tree) ∙ sym (ap (broken conditions.current (view conditions.expander)) u.written_is)
                ∙ d.obeys.unbroken);
          };
          ordered_is = e;
        };
        tree_is = sym (some_back (move_tree unmoved) all h);
        features_are =
            d.features_are ∙ (λ i. all_features (view conditions.expander) (u.written_is i) (u.features_are i))
            ∙ features_moved conditions.expander u.tree u.features;
      }
