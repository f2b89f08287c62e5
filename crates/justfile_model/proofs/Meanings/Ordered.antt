-- The meaning of written items has the same numbers, and its literals are among the written ones. The meaning of a written shape is the
-- shape of the meaning of the written tree.
use Rattle.std.proofs.Common.{◌≡◌, ℕ, ◌+◌, List, [], ◌∷◌, ◌++◌, map, Option, Some, None, refl, sym, ap, ◌∙◌}
use Rattle.std.proofs.lemmas.List.{map-append}
use Rattle.std.specs.Option.{option_map}
use Rattle.justfile_model.specs.Meanings.AttributeRules.{of_some}
use Rattle.justfile_model.specs.Grammars.Docs.{Nothing, documented}
use Rattle.justfile_model.specs.Grammars.Features.{ConstructFeatures, over_features, over_noted}
use Rattle.justfile_model.specs.Grammars.Files.{content_bindings, bindings, content_recipes, recipes, ordered_item, if_both, with_entries, undocumented, ordered, sets_doc, entries_features, construct_features, all_features, item_broken, broken}
use Rattle.justfile_model.specs.LiteralTexts.Literals.{Expansions}
use Rattle.justfile_model.specs.Meanings.Meaning.{entries_of}
use Rattle.justfile_model.specs.Meanings.Rules.{over_broken}
use Rattle.justfile_model.specs.Trees.LeafView.{LeafView, views_lexemes, views_tokens}
use Rattle.justfile_model.specs.Lexing.Tok.{Tok}
use Rattle.justfile_model.specs.Grammars.Conditions.{VersionNumbers}
use Rattle.justfile_model.specs.Trees.Tree.{Assignment, Comment, Construct, Content, Dependency, DependencyArgument, Entry, Header, Newline, OrderedItem, Recipe, Shape, Tree, WrittenAttribute, WrittenItem, WrittenTree, item_shape_of, lexeme, nothing, over_content, over_dependency, over_dependency_argument, over_entry, over_header, over_item, over_line, over_written_attribute, shape_of, starless, starless_argument, starless_dependency, starless_header, written_shape_of}
use Rattle.justfile_model.proofs.Lists.Binds.{never_some, some_back}
use Rattle.justfile_model.proofs.Printed.DocsKept.{CountsConstructs, bindings_count, documented_counts, documented_shape, recipes_count}
use Rattle.justfile_model.proofs.Derivations.Kinded.{KindedWritten}
use Rattle.justfile_model.proofs.Derivations.KindedFiles.{KindedItem, KindedItems}
use Rattle.justfile_model.proofs.Lists.Mapped.{map_both, option_both}
use Rattle.justfile_model.proofs.Lists.AllParts.{parts}
use Rattle.justfile_model.proofs.Meanings.SeenShapes.{construct_broken_seen, entries_seen}
use Rattle.justfile_model.proofs.Meanings.SameViewRecipes.{entries_features_over}
use Rattle.justfile_model.proofs.Meanings.SameViewRules.{both_over, some_over}
use Rattle.justfile_model.proofs.Meanings.ShapesMean.{none_of_none}

-- ---- the meaning of the first item, and of the others

module _ {A B C S : Type 0} (view : LeafView A B) where
  -- what is written means these items, whose docs are comments still
  pub record Undocumented (written : List (WrittenItem A B C S)) (all : List (OrderedItem A B C)) : Type 0 where
    pub items : List (OrderedItem A B C)
    pub items_are : undocumented view written ≡ Some items
    pub all_are : all ≡ documented sets_doc Nothing items

  pub undocumented_of : (written : List (WrittenItem A B C S)) (all : List (OrderedItem A B C)) → ordered view written ≡ Some all → Undocumented written all
  undocumented_of written all h = go (undocumented view written) refl h
    where
      go : (o : Option (List (OrderedItem A B C))) → undocumented view written ≡ o → option_map (documented sets_doc Nothing) o ≡ Some all
          → Undocumented written all
      go None e k = never_some all k
      go (Some items) e k = record { items = items; items_are = e; all_are = sym (some_back (documented sets_doc Nothing items) all k) }

  -- an item and those after it, which have a meaning
  pub record Meanings (i : WrittenItem A B C S) (items : List (WrittenItem A B C S)) (all : List (OrderedItem A B C)) : Type 0 where
    pub first : OrderedItem A B C
    pub first_is : ordered_item view i ≡ Some first
    pub others : List (OrderedItem A B C)
    pub others_are : undocumented view items ≡ Some others
    pub all_are : all ≡ first ∷ others

  pub meanings_of : (i : WrittenItem A B C S) (items : List (WrittenItem A B C S)) (all : List (OrderedItem A B C)) → undocumented view (i ∷ items) ≡ Some all
      → Meanings i items all
  meanings_of i items all h = go (ordered_item view i) (undocumented view items) refl refl h
    where
      go : (o : Option (OrderedItem A B C)) (os : Option (List (OrderedItem A B C))) → ordered_item view i ≡ o → undocumented view items ≡ os
          → if_both o os ≡ Some all → Meanings i items all
      go None os e es k = never_some all k
      go (Some x) None e es k = never_some all k
      go (Some x) (Some xs) e es k = record { first = x; first_is = e; others = xs; others_are = es; all_are = sym (some_back (x ∷ xs) all k) }

  -- a construct by what its attributes mean
  pub record Meant (ws : List (WrittenAttribute A B)) (content : Content A B C S) (i : OrderedItem A B C) : Type 0 where
    pub entries : List (Entry A B)
    pub means : entries_of view ws ≡ Some entries
    pub item_is : i ≡ Construct entries (starless content)

  pub construct_meant : (ws : List (WrittenAttribute A B)) (content : Content A B C S) (i : OrderedItem A B C)
      → ordered_item view (Construct ws content) ≡ Some i → Meant ws content i
  construct_meant ws content i h = go (entries_of view ws) refl h
    where
      go : (o : Option (List (Entry A B))) → entries_of view ws ≡ o → with_entries content o ≡ Some i → Meant ws content i
      go None e k = never_some i k
      go (Some entries) e k = record { entries = entries; means = e; item_is = sym (some_back (Construct entries (starless content)) i k) }

-- ---- literals and numbers

starless_bindings : {A B C S : Type 0} (c : Content A B C S) → content_bindings (starless c) ≡ content_bindings c
starless_bindings (Assignment parts) = refl
starless_bindings _ = refl

starless_recipes : {A B C S : Type 0} (c : Content A B C S) → content_recipes (starless c) ≡ content_recipes c
starless_recipes (Assignment parts) = refl
starless_recipes _ = refl

-- what counts the constructs of a meaning counts those that are written, if it does so at each construct
module _ {A B C S Z : Type 0} (view : LeafView A B) (meant : List (OrderedItem A B C) → Z) (d : CountsConstructs meant) (written : List (WrittenItem A B C S) → Z)
    (none : meant [] ≡ written []) (newline : (is : List (WrittenItem A B C S)) (js : List (OrderedItem A B C)) → meant js ≡ written is → meant (Newline ∷ js) ≡ written (Newline ∷ is))
    (comment : (text : List ℕ) (is : List (WrittenItem A B C S)) (js : List (OrderedItem A B C)) → meant js ≡ written is
    → meant (Comment text ∷ js) ≡ written (Comment text ∷ is))
    (construct : (ws : List (WrittenAttribute A B)) (entries : List (Entry A B)) (content : Content A B C S) (is : List (WrittenItem A B C S)) (js : List (OrderedItem A B C))
    → entries_of view ws ≡ Some entries → meant js ≡ written is → meant (Construct entries (starless content) ∷ js) ≡ written (Construct ws content ∷ is)) where
  first_counts : (i : WrittenItem A B C S) (j : OrderedItem A B C) (is : List (WrittenItem A B C S)) (js : List (OrderedItem A B C)) → ordered_item view i ≡ Some j
      → meant js ≡ written is → meant (j ∷ js) ≡ written (i ∷ is)
  first_counts Newline j is js h e = ap (λ j. meant (j ∷ js)) (sym (some_back Newline j h)) ∙ newline is js e
  first_counts (Comment text) j is js h e = ap (λ j. meant (j ∷ js)) (sym (some_back (Comment text) j h)) ∙ comment text is js e
  first_counts (Construct ws content) j is js h e =
      let m = construct_meant view ws content j h in
      ap (λ j. meant (j ∷ js)) m.item_is ∙ construct ws m.entries content is js m.means e

  undocumented_counts : (is : List (WrittenItem A B C S)) (all : List (OrderedItem A B C)) → undocumented view is ≡ Some all → meant all ≡ written is
  undocumented_counts [] all h = ap meant (sym (some_back [] all h)) ∙ none
  undocumented_counts (i ∷ is) all h =
      let m = meanings_of view i is all h in
      ap meant m.all_are ∙ first_counts i m.first is m.others m.first_is (undocumented_counts is m.others m.others_are)

  pub ordered_counts : (is : List (WrittenItem A B C S)) (all : List (OrderedItem A B C)) → ordered view is ≡ Some all → meant all ≡ written is
  ordered_counts is all h =
      let u = undocumented_of view is all h in
      ap meant u.all_are ∙ documented_counts meant d sets_doc Nothing u.items ∙ undocumented_counts is u.items u.items_are

module _ {A B C S : Type 0} (view : LeafView A B) where
  pub ordered_bindings : (items : List (WrittenItem A B C S)) (all : List (OrderedItem A B C)) → ordered view items ≡ Some all → bindings all ≡ bindings items
  ordered_bindings =
      ordered_counts view bindings bindings_count bindings refl (λ is js e i. 0 + e i) (λ text is js e i. 0 + e i)
      (λ ws entries content is js m e i. starless_bindings content i + e i)

  pub ordered_recipes : (items : List (WrittenItem A B C S)) (all : List (OrderedItem A B C)) → ordered view items ≡ Some all → recipes all ≡ recipes items
  ordered_recipes =
      ordered_counts view recipes recipes_count recipes refl (λ is js e i. 0 + e i) (λ text is js e i. 0 + e i)
      (λ ws entries content is js m e i. starless_recipes content i + e i)

-- ---- over other leaves

abbrev same_star : Unit {0} → Unit {0}
same_star star = star

module _ {A B S A' B' S' : Type 0} (f : A → A') (g : B → B') (k : S → S') where
  argument_over : (a : DependencyArgument A B S) → starless_argument (over_dependency_argument f g k a) ≡ over_dependency_argument f g same_star (starless_argument a)
  argument_over a = λ i. record { star = option_both (λ star. tt) k same_star (λ star. tt) (λ star. refl) a.star i; value = (over_dependency_argument f g k a).value }

  dependency_over : (d : Dependency A B S) → starless_dependency (over_dependency f g k d) ≡ over_dependency f g same_star (starless_dependency d)
  dependency_over d = λ i. record {
    star = option_both (λ star. tt) k same_star (λ star. tt) (λ star. refl) d.star i;
    path = map f d.path;
    arguments = map_both starless_argument (over_dependency_argument f g k) (over_dependency_argument f g same_star) starless_argument argument_over d.arguments i;
  }

  dependencies_over : (ds : List (Dependency A B S)) → map starless_dependency (map (over_dependency f g k) ds) ≡ map (over_dependency f g same_star) (map starless_dependency ds)
  dependencies_over = map_both starless_dependency (over_dependency f g k) (over_dependency f g same_star) starless_dependency dependency_over

  header_over : (h : Header A B S) → starless_header (over_header f g k h) ≡ over_header f g same_star (starless_header h)
  header_over h = λ i. record {
    quiet = h.quiet;
    name = f h.name;
    parameters = (over_header f g k h).parameters;
    priors = dependencies_over h.priors i;
    subsequents = dependencies_over h.subsequents i;
  }

module _ {A B C S A' B' C' S' : Type 0} (f : A → A') (g : B → B') (h : C → C') (k : S → S') where
  pub content_over : (c : Content A B C S) → starless (over_content f g h k c) ≡ over_content f g h same_star (starless c)
  content_over (Recipe parts) = λ i. Recipe (record { doc = parts.doc; header = header_over f g k parts.header i; comment = parts.comment; body = map (over_line f g h) parts.body })
  content_over _ = refl

-- ---- a tree and its shape

pub both_mapped : {X Y : Type 0} (f : X → Y) (o : Option X) (others : Option (List X))
    → if_both (option_map f o) (option_map (map f) others) ≡ option_map (map f) (if_both o others)
both_mapped f None others = refl
both_mapped f (Some x) None = refl
both_mapped f (Some x) (Some xs) = refl

module _ (expander : Expansions) where
  -- what is seen of a tree, and of its shape
  abbrev tokens : LeafView Tok Tok
  tokens = views_tokens expander

  abbrev lexemes : LeafView (List ℕ) (Unit {0})
  lexemes = views_lexemes expander

  with_entries_seen : (content : Content Tok Tok ℕ Tok) (o : Option (List (Entry Tok Tok)))
      → with_entries (over_content lexeme nothing nothing nothing content) (option_map (map (over_entry lexeme nothing)) o)
      ≡ option_map item_shape_of (with_entries content o)
  with_entries_seen content None = refl
  with_entries_seen content (Some entries) =
      ap (λ c. Some (Construct (map (over_entry lexeme nothing) entries) c)) (content_over lexeme nothing nothing nothing content)

  item_seen : (i : WrittenItem Tok Tok ℕ Tok) → KindedItem i
      → ordered_item lexemes (over_item lexeme nothing nothing nothing (map (over_written_attribute lexeme nothing)) i)
      ≡ option_map item_shape_of (ordered_item tokens i)
  item_seen Newline k = refl
  item_seen (Comment text) k = refl
  item_seen (Construct ws content) k =
      ap (with_entries (over_content lexeme nothing nothing nothing content)) (entries_seen expander ws k)
      ∙ with_entries_seen content (entries_of tokens ws)

  undocumented_seen : (written : WrittenTree) → KindedItems written
      → undocumented lexemes (written_shape_of written) ≡ option_map shape_of (undocumented tokens written)
  undocumented_seen [] k = refl
  undocumented_seen (i ∷ items) k =
      (λ j. if_both (item_seen i k.0 j) (undocumented_seen items k.1 j)) ∙ both_mapped item_shape_of (ordered_item tokens i) (undocumented tokens items)

  documented_seen : (o : Option Tree) → option_map (documented sets_doc Nothing) (option_map shape_of o) ≡ option_map shape_of (option_map (documented sets_doc Nothing) o)
  documented_seen None = refl
  documented_seen (Some items) = ap Some (documented_shape Nothing items)

  ordered_seen : (written : WrittenTree) → KindedItems written
      → ordered lexemes (written_shape_of written) ≡ option_map shape_of (ordered tokens written)
  ordered_seen written k = ap (option_map (documented sets_doc Nothing)) (undocumented_seen written k) ∙ documented_seen (undocumented tokens written)

  -- the meaning of a written shape is the shape of the meaning of the written tree

  pub shape_ordered : (written : WrittenTree) (tree : Tree) → KindedItems written → ordered tokens written ≡ Some tree
      → ordered lexemes (written_shape_of written) ≡ Some (shape_of tree)
  shape_ordered written tree k h = ordered_seen written k ∙ ap (option_map shape_of) h

  pub tree_ordered : (written : WrittenTree) (shape : Shape) → KindedItems written → ordered lexemes (written_shape_of written) ≡ Some shape
      → (tree : Tree) × (ordered tokens written ≡ Some tree) × (shape_of tree ≡ shape)
  tree_ordered written shape k h = go (ordered tokens written) refl (sym (ordered_seen written k) ∙ h)
    where
      go : (o : Option Tree) → ordered tokens written ≡ o → option_map shape_of o ≡ Some shape
          → (tree : Tree) × (ordered tokens written ≡ Some tree) × (shape_of tree ≡ shape)
      go None e m = never_some shape m
      go (Some tree) e m = (tree, e, some_back (shape_of tree) shape m)

  -- both note the same features

  construct_features_seen : (ws : List (WrittenAttribute Tok Tok)) (content : Content Tok Tok ℕ Tok) (f : ConstructFeatures Tok) → KindedWritten ws
      → construct_features lexemes (map (over_written_attribute lexeme nothing) ws) (over_content lexeme nothing nothing nothing content) (over_features nothing f)
      ≡ map (over_noted nothing) (construct_features tokens ws content f)
  construct_features_seen ws content f k =
      let meant = of_some (entries_features content) (entries_of tokens ws) in
      both_over (over_noted nothing) (f.attributes ++ meant) f.content _ _
      (both_over (over_noted nothing) f.attributes meant _ _ refl
      (some_over (map (over_entry lexeme nothing)) (over_noted nothing) (entries_features content)
      (entries_features (over_content lexeme nothing nothing nothing content)) (entries_of tokens ws) _ (entries_seen expander ws k)
      (entries_features_over lexeme nothing nothing nothing content)))
      refl

  pub all_features_seen : (written : WrittenTree) (fs : List (ConstructFeatures Tok)) → KindedItems written
      → all_features lexemes (written_shape_of written) (map (over_features nothing) fs) ≡ map (over_noted nothing) (all_features tokens written fs)
  all_features_seen [] fs k = refl
  all_features_seen (Construct ws content ∷ items) [] k = refl
  all_features_seen (Construct ws content ∷ items) (f ∷ fs) k =
      both_over (over_noted nothing) (construct_features tokens ws content f) (all_features tokens items fs) _ _
      (construct_features_seen ws content f k.0) (all_features_seen items fs k.1)
  all_features_seen (i ∷ items) fs k = all_features_seen items fs k.1

  -- both break the same rules

  -- where this is the running version
  module _ (current : VersionNumbers) where
    item_broken_seen : (i : WrittenItem Tok Tok ℕ Tok) → KindedItem i
        → item_broken current lexemes (over_item lexeme nothing nothing nothing (map (over_written_attribute lexeme nothing)) i)
        ≡ map (over_broken nothing) (item_broken current tokens i)
    item_broken_seen Newline k = refl
    item_broken_seen (Comment text) k = refl
    item_broken_seen (Construct ws content) k = construct_broken_seen expander current nothing ws content k

    broken_seen : (written : WrittenTree) → KindedItems written
        → broken current lexemes (written_shape_of written) ≡ map (over_broken nothing) (broken current tokens written)
    broken_seen [] k = refl
    broken_seen (i ∷ items) k =
        (λ j. item_broken_seen i k.0 j ++ broken_seen items k.1 j) ∙ sym (map-append (over_broken nothing) (item_broken current tokens i) (broken current tokens items))

    pub shape_unbroken : (written : WrittenTree) → KindedItems written → broken current tokens written ≡ [] → broken current lexemes (written_shape_of written) ≡ []
    shape_unbroken written k h = broken_seen written k ∙ ap (map (over_broken nothing)) h

    pub tree_unbroken : (written : WrittenTree) → KindedItems written → broken current lexemes (written_shape_of written) ≡ [] → broken current tokens written ≡ []
    tree_unbroken written k h = none_of_none (over_broken nothing) (broken current tokens written) (sym (broken_seen written k) ∙ h)
