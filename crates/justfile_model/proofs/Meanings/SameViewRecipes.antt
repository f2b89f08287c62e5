-- The rules that recipes break with other projections of their leaves, but the same view: the same rules, with the other projections; and
-- the features of their attributes.
use Rattle.std.proofs.Common.{◌≡◌, ◌∙◌, List, [], ◌∷◌, map, Option, Some, None, refl, sym, ap, subst}
use Rattle.std.specs.List.{cons_option, filter_map, flat_map}
use Rattle.std.proofs.lemmas.List.{map-append}
use Rattle.std.specs.Option.{option_map}
use Rattle.justfile_vocabulary.specs.declared.list_feature.ListFeature.{ListFeature}
use Rattle.justfile_model.specs.Meanings.AttributeRules.{arg_rules, rules_in}
use Rattle.justfile_model.specs.Grammars.Conditions.{VersionNumbers}
use Rattle.justfile_model.specs.Meanings.ConstructRules.{construct_broken}
use Rattle.justfile_model.specs.Grammars.Features.{bound_place, noted_at, over_noted, rules_features}
use Rattle.justfile_model.specs.Grammars.Files.{entries_features}
use Rattle.justfile_model.specs.Meanings.Meaning.{entries_of}
use Rattle.justfile_model.specs.Meanings.Rules.{over_broken}
use Rattle.justfile_model.specs.Trees.LeafView.{LeafView}
use Rattle.justfile_model.specs.Trees.Tree as tree
use Rattle.justfile_model.specs.Trees.Tree.{ArgumentRules, Attribute, Bound, Content, Entry, WrittenAttribute, over_attribute, over_bound, over_content, over_entry, over_rules, over_written_attribute}
use Rattle.justfile_model.proofs.Lists.Mapped.{flat_mapped}
use Rattle.justfile_model.proofs.Lists.EachLaws.{AlikeOption}
use Rattle.justfile_model.proofs.Relations.AlikeAttributes.{AlikeEntry}
use Rattle.justfile_model.proofs.Relations.AlikeConstructRules.{construct_broken_alike}
use Rattle.justfile_model.proofs.Relations.Graph.{SameView, broken_graph, content_graph, entries_graph, graph, sees_graph, written_graph}
use Rattle.justfile_model.proofs.Relations.Related.{Each}

-- ---- options and lists

module _ {X Y Z W : Type 0} (h : X → Y) (k : Z → W) (p : X → Option Z) (q : Y → Option W) (same : (x : X) → q (h x) ≡ option_map k (p x)) where
  filter_map_over : (xs : List X) → filter_map q (map h xs) ≡ map k (filter_map p xs)
  filter_map_over [] = refl
  filter_map_over (x ∷ xs) = (λ i. cons_option (same x i) (filter_map_over xs i)) ∙ within (p x)
    where
      within : (o : Option Z) → cons_option (option_map k o) (map k (filter_map p xs)) ≡ map k (cons_option o (filter_map p xs))
      within None = refl
      within (Some z) = refl

-- ---- `arg` attributes, and the features that they note

module _ {A B C D : Type 0} (f : A → C) (g : B → D) where
  rules_in_over : (a : Attribute A B) → rules_in (over_attribute f g a) ≡ option_map (over_rules f g) (rules_in a)
  rules_in_over (tree.Plain kind) = refl
  rules_in_over _ = refl

  arg_rules_over : (es : List (Entry A B)) → arg_rules (map (over_entry f g) es) ≡ map (over_rules f g) (arg_rules es)
  arg_rules_over es =
      filter_map_over (over_entry f g) (over_rules f g) (λ (e : Entry A B). rules_in e.attribute) (λ (e : Entry C D). rules_in e.attribute)
      (λ e. rules_in_over e.attribute) es

  bound_place_over : (b : Option (Bound B)) → bound_place (option_map (over_bound f g) b) ≡ option_map g (bound_place b)
  bound_place_over None = refl
  bound_place_over (Some b) = refl

  noted_at_over : (feature : ListFeature) (o : Option B) → noted_at feature (option_map g o) ≡ map (over_noted g) (noted_at feature o)
  noted_at_over feature None = refl
  noted_at_over feature (Some at) = refl

  rules_features_over : (a : ArgumentRules A B) → rules_features (over_rules f g a) ≡ map (over_noted g) (rules_features a)
  rules_features_over a = simp (map-append, bound_place_over, noted_at_over)

  pub entries_features_over : {Z S Z' S' : Type 0} (h : Z → Z') (k : S → S') (content : Content A B Z S) (es : List (Entry A B))
      → entries_features (over_content f g h k content) (map (over_entry f g) es) ≡ map (over_noted g) (entries_features content es)
  entries_features_over h k (tree.Recipe parts) es =
      ap (flat_map rules_features) (arg_rules_over es)
      ∙ flat_mapped rules_features rules_features (over_rules f g) (over_noted g) rules_features_over (arg_rules es)
  entries_features_over h k _ es = refl

-- ---- the rules that constructs break

module _ {A B C D : Type 0} {f : A → C} {g : B → D} {view : LeafView A B} {other : LeafView C D} (sees : SameView f g view other) where
  -- where the attributes mean the same in order
  pub construct_broken_over : {Z Z' : Type 0} (current : VersionNumbers) (h : Z → Z') (ws : List (WrittenAttribute A B)) (content : Content A B Z B)
      → entries_of other (map (over_written_attribute f g) ws) ≡ option_map (map (over_entry f g)) (entries_of view ws)
      → construct_broken current other (map (over_written_attribute f g) ws) (over_content f g h g content) ≡ map (over_broken g) (construct_broken current view ws content)
  construct_broken_over current h ws content same =
      sym (broken_graph f g (construct_broken_alike (graph f g) view other (sees_graph sees) current (written_graph f g ws) (content_graph sees h content)
      (subst (AlikeOption (Each (AlikeEntry (graph f g))) (entries_of view ws)) (sym same) (entries_graph f g (entries_of view ws)))))
