-- The features of a file by the meaning of its items. They don't depend on line ends, comments or docs.
use Rattle.std.proofs.Common.{◌≡◌, ◌∙◌, List, [], ◌∷◌, ◌++◌, ℕ, Option, Some, refl, sym, ap}
use Rattle.justfile_model.specs.Meanings.AttributeRules.{of_some}
use Rattle.justfile_model.specs.Grammars.Docs.{redocumented}
use Rattle.justfile_model.specs.Grammars.Features.{ConstructFeatures, Noted}
use Rattle.justfile_model.specs.Grammars.Files.{all_features, entries_features, ordered}
use Rattle.justfile_model.specs.Meanings.Meaning.{entries_of}
use Rattle.justfile_model.specs.Trees.LeafView.{LeafView}
use Rattle.justfile_model.specs.Trees.Tree.{Assignment, Comment, Construct, Content, Entry, Item, Newline, OrderedItem, WrittenAttribute, WrittenItem, starless}
use Rattle.justfile_model.proofs.Meanings.Ordered.{ordered_counts}
use Rattle.justfile_model.proofs.Printed.DocsKept.{CountsConstructs}

-- the features of a construct by what its attributes mean, and those of the others
abbrev with_features : {A B C S : Type 0} → List (Entry A B) → Content A B C S → (others : List (ConstructFeatures B) → List (Noted B))
    → List (ConstructFeatures B) → List (Noted B)
with_features entries content others [] = []
with_features entries content others (f ∷ fs) = (f.attributes ++ entries_features content entries ++ f.content) ++ others fs

-- the features of a file by what its items mean
abbrev meant_features : {A B C S : Type 0} → List (Item A B C S (List (Entry A B))) → List (ConstructFeatures B) → List (Noted B)
meant_features [] = λ fs. []
meant_features (Newline ∷ items) = meant_features items
meant_features (Comment text ∷ items) = meant_features items
meant_features (Construct entries content ∷ items) = with_features entries content (meant_features items)

-- ---- neither the stars of dependencies nor docs have a part in them

starless_features : {A B C S : Type 0} (content : Content A B C S) (entries : List (Entry A B)) → entries_features (starless content) entries ≡ entries_features content entries
starless_features (Assignment parts) entries = refl
starless_features _ entries = refl

redocumented_features : {A B C S : Type 0} (doc : Option (List ℕ)) (content : Content A B C S) (entries : List (Entry A B))
    → entries_features (redocumented doc content) entries ≡ entries_features content entries
redocumented_features doc (Assignment parts) entries = refl
redocumented_features doc _ entries = refl

same_with : {A B C S : Type 0} (entries : List (Entry A B)) (content : Content A B C S) (doc : Option (List ℕ)) (others : List (ConstructFeatures B) → List (Noted B))
    (fs : List (ConstructFeatures B)) → with_features entries (redocumented doc content) others fs ≡ with_features entries content others fs
same_with entries content doc others [] = refl
same_with entries content doc others (f ∷ fs) = λ i. (f.attributes ++ redocumented_features doc content entries i ++ f.content) ++ others fs

features_count : {A B C S : Type 0} → CountsConstructs {A = A} {B = B} {C = C} {S = S} {D = List (Entry A B)} meant_features
features_count = record {
  more = with_features;
  newline = λ items. refl;
  comment = λ text items. refl;
  construct = λ entries content items. refl;
  doc_apart = λ entries content doc others i fs. same_with entries content doc others fs i;
}

-- the features of a file are those of its meaning
module _ {A B C S : Type 0} (view : LeafView A B) where
  construct_features_meant : (ws : List (WrittenAttribute A B)) (entries : List (Entry A B)) (content : Content A B C S) (is : List (WrittenItem A B C S))
      (js : List (OrderedItem A B C)) → entries_of view ws ≡ Some entries → meant_features js ≡ all_features view is
      → (fs : List (ConstructFeatures B)) → meant_features (Construct entries (starless content) ∷ js) fs ≡ all_features view (Construct ws content ∷ is) fs
  construct_features_meant ws entries content is js m e [] = refl
  construct_features_meant ws entries content is js m e (f ∷ fs) =
      λ i. (f.attributes ++ (starless_features content entries ∙ ap (of_some (entries_features content)) (sym m)) i ++ f.content) ++ e i fs

  features_ordered : (items : List (WrittenItem A B C S)) (all : List (OrderedItem A B C)) → ordered view items ≡ Some all → meant_features all ≡ all_features view items
  features_ordered =
      ordered_counts view meant_features features_count (all_features view) refl (λ is js e. e) (λ text is js e. e)
      (λ ws entries content is js m e i fs. construct_features_meant ws entries content is js m e fs i)

-- what means the same has the same features, however it is seen
pub features_same : {A B C S : Type 0} (view other : LeafView A B) (items : List (WrittenItem A B C S)) (all : List (OrderedItem A B C))
    → ordered view items ≡ Some all → ordered other items ≡ Some all → (fs : List (ConstructFeatures B)) → all_features view items fs ≡ all_features other items fs
features_same view other items all h k fs = λ i. (sym (features_ordered view items all h) ∙ features_ordered other items all k) i fs
