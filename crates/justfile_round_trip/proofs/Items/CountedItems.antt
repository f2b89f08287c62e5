-- Each feature is noted as often for the printed text of a shape as for the written one.
use Rattle.std.proofs.Common.{◌≡◌, ℕ, ◌+◌, false, List, [], ◌∷◌, ◌++◌, Option, Some, refl, sym, ap, ◌∙◌, arith}
use Rattle.std.specs.Prelude.{if◌then◌else◌}
use denote.Enum.Bare.{sameb}
use Rattle.justfile_model.specs.Meanings.AttributeRules.{attributes_broken, of_some}
use Rattle.justfile_model.specs.Grammars.Conditions.{VersionNumbers}
use Rattle.justfile_model.specs.Meanings.ConstructRules.{construct_broken, form_broken}
use Rattle.justfile_model.specs.Grammars.Docs.{Before, documented, redocumented}
use Rattle.justfile_vocabulary.specs.contracts.list_feature.ListFeature.{the_type}
use Rattle.justfile_vocabulary.specs.declared.list_feature.ListFeature.{ListFeature}
use Rattle.justfile_model.specs.Grammars.Features.{ConstructFeatures, Noted}
use Rattle.justfile_model.specs.Grammars.Files.{all_features, broken, construct_features, item_broken, ordered_item, sets_doc, undocumented}
use Rattle.justfile_model.specs.Grammars.Files as files
use Rattle.justfile_model.specs.LiteralTexts.Literals.{Expansions}
use Rattle.justfile_model.specs.Meanings.Meaning.{entries_of}
use Rattle.justfile_model.specs.Printed.NormalShape.{after_newline, normal, normal_rest}
use Rattle.justfile_model.specs.Printed.PrintedAttributes.{docs_written, rewritten_entries}
use Rattle.justfile_model.specs.Trees.Tree as tree
use Rattle.justfile_model.specs.Trees.Tree.{Construct, Shape, WrittenShape}
use Rattle.justfile_model.proofs.Lists.Binds.{some_back, nothing_in}
use Rattle.justfile_model.proofs.Printed.DocsKept.{CountsConstructs, docs_written_counts, documented_counts}
use Rattle.justfile_model.proofs.Meanings.Ordered.{construct_meant, meanings_of}
use Rattle.justfile_model.proofs.Printed.PrintedEntries.{sees, entries_again, attributes_again}
use Rattle.justfile_model.proofs.Printed.PrintedItems.{content_starless}
use Rattle.justfile_round_trip.specs.RoundTrip.{times}
use Rattle.justfile_round_trip.proofs.Canon as canon
use Rattle.justfile_round_trip.proofs.Canon.{ShapeContent, ShapeItem, Shown}
use Rattle.justfile_round_trip.proofs.Attributes.CanonAttributes.{Argument, Written, ShapeEntry}
use Rattle.justfile_round_trip.proofs.Attributes.CountedAttributes.{arguments_weight, written_weight, same_weight}
use Rattle.justfile_round_trip.proofs.Determined.{value_features}
use Rattle.justfile_round_trip.proofs.Attributes.DeterminedAttributes.{arguments_features, written_features, entries_features}
use Rattle.justfile_round_trip.proofs.Items.DeterminedItems.{content_features, items_features}
use Rattle.justfile_round_trip.proofs.Means.{ShapeWritten}

-- what attributes note at the name of a recipe
abbrev noted_at_name : ShapeContent → List ShapeEntry → Shown
noted_at_name = files.entries_features

module _ (feature : ListFeature) where
  -- in two rows of features
  times_joined : {B : Type 0} (ns ms : List (Noted B)) → times feature (ns ++ ms) ≡ times feature ns + times feature ms
  times_joined [] ms = omega arith
  times_joined (n ∷ ns) ms = by (if sameb the_type n.0 feature then 1 else 0) (times feature (ns ++ ms)) (times feature ns) (times feature ms) (times_joined ns ms)
    where
      by : (first all some others : ℕ) → all ≡ some + others → first + all ≡ (first + some) + others
      by first all some others h = omega (arith, h)

  -- of a value
  abbrev weight : canon.Value → ℕ
  weight e = times feature (value_features false e)

  weightless : (expanded : _) (l : List ℕ) → weight (tree.StringLiteral expanded l) ≡ 0
  weightless expanded l = refl

  arguments_times : (arguments : List Argument) → times feature (arguments_features arguments) ≡ arguments_weight weight weightless arguments
  arguments_times [] = refl
  arguments_times (tree.Positional first value ∷ arguments) =
      times_joined (value_features false value) (arguments_features arguments) ∙ ap (λ n. weight value + n) (arguments_times arguments)
  arguments_times (tree.Bare key ∷ arguments) = times_joined {B = Unit {0}} [] (arguments_features arguments) ∙ ap (λ n. 0 + n) (arguments_times arguments)
  arguments_times (tree.Keyed key value ∷ arguments) =
      times_joined (value_features false value) (arguments_features arguments) ∙ ap (λ n. weight value + n) (arguments_times arguments)

  written_times : (ws : List Written) → times feature (written_features ws) ≡ written_weight weight weightless ws
  written_times [] = refl
  written_times (w ∷ ws) =
      times_joined (arguments_features w.arguments) (written_features ws) ∙ (λ i. arguments_times w.arguments i + written_times ws i)

  module _ (expander : Expansions) where
    attributes_times : (ws : List Written) (entries : List ShapeEntry) → entries_of (sees expander) ws ≡ Some entries
        → attributes_broken (sees expander) ws ≡ [] → times feature (written_features ws) ≡ times feature (entries_features entries)
    attributes_times ws entries means unbroken =
        written_times ws
        ∙ same_weight weight weightless expander ws (rewritten_entries entries) entries means (entries_again expander ws entries means unbroken) unbroken
        (attributes_again expander ws entries means unbroken)
        ∙ sym (written_times (rewritten_entries entries))

    -- how often the feature is noted in a construct, by the meaning of its attributes
    abbrev content_weight : List ShapeEntry → ShapeContent → ℕ
    content_weight entries content = times feature (entries_features entries) + times feature (noted_at_name content entries) + times feature (content_features content)

    -- in the constructs of a shape, each as it is printed
    abbrev pub shape_weight : Shape → ℕ
    shape_weight [] = 0
    shape_weight (Construct entries content ∷ s) = content_weight entries content + shape_weight s
    shape_weight (_ ∷ s) = shape_weight s

    -- where this is the running version
    module _ (current : VersionNumbers) where
      construct_times : (ws : List Written) (content : ShapeContent) (entries : List ShapeEntry) → entries_of (sees expander) ws ≡ Some entries
          → construct_broken current (sees expander) ws content ≡ []
          → times feature (construct_features (sees expander) ws content (record { attributes = written_features ws; content = content_features content })) ≡ content_weight entries content
      construct_times ws content entries means unbroken =
          let n = nothing_in (attributes_broken (sees expander) ws) _ (nothing_in _ (form_broken current (sees expander) content) unbroken).0 in
          let noted = noted_at_name content entries in
          ap (λ o. times feature (written_features ws ++ of_some (noted_at_name content) o ++ content_features content)) means
          ∙ times_joined (written_features ws ++ noted) (content_features content)
          ∙ ap (λ x. x + times feature (content_features content)) (times_joined (written_features ws) noted)
          ∙ ap (λ x. x + times feature noted + times feature (content_features content)) (attributes_times ws entries means n.0)

      item_times : (i : ShapeWritten) (items : WrittenShape) (x : ShapeItem) (others : Shape) → ordered_item (sees expander) i ≡ Some x
          → item_broken current (sees expander) i ≡ []
          → times feature (all_features (sees expander) items (items_features items)) ≡ shape_weight others
          → times feature (all_features (sees expander) (i ∷ items) (items_features (i ∷ items))) ≡ shape_weight (x ∷ others)
      item_times tree.Newline items x others h unbroken more = more ∙ ap (λ (y : ShapeItem). shape_weight (y ∷ others)) (some_back tree.Newline x h)
      item_times (tree.Comment t) items x others h unbroken more = more ∙ ap (λ (y : ShapeItem). shape_weight (y ∷ others)) (some_back (tree.Comment t) x h)
      item_times (Construct ws content) items x others h unbroken more =
          let m = construct_meant (sees expander) ws content x h in
          let f : ConstructFeatures (Unit {0}) = record { attributes = written_features ws; content = content_features content } in
          times_joined (construct_features (sees expander) ws content f) (all_features (sees expander) items (items_features items))
          ∙ (λ i. construct_times ws content m.entries m.means unbroken i + more i)
          ∙ ap (λ (y : ShapeItem). shape_weight (y ∷ others)) (sym (m.item_is ∙ ap (Construct m.entries) (content_starless content)))

      -- a written shape that breaks no rule has each feature as often as its meaning
      pub undocumented_times : (items : WrittenShape) (all : Shape) → undocumented (sees expander) items ≡ Some all → broken current (sees expander) items ≡ []
          → times feature (all_features (sees expander) items (items_features items)) ≡ shape_weight all
      undocumented_times [] all h unbroken = ap shape_weight (some_back [] all h)
      undocumented_times (i ∷ items) all h unbroken =
          let m = meanings_of (sees expander) i items all h in
          let n = nothing_in (item_broken current (sees expander) i) (broken current (sees expander) items) unbroken in
          item_times i items m.first m.others m.first_is n.0 (undocumented_times items m.others m.others_are n.1) ∙ ap shape_weight (sym m.all_are)

    -- ---- docs and line ends have no part in it

    redocumented_weight : (entries : List ShapeEntry) (content : ShapeContent) (doc : Option (List ℕ)) → content_weight entries (redocumented doc content) ≡ content_weight entries content
    redocumented_weight entries (tree.Assignment parts) doc = refl
    redocumented_weight entries _ doc = refl

    weight_counts : CountsConstructs shape_weight
    weight_counts = record {
      more = λ entries content n. content_weight entries content + n;
      newline = λ s. refl;
      comment = λ t s. refl;
      construct = λ entries content s. refl;
      doc_apart = λ entries content doc n. ap (λ m. m + n) (redocumented_weight entries content doc);
    }

    pub documented_weight : (before : Before) (s : Shape) → shape_weight (documented sets_doc before s) ≡ shape_weight s
    documented_weight = documented_counts shape_weight weight_counts sets_doc

    pub written_docs_weight : (s : Shape) → shape_weight (docs_written s) ≡ shape_weight s
    written_docs_weight = docs_written_counts shape_weight weight_counts

    newline_weight : (s : Shape) → shape_weight (after_newline s) ≡ shape_weight s
    newline_weight (tree.Newline ∷ tree.Newline ∷ s) = refl
    newline_weight _ = refl

    rest_weight : (s : Shape) → shape_weight (normal_rest s) ≡ shape_weight s
    rest_weight [] = refl
    rest_weight (tree.Newline ∷ s) = newline_weight (normal_rest s) ∙ rest_weight s
    rest_weight (tree.Comment t ∷ s) = rest_weight s
    rest_weight (Construct entries content ∷ s) = ap (λ n. content_weight entries content + n) (rest_weight s)

    pub normal_weight : (s : Shape) → shape_weight (normal s) ≡ shape_weight s
    normal_weight [] = refl
    normal_weight (i ∷ s) = rest_weight (i ∷ s)
