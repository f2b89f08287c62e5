-- The unstable features that a file uses.
use Rattle.std.specs.Prelude.{Bool, List, map, cond}
use Rattle.std.specs.BTreeSet.{insert_key}
use Rattle.justfile_vocabulary.specs.contracts.unstable_feature.UnstableFeatureOrd.TheImpl as feature_order
use Rattle.justfile_vocabulary.specs.declared.unstable_feature.UnstableFeature.{UnstableFeature}
use Rattle.justfile_item.specs.Item.{item_of}
use Rattle.justfile_item.specs.declared.item.Item.{Item}
use Rattle.justfile_model.specs.Meanings.UnstableFeatures.{unstable_features, uses}

-- whether the item uses the feature
abbrev pub uses_feature : UnstableFeature → Item → Bool
uses_feature feature item = uses feature (item_of item)

abbrev pub unstable_of : List Item → List UnstableFeature
unstable_of items = unstable_features (map item_of items)

-- the features, and this one if it is used
abbrev pub with_used : Bool → UnstableFeature → List UnstableFeature → List UnstableFeature
with_used used feature features = cond used (insert_key feature_order.cmp-value.it features feature) features
