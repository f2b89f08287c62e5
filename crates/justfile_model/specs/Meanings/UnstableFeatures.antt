-- The features of a file that require the setting `unstable`.
use Rattle.std.specs.Prelude.{Bool, true, false, List, [], ◌∷◌, ◌++◌, if◌then◌else◌}
use Rattle.std.specs.List.{list_any}
use Rattle.justfile_vocabulary.specs.declared.attribute_kind.AttributeKind.TheVariants.{Cache}
use Rattle.justfile_vocabulary.specs.declared.keyword.Keyword.{Keyword}
use Rattle.justfile_vocabulary.specs.declared.keyword.Keyword.TheVariants.{Lists}
use Rattle.justfile_vocabulary.specs.declared.unstable_feature.UnstableFeature.{UnstableFeature}
use Rattle.justfile_vocabulary.specs.declared.unstable_feature.UnstableFeature.TheVariants.{CachedRecipes, ListsSetting, UserDefinedFunctions}
use Rattle.justfile_model.specs.Trees.ContentKeys.{has_attribute}
use Rattle.justfile_model.specs.Trees.Tree.{Comment, Construct, Content, Entry, Function, Newline, OrderedItem, Setting}

abbrev pub is_lists : Keyword → Bool
is_lists Lists = true
is_lists keyword = false

-- the definition of a function
abbrev pub is_function : {A B C S : Type 0} → Content A B C S → Bool
is_function (Function parts) = true
is_function content = false

-- the setting `lists`, with either value
abbrev pub is_lists_setting : {A B C S : Type 0} → Content A B C S → Bool
is_lists_setting (Setting parts) = is_lists parts.keyword
is_lists_setting content = false

-- a construct uses the feature; only recipes can have the attribute `cache`
abbrev pub construct_uses : {A B C S : Type 0} → UnstableFeature → List (Entry A B) → Content A B C S → Bool
construct_uses CachedRecipes entries content = has_attribute Cache entries
construct_uses ListsSetting entries content = is_lists_setting content
construct_uses UserDefinedFunctions entries content = is_function content

-- the item uses the feature
abbrev pub uses : {A B C : Type 0} → UnstableFeature → OrderedItem A B C → Bool
uses feature Newline = false
uses feature (Comment text) = false
uses feature (Construct entries content) = construct_uses feature entries content

abbrev pub feature_if_used : {A B C : Type 0} → List (OrderedItem A B C) → UnstableFeature → List UnstableFeature
feature_if_used items feature = if list_any (uses feature) items then feature ∷ [] else []

-- the unstable features of a file, in declaration order
abbrev pub unstable_features : {A B C : Type 0} → List (OrderedItem A B C) → List UnstableFeature
unstable_features items = feature_if_used items CachedRecipes ++ feature_if_used items ListsSetting ++ feature_if_used items UserDefinedFunctions
