-- The unstable features that a file's items use.
use Rattle.std.proofs.Common.{◌≡◌, ◌∙◌, ℕ, ◌+◌, ◌<◌, ◌≤◌, Bool, true, false, ◌||◌, cond, List, [], ◌∷◌, ◌++◌, length, drop, get_or, map, refl, sym, ap}
use Rattle.std.proofs.lemmas.List.{at_drop_more, drop_all}
use Rattle.std.specs.List.{list_any}
use Rattle.justfile_attribute_set.specs.Attributes.{has_kind, kind_of}
use Rattle.justfile_attribute_set.specs.Keys.{firsts}
use Rattle.justfile_attribute_set.specs.Pairs.{Pair, entry_of}
use Rattle.justfile_vocabulary.specs.declared.attribute_kind.AttributeKind.{AttributeKind}
use Rattle.justfile_vocabulary.specs.declared.unstable_feature.UnstableFeature.{UnstableFeature}
use Rattle.justfile_vocabulary.specs.declared.unstable_feature.UnstableFeature.TheVariants.{CachedRecipes, ListsSetting, UserDefinedFunctions}
use Rattle.justfile_item.specs.Item.{item_of}
use Rattle.justfile_item.specs.declared.item.Item.{Item}
use Rattle.justfile_model.specs.Meanings.AttributeKinds.{same_attribute}
use Rattle.justfile_model.specs.Trees.ContentKeys.{has_attribute}
use Rattle.justfile_model.specs.Meanings.UnstableFeatures.{uses}
use Rattle.justfile_parse_file.specs.Unstable.{unstable_of, uses_feature, with_used}

-- the kinds of attributes are those of their entries
pub has_written : (kind : AttributeKind) (pairs : List Pair) → has_kind kind (firsts pairs) ≡ has_attribute kind (map entry_of pairs)
unfolding kind_of
has_written kind [] = refl
has_written kind (p ∷ ps) = ap (λ (b : Bool). same_attribute (kind_of p.0) kind || b) (has_written kind ps)

any_of : (feature : UnstableFeature) (items : List Item) → list_any (uses feature) (map item_of items) ≡ list_any (uses_feature feature) items
any_of feature [] = refl
any_of feature (i ∷ items) = ap (λ (b : Bool). uses_feature feature i || b) (any_of feature items)

abbrev one_used : Bool → UnstableFeature → List UnstableFeature
one_used used feature = cond used (feature ∷ []) []

in_order : (a b c : Bool) → with_used c UserDefinedFunctions (with_used b ListsSetting (with_used a CachedRecipes []))
    ≡ one_used a CachedRecipes ++ one_used b ListsSetting ++ one_used c UserDefinedFunctions
in_order false false false = refl
in_order false false true = refl
in_order false true false = refl
in_order false true true = refl
in_order true false false = refl
in_order true false true = refl
in_order true true false = refl
in_order true true true = refl

-- the features that are used are those of the items, in their order
pub features_are : (items : List Item) → with_used (list_any (uses_feature UserDefinedFunctions) items) UserDefinedFunctions
    (with_used (list_any (uses_feature ListsSetting) items) ListsSetting (with_used (list_any (uses_feature CachedRecipes) items) CachedRecipes []))
    ≡ unstable_of items
features_are items =
    in_order (list_any (uses_feature CachedRecipes) items) (list_any (uses_feature ListsSetting) items) (list_any (uses_feature UserDefinedFunctions) items)
    ∙ (λ i. one_used (sym (any_of CachedRecipes items) i) CachedRecipes ++ one_used (sym (any_of ListsSetting items) i) ListsSetting ++ one_used (sym (any_of UserDefinedFunctions items) i) UserDefinedFunctions)

-- ---- the loop over the items

-- the items from one on are that item and those after it
used_from : (feature : UnstableFeature) (all : List Item) (n : ℕ) (i : Item) → n < length all → i ≡ get_or all n i
    → list_any (uses_feature feature) (drop n all) ≡ (uses_feature feature i || list_any (uses_feature feature) (drop (n + 1) all))
used_from feature all n i h e = at_drop_more (list_any (uses_feature feature)) all n i h ∙ ap (λ (k : Item). uses_feature feature k || list_any (uses_feature feature) (drop (n + 1) all)) (sym e)

module _ (feature : UnstableFeature) (all : List Item) (n : ℕ) (so_far : list_any (uses_feature feature) all ≡ list_any (uses_feature feature) (drop n all)) where
  -- the next item doesn't use the feature
  pub none_here : (i : Item) → n < length all → i ≡ get_or all n i → uses_feature feature i ≡ false
      → list_any (uses_feature feature) all ≡ list_any (uses_feature feature) (drop (n + 1) all)
  none_here i h e fails = so_far ∙ used_from feature all n i h e ∙ ap (λ (b : Bool). b || list_any (uses_feature feature) (drop (n + 1) all)) fails

  -- the next item does
  pub found_here : (i : Item) → n < length all → i ≡ get_or all n i → uses_feature feature i ≡ true → list_any (uses_feature feature) all ≡ true
  found_here i h e holds = so_far ∙ used_from feature all n i h e ∙ ap (λ (b : Bool). b || list_any (uses_feature feature) (drop (n + 1) all)) holds

  -- no item is left
  pub none_left : length all ≤ n → list_any (uses_feature feature) all ≡ false
  none_left h = so_far ∙ ap (list_any (uses_feature feature)) (drop_all n all h)
