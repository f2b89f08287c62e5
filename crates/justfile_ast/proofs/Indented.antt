-- The indentation that a file sets, and the literal that the definitions find in its tree.
use Rattle.std.proofs.Common.{◌≡◌, ℕ, Bool, true, false, List, [], ◌∷◌, ◌||◌, not, map, get_or, length, drop, ◌+◌, ◌<◌, ◌≤◌, Option, Some, None, refl, sym, ap, ◌∙◌, if◌then◌else◌}
use Rattle.std.proofs.lemmas.List.{at_drop_more, drop_all}
use Rattle.std.specs.Prelude.{All, IfSome, string_bytes}
use Rattle.std.specs.List.{list_any}
use Rattle.std.specs.Option.{option_map}
use Rattle.std.proofs.lemmas.List.Elements.{All-head, All-tail, All-weaker}
use Rattle.justfile_vocabulary.specs.AttributeKind.{is_enabler_kind}
use Rattle.justfile_vocabulary.specs.Indentation.{indentation_text}
use Rattle.justfile_vocabulary.specs.declared.attribute_kind.AttributeKind.{AttributeKind}
use Rattle.justfile_vocabulary.specs.declared.attribute_kind.AttributeKind.TheVariants as kinds
use Rattle.justfile_vocabulary.specs.declared.indentation.Indentation.{Indentation}
use Rattle.justfile_token.specs.declared.string_literal.StringLiteral.{StringLiteral}
use Rattle.justfile_model.specs.Trees.ContentKeys.{has_attribute, kind_of_attribute}
use Rattle.justfile_model.specs.Meanings.Enabled.{indentation_literal, indentation_of, is_enabled}
use Rattle.justfile_model.specs.Meanings.RecipeRules.{or_else}
use Rattle.justfile_model.specs.Lexing.Tok.{Tok}
use Rattle.justfile_model.specs.Trees.Tree as tree
use Rattle.justfile_attribute_set.specs.AttributeSet.{AttributeSet, attributes_of, entries_of, written_of}
use Rattle.justfile_attribute_set.specs.Attributes.{are_enabled, is_of_kind, kind_of}
use Rattle.justfile_attribute_set.specs.Keys.{firsts}
use Rattle.justfile_attribute_set.specs.Pairs.{Pair, entry_of}
use Rattle.justfile_setting.specs.Setting.{HasDerivedSettingFields, keyword_of, value_of}
use Rattle.justfile_setting.specs.declared.setting.Setting.{Setting}
use Rattle.justfile_setting.specs.declared.setting.Setting.TheVariants as settings
use Rattle.justfile_expression.specs.Expression.{literal_tok}
use Rattle.justfile_item.specs.Indented.{HasDerivedFieldsOfSetting, indentation_set, item_indentation, items_indentation, set_indentation}
use Rattle.justfile_item.specs.Item.{item_of}
use Rattle.justfile_item.specs.declared.item.Item.{Item}
use Rattle.justfile_item.specs.declared.item.Item.TheVariants as items

-- the token of the literal that is paired with an indentation
abbrev pub token_by : StringLiteral × Indentation → Tok
token_by p = literal_tok p.0

-- ---- whether attributes enable an item: the same for the set and for its entries

kind_pairs : (kind : AttributeKind) (pairs : List Pair) → has_attribute kind (map entry_of pairs) ≡ list_any (is_of_kind kind) (firsts pairs)
unfolding kind_of
kind_pairs kind [] = refl
kind_pairs kind (p ∷ ps) = ap (λ b. is_of_kind kind p.0 || b) (kind_pairs kind ps)

enabler_pairs : (pairs : List Pair)
    → list_any (λ (e : tree.Entry Tok Tok). is_enabler_kind (kind_of_attribute e.attribute)) (map entry_of pairs) ≡ list_any (λ a. is_enabler_kind (kind_of a)) (firsts pairs)
unfolding kind_of
enabler_pairs [] = refl
enabler_pairs (p ∷ ps) = ap (λ b. is_enabler_kind (kind_of p.0) || b) (enabler_pairs ps)

pub enabled_entries : (set : AttributeSet) → is_enabled (entries_of set) ≡ are_enabled (attributes_of set)
enabled_entries set =
    λ i. not (enabler_pairs (written_of set) i) || kind_pairs kinds.Linux (written_of set) i || kind_pairs kinds.Unix (written_of set) i

-- ---- the literal

literal_set : (s : Setting) → indentation_literal (keyword_of s) (value_of s) ≡ option_map token_by (indentation_set s)
literal_set (settings.AllowDuplicateRecipes value) = refl
literal_set _ = refl

-- the same if a test holds; otherwise both are `None`
if_enabled : (b : Bool) (s : Setting) → (if b then indentation_literal (keyword_of s) (value_of s) else None) ≡ option_map token_by (if b then indentation_set s else None)
if_enabled true s = literal_set s
if_enabled false s = refl

either_way : (b : Bool) (found : Option Tok) → or_else (if b then None else None) found ≡ found
either_way true found = refl
either_way false found = refl

first_found : (o found : Option (StringLiteral × Indentation)) → or_else (option_map token_by o) (option_map token_by found) ≡ option_map token_by (or_else o found)
first_found None found = refl
first_found (Some p) found = refl

-- the literal that the definitions find in the items' trees is that of the first setting
pub indented_tree : (all : List Item) → indentation_of (map item_of all) ≡ option_map token_by (items_indentation all)
indented_tree [] = refl
indented_tree (items.Alias a ∷ all) = either_way (is_enabled (entries_of a.attributes)) (indentation_of (map item_of all)) ∙ indented_tree all
indented_tree (items.Assignment a ∷ all) = either_way (is_enabled (entries_of a.attributes)) (indentation_of (map item_of all)) ∙ indented_tree all
indented_tree (items.Comment text ∷ all) = indented_tree all
indented_tree (items.Function f ∷ all) = either_way (is_enabled (entries_of f.attributes)) (indentation_of (map item_of all)) ∙ indented_tree all
indented_tree (items.Import attributes optional relative ∷ all) = either_way (is_enabled (entries_of attributes)) (indentation_of (map item_of all)) ∙ indented_tree all
indented_tree (items.Module attributes doc name optional relative ∷ all) = either_way (is_enabled (entries_of attributes)) (indentation_of (map item_of all)) ∙ indented_tree all
indented_tree (items.Newline ∷ all) = indented_tree all
indented_tree (items.Recipe r ∷ all) = either_way (is_enabled (entries_of r.attributes)) (indentation_of (map item_of all)) ∙ indented_tree all
indented_tree (items.Setting s ∷ all) =
    ap (λ b. or_else (if b then indentation_literal (keyword_of s.value) (value_of s.value) else None) (indentation_of (map item_of all))) (enabled_entries s.attributes)
    ∙ (λ i. or_else (if_enabled (are_enabled (attributes_of s.attributes)) s.value i) (indented_tree all i))
    ∙ first_found (set_indentation s) (items_indentation all)
indented_tree (items.Unexport attributes name ∷ all) = either_way (is_enabled (entries_of attributes)) (indentation_of (map item_of all)) ∙ indented_tree all

-- ---- its text

-- the indentation is the text of the literal that it is paired with
abbrev pub IsTextOf : StringLiteral × Indentation → Type 0
IsTextOf p = indentation_text p.1 ≡ string_bytes p.0.cooked

text_set : (s : Setting) → HasDerivedSettingFields s → IfSome (indentation_set s) IsTextOf
text_set (settings.Indentation literal indentation) whole = whole
text_set _ whole = tt

text_enabled : (b : Bool) (s : Setting) → HasDerivedSettingFields s → IfSome (if b then indentation_set s else None) IsTextOf
text_enabled true s whole = text_set s whole
text_enabled false s whole = tt

found_holds : (Q : StringLiteral × Indentation → Type 0) (o found : Option (StringLiteral × Indentation)) → IfSome o Q → IfSome found Q → IfSome (or_else o found) Q
found_holds Q None found h k = k
found_holds Q (Some p) found h k = h

text_item : (i : Item) → HasDerivedFieldsOfSetting i → IfSome (item_indentation i) IsTextOf
text_item (items.Setting s) whole = text_enabled (are_enabled (attributes_of s.attributes)) s.value whole
text_item _ whole = tt

-- a property of every literal and indentation that an item sets is a property of the first ones
pub first_holds : (Q : StringLiteral × Indentation → Type 0) (all : List Item) → All (λ i. IfSome (item_indentation i) Q) all → IfSome (items_indentation all) Q
first_holds Q [] each = tt
first_holds Q (i ∷ all) each =
    found_holds Q (item_indentation i) (items_indentation all) (All-head (λ j. IfSome (item_indentation j) Q) i all each)
    (first_holds Q all (All-tail (λ j. IfSome (item_indentation j) Q) i all each))

-- the indentation that items set is the text of its literal
pub indented_text : (all : List Item) → All HasDerivedFieldsOfSetting all → IfSome (items_indentation all) IsTextOf
indented_text all whole = first_holds IsTextOf all (All-weaker HasDerivedFieldsOfSetting (λ i. IfSome (item_indentation i) IsTextOf) text_item all whole)

-- ---- the loop over the items

-- the items from an index on are the item there and those after it
found_from : (all : List Item) (n : ℕ) (i : Item) → n < length all → i ≡ get_or all n i
    → items_indentation (drop n all) ≡ or_else (item_indentation i) (items_indentation (drop (n + 1) all))
found_from all n i h e = at_drop_more items_indentation all n i h ∙ ap (λ (k : Item). items_indentation (k ∷ drop (n + 1) all)) (sym e)

-- the indentation without its literal
abbrev alone : Option (StringLiteral × Indentation) → Option Indentation
alone o = option_map (λ (p : StringLiteral × Indentation). p.1) o

passed_over : (o found : Option (StringLiteral × Indentation)) → alone o ≡ None → or_else o found ≡ found
passed_over None found e = refl
passed_over (Some p) found e = absurd cc

taken : (x : Indentation) (o found : Option (StringLiteral × Indentation)) → alone o ≡ Some x → alone (or_else o found) ≡ Some x
taken x None found e = absurd cc
taken x (Some p) found e = e

module _ (all : List Item) (n : ℕ) (so_far : items_indentation all ≡ items_indentation (drop n all)) where
  -- the next item sets none
  pub none_here : (i : Item) → n < length all → i ≡ get_or all n i → alone (item_indentation i) ≡ None → items_indentation all ≡ items_indentation (drop (n + 1) all)
  none_here i h e none = so_far ∙ found_from all n i h e ∙ passed_over (item_indentation i) (items_indentation (drop (n + 1) all)) none

  -- the next item sets one
  pub found_here : (i : Item) (x : Indentation) → n < length all → i ≡ get_or all n i → alone (item_indentation i) ≡ Some x → alone (items_indentation all) ≡ Some x
  found_here i x h e found = ap alone (so_far ∙ found_from all n i h e) ∙ taken x (item_indentation i) (items_indentation (drop (n + 1) all)) found

  -- no item is left
  pub none_left : length all ≤ n → alone (items_indentation all) ≡ None
  none_left h = ap alone (so_far ∙ ap items_indentation (drop_all n all h))
