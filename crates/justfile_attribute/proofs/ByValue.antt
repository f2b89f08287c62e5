-- Arguments in boxes mean what those by value do.
use Rattle.std.proofs.Common.{◌≡◌, ◌∙◌, ℕ, List, [], ◌∷◌, map, Option, Some, None, refl, sym, ap}
use Rattle.std.specs.Global.{Box}
use Rattle.std.specs.Option.{option_map}
use denote.Ref.{Bor}
use Rattle.justfile_vocabulary.specs.declared.attribute_kind.AttributeKind.{AttributeKind}
use Rattle.justfile_token.specs.declared.token.Token.{Token}
use Rattle.justfile_model.specs.Readers.NewAttribute.{new_attribute}
use Rattle.justfile_expression.specs.LeafTree.{Command, leaf_tree_of}
use Rattle.justfile_expression.specs.declared.expression.Expression.{Expression}
use Rattle.justfile_attribute.specs.Boxes.{unboxed_entry, unboxed_pair}
use Rattle.justfile_attribute.specs.ByValue.{GivenKey, Placed, given_leaves, placed_leaf, placed_leaves}
use Rattle.justfile_attribute_rules.specs.Keys.{Given, KeyMap, key_argument, key_arguments, views_keys}
use Rattle.justfile_attribute_rules.specs.Made.{positional_leaves}

pub placed_same : (boxed : List (Token × Box Expression)) → positional_leaves boxed ≡ placed_leaves (map unboxed_pair boxed)
placed_same [] = refl
placed_same (p ∷ boxed) = ap (λ l. placed_leaf (unboxed_pair p) ∷ l) (placed_same boxed)

pub given_same : (keys : KeyMap) → key_arguments keys ≡ given_leaves (map unboxed_entry keys.entries)
given_same keys = all keys.entries
  where
    value_same : (value : Option (Box Expression)) → option_map (λ b. leaf_tree_of b.value) value ≡ option_map leaf_tree_of (option_map (λ b. b.value) value)
    value_same None = refl
    value_same (Some b) = refl

    all : (es : List (Bor (List ℕ) × Given)) → map key_argument es ≡ given_leaves (map unboxed_entry es)
    all [] = refl
    all (e ∷ es) = λ i. record { key = Command e.1.0.token e.0.now; value = value_same e.1.1 i } ∷ all es i

-- the attribute is the same
pub made_same : (at : Token) (kind : AttributeKind) (boxed : List (Token × Box Expression)) (placed : List Placed) (keys : KeyMap) (given : List GivenKey)
    → map unboxed_pair boxed ≡ placed → map unboxed_entry keys.entries ≡ given
    → new_attribute views_keys at kind (placed_leaves placed) (given_leaves given) ≡ new_attribute views_keys at kind (positional_leaves boxed) (key_arguments keys)
made_same at kind boxed placed keys given p k =
    λ i. new_attribute views_keys at kind ((ap placed_leaves (sym p) ∙ sym (placed_same boxed)) i) ((ap given_leaves (sym k) ∙ sym (given_same keys)) i)
