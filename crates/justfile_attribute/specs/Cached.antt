-- The keys of `cache`, read one after another.
use Rattle.std.specs.Prelude.{codes, List, Ok}
use Rattle.std.specs.Global.{Box}
use Rattle.std.specs.Option.{option_map}
use Rattle.justfile_token.specs.declared.token.Token.{Token}
use Rattle.justfile_model.specs.Meanings.Meaning.{KeyArgument}
use Rattle.justfile_model.specs.Readers.NewAttribute.{◌>>=◌, Made, required_at}
use Rattle.justfile_model.specs.Trees.Tree as tree
use Rattle.justfile_model.specs.Trees.Tree.{Attribute}
use Rattle.justfile_expression.specs.LeafTree.{Leaf, leaf_tree_of}
use Rattle.justfile_expression.specs.declared.expression.Expression.{Expression}
use Rattle.justfile_attribute.specs.declared.cache_values.CacheValues.{CacheValues}
use Rattle.justfile_attribute_rules.specs.Keys.{views_keys, without}

-- the attribute with these values
abbrev pub cache_of : CacheValues → Attribute Leaf Token
cache_of v = tree.Cache (option_map (λ (e : Box Expression). leaf_tree_of e.value) v.extra)
    (option_map (λ (e : Box Expression). leaf_tree_of e.value) v.inputs) (option_map (λ (e : Box Expression). leaf_tree_of e.value) v.outputs)

-- the attribute with these keys; each key is taken from those that are left
abbrev pub cache_read : (at : Token) → List (KeyArgument Leaf Token) → Made Token (Attribute Leaf Token)
cache_read at keys = do
  extra ← required_at views_keys at (codes "extra") keys
  inputs ← required_at views_keys at (codes "inputs") (without (codes "extra") keys)
  outputs ← required_at views_keys at (codes "outputs") (without (codes "inputs") (without (codes "extra") keys))
  Ok (tree.Cache extra inputs outputs)
