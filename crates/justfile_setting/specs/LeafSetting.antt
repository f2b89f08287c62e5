-- Settings with all fields of the parser's leaves.
use Rattle.justfile_attribute.specs.Attribute.{literal_leaf}
use Rattle.justfile_token.specs.declared.token.Token.{Token}
use Rattle.justfile_model.specs.Trees.Tree.{SettingValue}
use Rattle.justfile_expression.specs.LeafTree.{Leaf, leaf_tree_of, trees_of}
use Rattle.justfile_setting.specs.Setting.{value_by}
use Rattle.justfile_setting.specs.declared.setting.Setting.{Setting}

-- the tree of a setting's value, with all fields of the parser's leaves
abbrev pub leaf_value_of : Setting → SettingValue Leaf Token
leaf_value_of = value_by leaf_tree_of trees_of literal_leaf
