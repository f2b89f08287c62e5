-- The view of the code's `ArgumentRules` in the definitions.
use Rattle.std.specs.Prelude.{Option, Some, None}
use Rattle.std.specs.Global.{Box}
use Rattle.std.specs.Option.{option_map}
use Rattle.justfile_token.specs.StringLiteral.{IsSameLiteral}
use Rattle.justfile_token.specs.declared.name.Name.{Name}
use Rattle.justfile_token.specs.declared.string_literal.StringLiteral.{StringLiteral}
use Rattle.justfile_token.specs.declared.token.Token.{Token}
use Rattle.justfile_model.specs.Trees.Tree as tree
use Rattle.justfile_model.specs.Trees.Tree.{OptionName, Property}
use Rattle.justfile_expression.specs.LeafTree.{Leaf, leaf_tree_of}
use Rattle.justfile_expression.specs.declared.expression.Expression.{Expression}
use Rattle.justfile_attribute_rules.specs.Made.{bound_at, quoted_leaf}
use Rattle.justfile_attribute_rules.specs.declared.argument_rules.ArgumentRules.{ArgumentRules}

-- the name of an option; a key without a value gives the parameter's name, whatever the literal
abbrev pub option_of : (key : Option Name) → Option StringLiteral → OptionName Leaf Token
option_of (Some key) literal = tree.OwnName key.token
option_of None (Some literal) = tree.Named (quoted_leaf literal)
option_of None None = tree.NoOption

abbrev pub property_of : Name × Box Expression → Property Leaf Token
property_of p = record { key = p.0.token; value = leaf_tree_of p.1.value }

abbrev pub rules_of : ArgumentRules → tree.ArgumentRules Leaf Token
rules_of r = record {
  flag = r.flag;
  help = option_map property_of r.help_property;
  long = option_of r.long_key r.long;
  max = option_map bound_at r.max;
  min = option_map bound_at r.min;
  multiple = r.multiple;
  name = quoted_leaf r.name;
  pattern = option_map property_of r.pattern_property;
  short = option_of r.short_key r.short;
  value = option_map (λ e. leaf_tree_of e.value) r.value;
}

-- an option whose key has no value has a copy of the parameter's name as its literal
abbrev pub IsNamedAs : (name : StringLiteral) → (key : Option Name) → (literal : Option StringLiteral) → Type 0
IsNamedAs name None literal = Unit {0}
IsNamedAs name (Some key) None = ⊥
IsNamedAs name (Some key) (Some literal) = IsSameLiteral literal name

-- the same for both options
pub record AreNamed (r : ArgumentRules) : Type 0 where
  pub long : IsNamedAs r.name r.long_key r.long
  pub short : IsNamedAs r.name r.short_key r.short
