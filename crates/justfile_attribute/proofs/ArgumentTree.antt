-- The tree of an `arg` attribute, whose numbers and keys are separate fields.
use Rattle.std.proofs.Common.{◌≡◌, ℕ, Option, Some, None, refl}
use Rattle.std.specs.Global.{Box}
use Rattle.std.specs.Option.{option_map}
use Rattle.justfile_token.specs.declared.name.Name.{Name}
use Rattle.justfile_token.specs.declared.string_literal.StringLiteral.{StringLiteral}
use Rattle.justfile_token.specs.declared.token.Token.{Token}
use Rattle.justfile_model.specs.Trees.Tree as tree
use Rattle.justfile_expression.specs.LeafTree.{leaf_tree_of}
use Rattle.justfile_expression.specs.declared.expression.Expression.{Expression}
use Rattle.justfile_attribute.specs.Attribute.{bound_by, leaf_attribute_of, literal_leaf, option_by}
use Rattle.justfile_attribute.specs.declared.attribute.Attribute.TheVariants as attributes
use Rattle.justfile_attribute_rules.specs.ArgumentRules.{option_of, property_of, rules_of}
use Rattle.justfile_attribute_rules.specs.Made.{bound_at, quoted_leaf}
use Rattle.justfile_attribute_rules.specs.declared.argument_rules.ArgumentRules.{ArgumentRules}

same_token : (token : Option Token) → option_map (λ (t : Token). t) token ≡ token
same_token None = refl
same_token (Some t) = refl

option_is : (key : Option Name) (literal : Option StringLiteral) → option_by leaf_tree_of literal_leaf (λ t. t) key literal ≡ option_of key literal
option_is (Some key) literal = refl
option_is None (Some literal) = refl
option_is None None = refl

-- a number and its key, joined as they were
module _ (key : Option Name) (number : Option ℕ) where
  bound_is : (name : StringLiteral) (bound : Option (Name × ℕ)) → key ≡ option_map (λ (p : Name × ℕ). p.0) bound → number ≡ option_map (λ (p : Name × ℕ). p.1) bound
      → bound_by leaf_tree_of literal_leaf (λ t. t) name key number ≡ option_map bound_at bound
  bound_is name (Some p) k n = rw k (rw n refl)
  bound_is name None k n = rw k (rw n refl)

pub rules_are : (r : ArgumentRules) (max_key : Option Name) (max : Option ℕ) (min_key : Option Name) (min : Option ℕ)
    → max_key ≡ option_map (λ (p : Name × ℕ). p.0) r.max → max ≡ option_map (λ (p : Name × ℕ). p.1) r.max
    → min_key ≡ option_map (λ (p : Name × ℕ). p.0) r.min → min ≡ option_map (λ (p : Name × ℕ). p.1) r.min
    → leaf_attribute_of (attributes.Arg r.flag None r.help_property r.long r.long_key max max_key min min_key r.multiple r.name r.pattern_property r.short r.short_key r.value)
    ≡ tree.Arg (rules_of r)
rules_are r max_key max min_key min high_key high low_key low i = tree.Arg (record {
  flag = same_token r.flag i;
  help = option_map property_of r.help_property;
  long = option_is r.long_key r.long i;
  max = bound_is max_key max r.name r.max high_key high i;
  min = bound_is min_key min r.name r.min low_key low i;
  multiple = same_token r.multiple i;
  name = quoted_leaf r.name;
  pattern = option_map property_of r.pattern_property;
  short = option_is r.short_key r.short i;
  value = option_map (λ (e : Box Expression). leaf_tree_of e.value) r.value;
})
