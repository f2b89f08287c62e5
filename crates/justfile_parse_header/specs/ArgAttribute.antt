-- The fields of a parameter that its `arg` attribute determines.
use Rattle.std.specs.Prelude.{◌≡◌, ℕ, Bool, false, List, [], ◌∷◌, ◌++◌, ◌&&◌, not, Option, Some, None, string_bytes}
use Rattle.std.specs.Option.{is_some, option_map}
use Rattle.justfile_token.specs.declared.token.Token.{Token}
use Rattle.justfile_recipe_header.specs.declared.parameter.Parameter.{Parameter}
use Rattle.justfile_model.specs.Meanings.AttributeRules.{of_some}
use Rattle.justfile_model.specs.Meanings.RecipeRules.{bound_key, is_variadic, long_option, rules_for, short_option}
use Rattle.justfile_model.specs.Meanings.Rules.{ArgAttributeRequiresMultipleOrVariadic, Broken, FlagWithDefault, broken_if}
use Rattle.justfile_model.specs.Trees.Tree.{Bound}
use Rattle.justfile_model.specs.declared.parameter_kind.ParameterKind.{ParameterKind}
use Rattle.justfile_parse_header.specs.Options.{of_rules}
use Rattle.justfile_parse_header.specs.declared.arg_attribute.ArgAttribute.{ArgAttribute}
use Rattle.justfile_parse_header.specs.HeaderTable.{LeafParameter, Rules}
use Rattle.justfile_parse_header.specs.Tree.{parameter_name, parameter_tree, value_tree}
use Rattle.justfile_expression.specs.LeafTree.{leaf_tree_of}
use Rattle.justfile_expression.specs.LeafViews.{views_leaves}

-- the name of the long option
abbrev pub long_text : Rules → Option (List ℕ)
long_text rules = option_map (λ option. option.0) (long_option views_leaves rules)

-- the first character of the name of the short option
abbrev pub short_character : Rules → Option ℕ
short_character rules = option_map (λ option. option.0) (short_option views_leaves rules)

abbrev pub bound_number : Option (Bound Token) → Option ℕ
bound_number bound = option_map (λ (b : Bound Token). b.number) bound

-- A parameter has what its `arg` attribute sets, except for the help text: that is evaluated later, and is none here.
pub record HasArgAttribute (rules : Option Rules) (p : Parameter) : Type 0 where
  pub flag : p.flag ≡ of_rules false (λ r. is_some r.flag) rules
  pub help : p.help ≡ None
  pub long : option_map string_bytes p.long ≡ of_rules None long_text rules
  pub max : p.max ≡ of_rules None (λ r. bound_number r.max) rules
  pub min : p.min ≡ of_rules None (λ r. bound_number r.min) rules
  pub multiple : p.multiple ≡ of_rules false (λ r. is_some r.multiple) rules
  pub short : p.short ≡ of_rules None short_character rules
  pub value : option_map leaf_tree_of p.value ≡ of_rules None (λ r. r.value) rules

-- The value is what the `arg` attribute sets.
pub record IsArgAttribute (rules : Option Rules) (s : ArgAttribute) : Type 0 where
  pub flag : s.flag ≡ of_rules false (λ r. is_some r.flag) rules
  pub long : option_map string_bytes s.long ≡ of_rules None long_text rules
  pub max : s.max ≡ of_rules None (λ r. bound_number r.max) rules
  pub min : s.min ≡ of_rules None (λ r. bound_number r.min) rules
  pub multiple : s.multiple ≡ of_rules false (λ r. is_some r.multiple) rules
  pub short : s.short ≡ of_rules None short_character rules
  pub value : value_tree s.value ≡ of_rules None (λ r. r.value) rules

-- the rules that an `arg` attribute breaks, for a parameter with this name and kind, and with or without a default
abbrev pub arg_attribute_broken : (name : Token) (has_default : Bool) → ParameterKind → Option Rules → List (Broken Token)
arg_attribute_broken name has_default kind rules =
    of_some (λ (a : Rules). broken_if (is_some a.flag && has_default) (FlagWithDefault name) name
    ++ of_some (λ (key : Token). broken_if (not (is_some a.multiple) && not (is_variadic kind)) (ArgAttributeRequiresMultipleOrVariadic key) key) (bound_key views_leaves a)) rules

-- The derived fields of a parameter after those in `before` are right. An `arg` attribute belongs to the first parameter with its name.
abbrev pub HasDerivedParameterFields : List Rules → (before : List LeafParameter) → Parameter → Type 0
HasDerivedParameterFields rules before p = HasArgAttribute (rules_for views_leaves rules before (parameter_name p)) p

-- The derived fields of each of these parameters, after those in `before`, are right.
abbrev pub HaveDerivedFieldsAfter : List Rules → (before : List LeafParameter) → List Parameter → Type 0
HaveDerivedFieldsAfter rules before [] = Unit {0}
HaveDerivedFieldsAfter rules before (p ∷ ps) = HasDerivedParameterFields rules before p × HaveDerivedFieldsAfter rules (before ++ parameter_tree p ∷ []) ps

unfoldable pub HaveDerivedParameterFields : List Rules → List Parameter → Type 0
HaveDerivedParameterFields rules ps = HaveDerivedFieldsAfter rules [] ps

-- If the derived fields of the old parameters are right, those of the new ones are.
unfoldable pub KeepsDerivedParameterFields : List Rules → (old new : List Parameter) → Type 0
KeepsDerivedParameterFields rules old new = HaveDerivedParameterFields rules old → HaveDerivedParameterFields rules new
