-- What an `arg` attribute sets for its parameter.
use Rattle.std.specs.Prelude.{ℕ, Bool, false, List, Option, Some, None, string_bytes}
use Rattle.std.specs.Option.{is_some}
use Rattle.justfile_token.specs.declared.name.Name.{Name}
use Rattle.justfile_token.specs.declared.string_literal.StringLiteral.{StringLiteral}
use Rattle.justfile_token.specs.declared.token.Token.{Token}
use Rattle.justfile_model.specs.Meanings.AttributeRules.{rules_in}
use Rattle.justfile_model.specs.Meanings.RecipeRules.{bound_key, long_option, short_option}
use Rattle.justfile_model.specs.Trees.Tree as tree
use Rattle.justfile_parse_header.specs.HeaderTable.{Rules}
use Rattle.justfile_expression.specs.LeafViews.{views_leaves}
use Rattle.justfile_expression.specs.LeafTree.{Leaf}

-- an attribute as the definitions see it
abbrev pub LeafAttribute : Type 0
LeafAttribute = tree.Attribute Leaf Token

-- a function of the rules of an attribute if it is an `arg`, else the default
abbrev pub of_rules : {X : Type 0} → (default : X) → (Rules → X) → Option Rules → X
of_rules default of None = default
of_rules default of (Some rules) = of rules

abbrev pub sets_flag : LeafAttribute → Bool
sets_flag a = of_rules false (λ r. is_some r.flag) (rules_in a)

abbrev pub sets_multiple : LeafAttribute → Bool
sets_multiple a = of_rules false (λ r. is_some r.multiple) (rules_in a)

-- the key of `max`, or else that of `min`
abbrev pub bound_key_of : LeafAttribute → Option Token
bound_key_of a = of_rules None (λ r. bound_key views_leaves r) (rules_in a)

-- the key of a number, if the number is set
abbrev pub bound_token : Option ℕ → (key : Option Token) → Option Token
bound_token None key = None
bound_token (Some number) key = key

-- the name of an option, and the token where an error about it is reported
abbrev pub option_in : (name : StringLiteral) (literal : Option StringLiteral) (key : Option Name) → Option (List ℕ × Token)
option_in name literal (Some key) = Some (string_bytes name.cooked, key.token)
option_in name (Some literal) None = Some (string_bytes literal.cooked, literal.token)
option_in name None None = None

abbrev pub long_in : LeafAttribute → Option (List ℕ × Token)
long_in a = of_rules None (λ r. long_option views_leaves r) (rules_in a)

abbrev pub short_in : LeafAttribute → Option (ℕ × Token)
short_in a = of_rules None (λ r. short_option views_leaves r) (rules_in a)
