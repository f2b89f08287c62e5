-- Copies of parameters, dependencies and their arguments.
use Rattle.std.specs.Prelude.{◌≡◌, Option, None, Some}
use Rattle.std.specs.Global.{Box}
use Rattle.std.specs.List.{AllZip}
use Rattle.justfile_token.specs.Namepath.{names_in}
use Rattle.justfile_token.specs.Copies.{IsSameIfPresent, IsSameText}
use Rattle.justfile_expression.specs.Copies.{IsSameExpression}
use Rattle.justfile_expression.specs.declared.expression.Expression.{Expression}
use Rattle.justfile_recipe_header.specs.declared.parameter.Parameter.{Parameter}
use Rattle.justfile_recipe_header.specs.declared.unresolved_dependency.DependencyArgument.{DependencyArgument}
use Rattle.justfile_recipe_header.specs.declared.unresolved_dependency.UnresolvedDependency.{UnresolvedDependency}

-- an optional expression in a box, as a copy of one that is in no box
abbrev pub IsCopyInBox : (copy : Option (Box Expression)) (original : Option Expression) → Type 0
IsCopyInBox None None = Unit {0}
IsCopyInBox (Some copy) (Some original) = IsSameExpression copy.value original
IsCopyInBox _ _ = ⊥

-- a copy of a parameter: all fields are the same
pub record IsSameParameter (copy original : Parameter) : Type 0 where
  pub default : IsSameIfPresent IsSameExpression copy.default original.default
  pub export : copy.export ≡ original.export
  pub flag : copy.flag ≡ original.flag
  pub help : IsSameIfPresent IsSameText copy.help original.help
  pub kind : copy.kind ≡ original.kind
  pub long : IsSameIfPresent IsSameText copy.long original.long
  pub max : copy.max ≡ original.max
  pub min : copy.min ≡ original.min
  pub multiple : copy.multiple ≡ original.multiple
  pub name : copy.name ≡ original.name
  pub number : copy.number ≡ original.number
  pub short : copy.short ≡ original.short
  pub value : IsSameIfPresent IsSameExpression copy.value original.value

-- a copy of an argument: all fields are the same
pub record IsSameArgument (copy original : DependencyArgument) : Type 0 where
  pub expression : IsSameExpression copy.expression original.expression
  pub starred : copy.starred ≡ original.starred

-- a copy of a dependency: its arguments are copies and its path is the same
pub record IsSameDependency (copy original : UnresolvedDependency) : Type 0 where
  pub arguments : AllZip IsSameArgument copy.arguments.items original.arguments.items
  pub recipe : names_in copy.recipe ≡ names_in original.recipe
