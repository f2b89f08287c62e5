-- Parameters and dependencies after resolution.
use Rattle.std.specs.Prelude.{◌≡◌, ℕ, List, Option}
use Rattle.std.specs.List.{AllZip}
use Rattle.justfile_numbers.specs.declared.number.Number.{Number}
use Rattle.justfile_token.specs.Copies.{IsSameIfPresent}
use Rattle.justfile_expression.specs.Resolved.{IsResolved}
use Rattle.justfile_recipe_header.specs.declared.parameter.Parameter.{Parameter}
use Rattle.justfile_recipe_header.specs.declared.unresolved_dependency.DependencyArgument.{DependencyArgument}
use Rattle.justfile_recipe_header.specs.declared.unresolved_dependency.UnresolvedDependency.{UnresolvedDependency}

module _ (numbers : (name : List ℕ) → Option Number) where
  -- a parameter: its default and its value are resolved, and all else is the same
  pub record IsResolvedParameter (resolved original : Parameter) : Type 0 where
    pub others : resolved ≡ record original { default = resolved.default; value = resolved.value }
    pub default : IsSameIfPresent (IsResolved numbers) resolved.default original.default
    pub value : IsSameIfPresent (IsResolved numbers) resolved.value original.value

  -- an argument: its expression is resolved, and it is starred as before
  pub record IsResolvedArgument (resolved original : DependencyArgument) : Type 0 where
    pub expression : IsResolved numbers resolved.expression original.expression
    pub starred : resolved.starred ≡ original.starred

  -- a dependency: its arguments are resolved, and its path is the same
  pub record IsResolvedDependency (resolved original : UnresolvedDependency) : Type 0 where
    pub arguments : AllZip IsResolvedArgument resolved.arguments.items original.arguments.items
    pub recipe : resolved.recipe ≡ original.recipe
