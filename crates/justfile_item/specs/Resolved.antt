-- Items after resolution.
use Rattle.std.specs.Prelude.{◌≡◌, ℕ, List, Option}
use Rattle.std.specs.List.{AllZip}
use Rattle.justfile_token.specs.declared.namepath.Namepath.{Namepath}
use Rattle.justfile_numbers.specs.declared.number.Number.{Number}
use Rattle.justfile_attribute_set.specs.Resolved.{AreResolvedAttributes}
use Rattle.justfile_expression.specs.Resolved.{IsResolved}
use Rattle.justfile_expression.specs.declared.expression.Expression.{Expression}
use Rattle.justfile_line.specs.Resolved.{IsResolvedLine}
use Rattle.justfile_recipe_header.specs.Resolved.{IsResolvedDependency, IsResolvedParameter}
use Rattle.justfile_setting.specs.Resolved.{IsResolvedSetting}
use Rattle.justfile_item.specs.declared.alias.Alias.{Alias}
use Rattle.justfile_item.specs.declared.binding.Binding.{Binding}
use Rattle.justfile_item.specs.declared.function_definition.FunctionDefinition.{FunctionDefinition}
use Rattle.justfile_item.specs.declared.item.Item.{Item}
use Rattle.justfile_item.specs.declared.item.Item.TheVariants as items
use Rattle.justfile_item.specs.declared.recipe.UnresolvedRecipe.{UnresolvedRecipe}
use Rattle.justfile_item.specs.declared.set.Set.{Set}

-- `others` says that all other fields are the same; for a setting, `name` is the only other one.
module _ (numbers : (name : List ℕ) → Option Number) where
  pub record IsResolvedAlias (resolved original : Alias Namepath) : Type 0 where
    pub others : resolved ≡ record original { attributes = resolved.attributes }
    pub attributes : AreResolvedAttributes numbers resolved.attributes original.attributes

  pub record IsResolvedAssignment (resolved original : Binding Expression) : Type 0 where
    pub others : resolved ≡ record original { attributes = resolved.attributes; value = resolved.value }
    pub attributes : AreResolvedAttributes numbers resolved.attributes original.attributes
    pub value : IsResolved numbers resolved.value original.value

  pub record IsResolvedFunction (resolved original : FunctionDefinition) : Type 0 where
    pub others : resolved ≡ record original { attributes = resolved.attributes; body = resolved.body }
    pub attributes : AreResolvedAttributes numbers resolved.attributes original.attributes
    pub body : IsResolved numbers resolved.body original.body

  pub record IsResolvedRecipe (resolved original : UnresolvedRecipe) : Type 0 where
    pub others : resolved ≡ record original { attributes = resolved.attributes; body = resolved.body; dependencies = resolved.dependencies; parameters = resolved.parameters }
    pub attributes : AreResolvedAttributes numbers resolved.attributes original.attributes
    pub body : AllZip (IsResolvedLine numbers) resolved.body.items original.body.items
    pub dependencies : AllZip (IsResolvedDependency numbers) resolved.dependencies.items original.dependencies.items
    pub parameters : AllZip (IsResolvedParameter numbers) resolved.parameters.items original.parameters.items

  pub record IsResolvedSet (resolved original : Set) : Type 0 where
    pub attributes : AreResolvedAttributes numbers resolved.attributes original.attributes
    pub name : resolved.name ≡ original.name
    pub value : IsResolvedSetting numbers resolved.value original.value

  -- an item of the same case: its attributes and its expressions are resolved, and all else is the same
  abbrev pub IsResolvedItem : (resolved original : Item) → Type 0
  IsResolvedItem (items.Alias resolved) (items.Alias original) = IsResolvedAlias resolved original
  IsResolvedItem (items.Assignment resolved) (items.Assignment original) = IsResolvedAssignment resolved original
  IsResolvedItem (items.Comment text) (items.Comment text') = text ≡ text'
  IsResolvedItem (items.Function resolved) (items.Function original) = IsResolvedFunction resolved original
  IsResolvedItem (items.Import attributes optional relative) (items.Import attributes' optional' relative') =
      AreResolvedAttributes numbers attributes attributes' × (optional ≡ optional') × (relative ≡ relative')
  IsResolvedItem (items.Module attributes doc name optional relative) (items.Module attributes' doc' name' optional' relative') =
      AreResolvedAttributes numbers attributes attributes' × (doc ≡ doc') × (name ≡ name') × (optional ≡ optional') × (relative ≡ relative')
  IsResolvedItem items.Newline items.Newline = Unit {0}
  IsResolvedItem (items.Recipe resolved) (items.Recipe original) = IsResolvedRecipe resolved original
  IsResolvedItem (items.Setting resolved) (items.Setting original) = IsResolvedSet resolved original
  IsResolvedItem (items.Unexport attributes name) (items.Unexport attributes' name') = AreResolvedAttributes numbers attributes attributes' × (name ≡ name')
  IsResolvedItem _ _ = ⊥
