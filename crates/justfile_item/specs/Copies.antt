-- Copies of items.
use Rattle.std.specs.Prelude.{◌≡◌}
use Rattle.std.specs.List.{AllZip}
use Rattle.justfile_token.specs.Copies.{IsSameIfPresent, IsSameText}
use Rattle.justfile_attribute_set.specs.Copies.{IsSameAttributes}
use Rattle.justfile_token.specs.Namepath.{names_in}
use Rattle.justfile_token.specs.StringLiteral.{IsSameLiteral}
use Rattle.justfile_token.specs.declared.namepath.Namepath.{Namepath}
use Rattle.justfile_recipe_header.specs.Copies.{IsSameDependency, IsSameParameter}
use Rattle.justfile_line.specs.Copies.{IsSameLine}
use Rattle.justfile_setting.specs.Copies.{IsSameSetting}
use Rattle.justfile_expression.specs.declared.expression.Expression.{Expression}
use Rattle.justfile_expression.specs.Copies.{IsSameExpression}
use Rattle.justfile_item.specs.declared.alias.Alias.{Alias}
use Rattle.justfile_item.specs.declared.binding.Binding.{Binding}
use Rattle.justfile_item.specs.declared.function_definition.FunctionDefinition.{FunctionDefinition}
use Rattle.justfile_item.specs.declared.item.Item.{Item}
use Rattle.justfile_item.specs.declared.item.Item.TheVariants as items
use Rattle.justfile_item.specs.declared.recipe.UnresolvedRecipe.{UnresolvedRecipe}
use Rattle.justfile_item.specs.declared.set.Set.{Set}

-- a copy of an alias: all fields are the same
pub record IsSameAlias (copy original : Alias Namepath) : Type 0 where
  pub attributes : IsSameAttributes copy.attributes original.attributes
  pub name : copy.name ≡ original.name
  pub target : names_in copy.target ≡ names_in original.target

-- a copy of an assignment: all fields are the same
pub record IsSameAssignment (copy original : Binding Expression) : Type 0 where
  pub attributes : IsSameAttributes copy.attributes original.attributes
  pub eager : copy.eager ≡ original.eager
  pub export : copy.export ≡ original.export
  pub file_depth : copy.file_depth ≡ original.file_depth
  pub name : copy.name ≡ original.name
  pub number : copy.number ≡ original.number
  pub prelude : copy.prelude ≡ original.prelude
  pub «private» : copy.private ≡ original.private
  pub value : IsSameExpression copy.value original.value

-- a copy of a function: all fields are the same
pub record IsSameFunction (copy original : FunctionDefinition) : Type 0 where
  pub attributes : IsSameAttributes copy.attributes original.attributes
  pub body : IsSameExpression copy.body original.body
  pub name : copy.name ≡ original.name
  pub parameters : copy.parameters.items ≡ original.parameters.items

-- a copy of a recipe: all fields are the same
pub record IsSameRecipe (copy original : UnresolvedRecipe) : Type 0 where
  pub attributes : IsSameAttributes copy.attributes original.attributes
  pub body : AllZip IsSameLine copy.body.items original.body.items
  pub comment : copy.comment ≡ original.comment
  pub dependencies : AllZip IsSameDependency copy.dependencies.items original.dependencies.items
  pub doc : IsSameIfPresent IsSameText copy.doc original.doc
  pub file_depth : copy.file_depth ≡ original.file_depth
  pub import_offsets : copy.import_offsets.items ≡ original.import_offsets.items
  pub name : copy.name ≡ original.name
  pub number : copy.number ≡ original.number
  pub parameters : AllZip IsSameParameter copy.parameters.items original.parameters.items
  pub priors : copy.priors ≡ original.priors
  pub «private» : copy.private ≡ original.private
  pub quiet : copy.quiet ≡ original.quiet
  pub shebang : copy.shebang ≡ original.shebang

-- a copy of a setting: all fields are the same
pub record IsSameSet (copy original : Set) : Type 0 where
  pub attributes : IsSameAttributes copy.attributes original.attributes
  pub name : copy.name ≡ original.name
  pub value : IsSameSetting copy.value original.value

-- a copy of an item: the same case, and all fields are the same
abbrev pub IsSameItem : (copy original : Item) → Type 0
IsSameItem (items.Alias copy) (items.Alias original) = IsSameAlias copy original
IsSameItem (items.Assignment copy) (items.Assignment original) = IsSameAssignment copy original
IsSameItem (items.Comment copy) (items.Comment original) = copy ≡ original
IsSameItem (items.Function copy) (items.Function original) = IsSameFunction copy original
IsSameItem (items.Import attributes optional relative) (items.Import attributes' optional' relative') =
    IsSameAttributes attributes attributes' × (optional ≡ optional') × IsSameLiteral relative relative'
IsSameItem (items.Module attributes doc name optional relative) (items.Module attributes' doc' name' optional' relative') =
    IsSameAttributes attributes attributes' × IsSameIfPresent IsSameText doc doc' × (name ≡ name') × (optional ≡ optional') × IsSameIfPresent IsSameLiteral relative relative'
IsSameItem items.Newline items.Newline = Unit {0}
IsSameItem (items.Recipe copy) (items.Recipe original) = IsSameRecipe copy original
IsSameItem (items.Setting copy) (items.Setting original) = IsSameSet copy original
IsSameItem (items.Unexport attributes name) (items.Unexport attributes' name') = IsSameAttributes attributes attributes' × (name ≡ name')
IsSameItem _ _ = ⊥
