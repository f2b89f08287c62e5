-- Items and their parts, and how the definitions see them.
pub use Rattle.justfile_item.specs.AllExpressions.{all_expressions, inner, with_inner}
pub use Rattle.justfile_item.specs.Copies.{IsSameItem}
pub use Rattle.justfile_item.specs.Expressions.{item_expressions}
pub use Rattle.justfile_item.specs.Item.{alias_of, assignment_of, function_of, header_of, is_item_enabled, item_cooked, item_numbers, item_of, item_recipe_numbers, item_shape, recipe_of, setting_of}
pub use Rattle.justfile_item.specs.ItemText.{item_attributes}
pub use Rattle.justfile_item.specs.Parts.{is_item_private, item_doc, item_kind, item_name}
pub use Rattle.justfile_item.specs.Private.{is_private_item}
pub use Rattle.justfile_item.specs.Resolved.{IsResolvedItem}
pub use Rattle.justfile_item.specs.declared.alias.Alias.{Alias}
pub use Rattle.justfile_item.specs.declared.binding.Binding.{Binding}
pub use Rattle.justfile_item.specs.declared.function_definition.FunctionDefinition.{FunctionDefinition}
pub use Rattle.justfile_item.specs.declared.item.Item.{Item}
pub use Rattle.justfile_item.specs.declared.recipe.UnresolvedRecipe.{UnresolvedRecipe}
pub use Rattle.justfile_item.specs.declared.set.Set.{Set}
pub use Rattle.justfile_line.specs.Body.{fragment_shapes, line_shape, line_shapes}
pub use Rattle.justfile_line.specs.declared.fragment.Fragment.{Fragment}
pub use Rattle.justfile_line.specs.declared.line.Line.{Line}
pub use Rattle.justfile_recipe_header.specs.Header.{dependency_of, dependency_text_of, parameter_of, parameter_text_of, parameters_text}
pub use Rattle.justfile_recipe_header.specs.declared.parameter.Parameter.{Parameter}
pub use Rattle.justfile_recipe_header.specs.declared.unresolved_dependency.UnresolvedDependency.{UnresolvedDependency}
pub use Rattle.justfile_setting.specs.Expressions.{setting_expressions}
pub use Rattle.justfile_setting.specs.Setting.{conflicts, is_default, keyword_of, truth_of, value_of}
pub use Rattle.justfile_setting.specs.Value.{leaf_value_seen, value_seen}
pub use Rattle.justfile_setting.specs.declared.setting.Setting.{Setting}
