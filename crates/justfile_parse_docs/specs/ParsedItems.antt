-- What is said of the parser's items: crates above take it from here. Each library that a crate names beside others costs `rt ci` minutes.
pub use Rattle.justfile_parse_item.specs.DerivedFields.{HasDerivedItemFields, HasDerivedSetAttributes}
unfoldable pub use Rattle.justfile_parse_item.specs.DerivedFields.{HaveDerivedFields}
pub use Rattle.justfile_parse_item.specs.Filled.{AreFilledAttributes, AreFilledExpressions, AreFilledParts, AreNotedIn, IsFilledArgument, IsFilledAttribute, IsFilledBoxed, IsFilledCommandLine, IsFilledContent, IsFilledCount, IsFilledDependency, IsFilledExpression, IsFilledForm, IsFilledFragment, IsFilledInterpreter, IsFilledItem, IsFilledItems, IsFilledLine, IsFilledLiteral, IsFilledName, IsFilledNumbered, IsFilledOption, IsFilledOptional, IsFilledParameter, IsFilledPart, IsFilledPath, IsFilledProperty, IsFilledRecipe, IsFilledSetting, IsInTable, first_part, later_part}
pub use Rattle.justfile_parse_item.specs.ItemTable.{ReadItems, after_byte_order_mark, attribute_leaves, file}
pub use Rattle.justfile_parse_item.specs.MethodResults.{CountersMoved}
pub use Rattle.justfile_parse_item.specs.Tree.{assignment_name, item_tree, numbered_leaf, recipe_name}
