-- Files, and how the definitions see them.
pub use Rattle.justfile_ast.specs.Ast.{ast_shape, binding_numbers, cooked_texts, features_of, recipe_numbers, tree_of}
pub use Rattle.justfile_ast.specs.Copies.{IsSameAst}
pub use Rattle.justfile_item.specs.Indented.{items_indentation}
pub use Rattle.justfile_ast.specs.declared.ast.Ast.{Ast}
