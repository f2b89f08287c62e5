-- The tree of a file: the definitions' view of the code's type.
use Rattle.std.specs.Prelude.{ℕ, List, map}
use Rattle.std.specs.List.{flat_map}
use Rattle.justfile_token.specs.declared.token.Token.{Token}
use Rattle.justfile_model.specs.Grammars.Features.{Noted}
use Rattle.justfile_model.specs.Lexing.Tok.{Tok, tok_of}
use Rattle.justfile_model.specs.Trees.Tree.{Tree, Shape, shape_of}
use Rattle.justfile_vocabulary.specs.declared.list_feature.ListFeature.{ListFeature}
use Rattle.justfile_item.specs.Item.{item_of, item_cooked, item_numbers, item_recipe_numbers}
use Rattle.justfile_ast.specs.declared.ast.Ast.{Ast}

-- the tree of a file
abbrev pub tree_of : Ast → Tree
tree_of ast = map item_of ast.items.items

-- the shape of a file: its tree with lexemes in place of tokens
abbrev pub ast_shape : Ast → Shape
ast_shape ast = shape_of (tree_of ast)

abbrev pub noted_of : ListFeature × Token → Noted Tok
noted_of x = (x.0, tok_of x.1)

-- the uses of features that need `set lists`, in the order of parsing
abbrev pub features_of : Ast → List (Noted Tok)
features_of ast = map noted_of ast.list_features.items

-- the texts of a file's literals, in order
abbrev pub cooked_texts : Ast → List (List ℕ)
cooked_texts ast = flat_map item_cooked ast.items.items

-- the numbers of a file's bindings, in order
abbrev pub binding_numbers : Ast → List ℕ
binding_numbers ast = flat_map item_numbers ast.items.items

-- the numbers of a file's recipes, in order
abbrev pub recipe_numbers : Ast → List ℕ
recipe_numbers ast = flat_map item_recipe_numbers ast.items.items
