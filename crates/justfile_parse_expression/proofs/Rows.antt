-- The tree of a value that holds a vector, by the vector's elements.
use Rattle.std.proofs.Common.{◌≡◌, ◌∙◌, List, refl, ap, Vec, None}
use mathlib.Core.Former.{Count}
use Rattle.std.specs.declared.alloc.Global.{Global}
use Rattle.justfile_token.specs.declared.name.Name.{Name}
use Rattle.justfile_token.specs.declared.string_literal.StringLiteral.{StringLiteral}
use Rattle.justfile_token.specs.declared.token.Token.{Token}
use Rattle.justfile_model.specs.Trees.Tree as tree
use Rattle.justfile_expression.specs.LeafTree.{Leaf, Literal, Named, format_row_tree, format_string_tree, literal_of, parts_tree, parts_row_tree, leaf_tree_of, trees_of, trees_of_row}
use Rattle.justfile_expression.specs.declared.expression.Expression.{Expression, Row_of-Expression as ExpressionRow, end_of-Expression as row_end, more_of-Expression as row_more, items-the_row-Expression, items_hidden-the_row-Expression-0, Row_of-Expression-FormatString-1-2 as FormatRow, end_of-Expression-FormatString-1-2 as format_row_end, more_of-Expression-FormatString-1-2 as format_row_more, items-the_row-Expression-FormatString-1-2, items_hidden-the_row-Expression-FormatString-1-2-1}
use Rattle.justfile_expression.specs.declared.expression.Expression.TheVariants as e
use Rattle.justfile_expression.specs.declared.expression.Expression.TheVariants.{Call', List', FormatString'}

row_is : (n : Count) (row : ExpressionRow n) → trees_of_row row ≡ trees_of (items-the_row-Expression n row)
row_is n row_end = refl
row_is n (row_more x rest) = ap (tree.more (leaf_tree_of x)) (row_is _ rest)

parts_are : (n : Count) (token : Leaf) (row : FormatRow n) → parts_row_tree token row ≡ parts_tree token (items-the_row-Expression-FormatString-1-2 n row)
parts_are n token format_row_end = refl
parts_are n token (format_row_more x literal rest) = ap (tree.Continue token (leaf_tree_of x)) (parts_are _ (Literal (literal_of literal)) rest)

row_format : (n : Count) (start : Leaf) (row : FormatRow n) → format_row_tree start row ≡ format_string_tree (items-the_row-Expression-FormatString-1-2 n row) start
row_format n start format_row_end = refl
row_format n start (format_row_more x literal rest) = ap (tree.FormatString start (leaf_tree_of x)) (parts_are _ (Literal (literal_of literal)) rest)

abbrev row_of : Expression → (n : Count) × ExpressionRow n
row_of (Call' _ _ row) = (_, row)
row_of (List' _ row _) = (_, row)
row_of _ = (_, row_end)

abbrev parts_row : Expression → (n : Count) × FormatRow n
parts_row (FormatString' _ _ row) = (_, row)
parts_row _ = (_, format_row_end)

pub call_is : (name : Name) (v : Vec Expression Global) → leaf_tree_of (e.Call name v) ≡ tree.Call (Named name.token None) (trees_of v.items)
call_is name v =
    let row = row_of (e.Call name v) in
    ap (tree.Call (Named name.token None)) (row_is row.0 row.1 ∙ ap trees_of (items_hidden-the_row-Expression-0 v))

pub list_is : (v : Vec Expression Global) (opener : Token) → leaf_tree_of (e.List v opener) ≡ tree.ListOf opener (trees_of v.items)
list_is v opener =
    let row = row_of (e.List v opener) in
    ap (tree.ListOf opener) (row_is row.0 row.1 ∙ ap trees_of (items_hidden-the_row-Expression-0 v))

pub format_is : (start : StringLiteral) (v : Vec (Expression × StringLiteral) Global) → leaf_tree_of (e.FormatString start v) ≡ format_string_tree v.items (Literal (literal_of start))
format_is start v =
    let row = parts_row (e.FormatString start v) in
    row_format row.0 (Literal (literal_of start)) row.1 ∙ ap (λ (ps : List (Expression × StringLiteral)). format_string_tree ps (Literal (literal_of start))) (items_hidden-the_row-Expression-FormatString-1-2-1 v)
