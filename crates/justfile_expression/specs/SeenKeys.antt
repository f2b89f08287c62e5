-- The content key of an expression is the one that the definitions give to its tree.
use mathlib.Core.Former.{Count}
use Rattle.std.proofs.Common.{◌≡◌, Bool, true, false, refl}
use Rattle.justfile_token.specs.declared.string_literal.StringLiteral as literals
use Rattle.justfile_token.specs.declared.token.Token.{Token}
use Rattle.justfile_model.specs.Trees.ContentLeaf.{ContentLeaf, token, literal, operator}
use Rattle.justfile_model.specs.Trees.ContentKeys.{expr_key, exprs_keys, parts_keys, literal_key}
use Rattle.justfile_model.specs.Trees.ExpressionCases.{case_node}
use Rattle.justfile_model.specs.Trees.Key.{Key, leaf, end, next, sequence, absent_key, present_key, map_key, map_keys}
use Rattle.justfile_model.specs.declared.expression_case.ExpressionCase.TheVariants as cases
use Rattle.justfile_model.specs.LiteralTexts.Literals.{string_of}
use Rattle.justfile_expression.specs.Content.{content_of}
use Rattle.justfile_leaves.specs.LeafContent.{literal_content, token_content}
use Rattle.justfile_expression.specs.LeafViews.{views_leaves}
use Rattle.justfile_expression.specs.LeafTree.{Leaf, Literal, literal_of, leaf_tree_of, assert_tree, conditional_tree, join_tree, trees_of_row, format_row_tree, parts_row_tree}
use Rattle.justfile_expression.specs.Order.{key, optional_key, row_keys, row_parts}
use Rattle.justfile_expression.specs.declared.expression.Expression.{Expression, And', Assert', Backtick, Call', Comparison', Concatenation', Conditional', FormatString', Group', Join', List', ListConcatenation', Not', Or', StringLiteral, Variable, Held-Expression-Assert-1 as OptionalExpression, None', Some', Row_of-Expression as ExpressionRow, end_of-Expression as row_end, more_of-Expression as row_more, Row_of-Expression-FormatString-1-2 as FormatRow, end_of-Expression-FormatString-1-2 as format_row_end, more_of-Expression-FormatString-1-2 as format_row_more}

abbrev token_leaf : Token → Key ContentLeaf
token_leaf t = leaf (token (token_content t))

abbrev literal_leaf : literals.StringLiteral → Key ContentLeaf
literal_leaf l = leaf (literal (literal_content l))

-- the case of a string literal, marked `x` or not
pub quoted_seen : (expanded : Bool) (l : literals.StringLiteral) → literal_leaf l ≡ literal_key views_leaves (string_of expanded (Literal (literal_of l)))
quoted_seen true l = refl
quoted_seen false l = refl

mutual
  pub key_seen : (e : Expression) → map_key content_of (key e) ≡ expr_key views_leaves (leaf_tree_of e)
  key_seen (And' p lhs q rhs) = λ i. case_node cases.And (next (key_seen lhs i) (next (key_seen rhs i) end))
  key_seen (Assert' p condition message name) = assert_seen condition message name.token (key_seen condition)
  key_seen (Backtick contents t) = refl
  key_seen (Call' name m arguments) = λ i. case_node cases.Call (next (token_leaf name.token) (next (sequence (row_seen arguments i)) end))
  key_seen (Comparison' p lhs o q rhs t) =
      λ i. case_node cases.Comparison (next (key_seen lhs i) (next (leaf (operator o)) (next (key_seen rhs i) (next (token_leaf t) end))))
  key_seen (Concatenation' p lhs t q rhs) =
      λ i. case_node cases.Concatenation (next (key_seen lhs i) (next (token_leaf t) (next (key_seen rhs i) end)))
  key_seen (Conditional' p condition q branch otherwise) = conditional_seen condition branch otherwise (key_seen condition) (key_seen branch)
  key_seen (FormatString' start m expressions) = format_seen start expressions
  key_seen (Group' p contents) = λ i. case_node cases.Group (next (key_seen contents i) end)
  key_seen (Join' lhs t q rhs) = join_seen lhs t rhs (key_seen rhs)
  key_seen (List' m elements opener) = λ i. case_node cases.List (next (sequence (row_seen elements i)) (next (token_leaf opener) end))
  key_seen (ListConcatenation' p lhs t q rhs) =
      λ i. case_node cases.ListConcatenation (next (key_seen lhs i) (next (token_leaf t) (next (key_seen rhs i) end)))
  key_seen (Not' p operand) = λ i. case_node cases.Not (next (key_seen operand i) end)
  key_seen (Or' p lhs q rhs) = λ i. case_node cases.Or (next (key_seen lhs i) (next (key_seen rhs i) end))
  key_seen (StringLiteral l) = λ i. case_node cases.StringLiteral (next (quoted_seen l.expand l i) end)
  key_seen (Variable name n) = refl

  assert_seen : (condition : Expression) (message : OptionalExpression) (name : Token) → map_key content_of (key condition) ≡ expr_key views_leaves (leaf_tree_of condition)
      → case_node cases.Assert (next (map_key content_of (key condition)) (next (map_key content_of (optional_key message)) (next (token_leaf name) end)))
      ≡ expr_key views_leaves (assert_tree name (leaf_tree_of condition) message)
  assert_seen condition None' name e = λ i. case_node cases.Assert (next (e i) (next absent_key (next (token_leaf name) end)))
  assert_seen condition (Some' p message) name e =
      λ i. case_node cases.Assert (next (e i) (next (present_key (key_seen message i)) (next (token_leaf name) end)))

  conditional_seen : (condition branch : Expression) (otherwise : OptionalExpression) → map_key content_of (key condition) ≡ expr_key views_leaves (leaf_tree_of condition)
      → map_key content_of (key branch) ≡ expr_key views_leaves (leaf_tree_of branch)
      → case_node cases.Conditional (next (map_key content_of (key condition)) (next (map_key content_of (key branch)) (next (map_key content_of (optional_key otherwise)) end)))
      ≡ expr_key views_leaves (conditional_tree (leaf_tree_of condition) (leaf_tree_of branch) otherwise)
  conditional_seen condition branch None' e f = λ i. case_node cases.Conditional (next (e i) (next (f i) (next absent_key end)))
  conditional_seen condition branch (Some' p otherwise) e f =
      λ i. case_node cases.Conditional (next (e i) (next (f i) (next (present_key (key_seen otherwise i)) end)))

  join_seen : (lhs : OptionalExpression) (t : Token) (rhs : Expression) → map_key content_of (key rhs) ≡ expr_key views_leaves (leaf_tree_of rhs)
      → case_node cases.Join (next (map_key content_of (optional_key lhs)) (next (token_leaf t) (next (map_key content_of (key rhs)) end)))
      ≡ expr_key views_leaves (join_tree lhs t (leaf_tree_of rhs))
  join_seen None' t rhs e = λ i. case_node cases.Join (next absent_key (next (token_leaf t) (next (e i) end)))
  join_seen (Some' p lhs) t rhs e = λ i. case_node cases.Join (next (present_key (key_seen lhs i)) (next (token_leaf t) (next (e i) end)))

  row_seen : {n : Count} (row : ExpressionRow n) → map_keys content_of (row_keys row) ≡ exprs_keys views_leaves (trees_of_row row)
  row_seen row_end = refl
  row_seen (row_more e others) = λ i. next (key_seen e i) (row_seen others i)

  format_seen : (start : literals.StringLiteral) {n : Count} (parts : FormatRow n)
      → case_node cases.FormatString (next (literal_leaf start) (next (sequence (map_keys content_of (row_parts parts))) end)) ≡ expr_key views_leaves (format_row_tree (Literal (literal_of start)) parts)
  format_seen start format_row_end = refl
  format_seen start (format_row_more e l others) =
      λ i. case_node cases.FormatString (next (literal_leaf start) (next (sequence (parts_seen (Literal (literal_of start)) (key_seen e) l others i)) end))

  parts_seen : (start : Leaf) {k k' : Key ContentLeaf} (e : k ≡ k') (l : literals.StringLiteral) {n : Count} (parts : FormatRow n)
      → next (sequence (next k (next (literal_leaf l) end))) (map_keys content_of (row_parts parts))
      ≡ parts_keys views_leaves start k' (parts_row_tree (Literal (literal_of l)) parts)
  parts_seen start e l format_row_end = λ i. next (sequence (next (e i) (next (literal_leaf l) end))) end
  parts_seen start e l (format_row_more f m others) = λ i. next (sequence (next (e i) (next (literal_leaf l) end))) (parts_seen start (key_seen f) m others i)
