-- A copy has the same tree as its original.
use mathlib.Core.Former.{Count}
use Rattle.std.proofs.Common.{◌≡◌, refl, ap, None}
use Rattle.justfile_token.specs.StringLiteral.{IsSameLiteral}
use Rattle.justfile_token.specs.declared.name.Name.{Name}
use Rattle.justfile_token.specs.declared.string_literal.StringLiteral as literals
use Rattle.justfile_token.specs.declared.token.Token.{Token}
use Rattle.justfile_model.specs.Trees.Tree as tree
use Rattle.justfile_model.specs.Trees.Tree.{Expr}
use Rattle.justfile_expression.specs.Copies.{IsSameExpression, IsSameOptional, AreSameExpressions, AreSameParts}
use Rattle.justfile_expression.specs.LeafTree.{Command, Leaf, Literal, Named, assert_tree, conditional_tree, format_row_tree, join_tree, leaf_tree_of, literal_of, parts_row_tree, trees_of_row}
use Rattle.justfile_expression.specs.declared.expression.Expression.{Expression, And', Assert', Backtick, Call', Comparison', Concatenation', Conditional', FormatString', Group', Join', List', ListConcatenation', Not', Or', StringLiteral, Variable, Held-Expression-Assert-1 as OptionalExpression, None', Some', Row_of-Expression as ExpressionRow, end_of-Expression as row_end, more_of-Expression as row_more, Row_of-Expression-FormatString-1-2 as FormatRow, end_of-Expression-FormatString-1-2 as format_row_end, more_of-Expression-FormatString-1-2 as format_row_more}

pub same_literal : (copy original : literals.StringLiteral) → IsSameLiteral copy original → literal_of copy ≡ literal_of original
same_literal copy original same = λ i. record { token = same.token i; cooked = same.cooked i; expand = same.expand i; kind = same.kind i; part = same.part i }

leaf : (copy original : literals.StringLiteral) → IsSameLiteral copy original → Literal (literal_of copy) ≡ Literal (literal_of original)
leaf copy original same = ap Literal (same_literal copy original same)

mutual
  pub same_tree : (copy original : Expression) → IsSameExpression copy original → leaf_tree_of copy ≡ leaf_tree_of original
  same_tree (And' p lhs q rhs) (And' p' lhs' q' rhs') same = λ i. tree.And (same_tree lhs lhs' same.0 i) (same_tree rhs rhs' same.1 i)
  same_tree (Assert' p condition message name) (Assert' p' condition' message' name') same =
      same_assert (same_tree condition condition' same.0) message message' same.1 (ap (λ (n : Name). n.token) same.2)
  same_tree (Backtick contents token) (Backtick contents' token') same = λ i. tree.Backtick (Command (same.1 i) (same.0 i))
  same_tree (Call' name m arguments) (Call' name' n arguments') same = λ i. tree.Call (Named (same.0 i).token None) (same_trees _ _ arguments arguments' same.1 i)
  same_tree (Comparison' p lhs operator q rhs token) (Comparison' p' lhs' operator' q' rhs' token') same =
      λ i. tree.Comparison (same_tree lhs lhs' same.0 i) (same.1 i) (same.3 i) (same_tree rhs rhs' same.2 i)
  same_tree (Concatenation' p lhs operator q rhs) (Concatenation' p' lhs' operator' q' rhs') same =
      λ i. tree.Concatenation (same_tree lhs lhs' same.0 i) (same.1 i) (same_tree rhs rhs' same.2 i)
  same_tree (Conditional' p condition q branch otherwise) (Conditional' p' condition' q' branch' otherwise') same =
      same_conditional (same_tree condition condition' same.0) (same_tree branch branch' same.1) otherwise otherwise' same.2
  same_tree (FormatString' start m expressions) (FormatString' start' n expressions') same = same_format (leaf start start' same.0) _ _ expressions expressions' same.1
  same_tree (Group' p contents) (Group' p' contents') same = λ i. tree.Group (same_tree contents contents' same i)
  same_tree (Join' lhs operator q rhs) (Join' lhs' operator' q' rhs') same = same_join lhs lhs' same.0 same.1 (same_tree rhs rhs' same.2)
  same_tree (List' m elements opener) (List' n elements' opener') same = λ i. tree.ListOf (same.1 i) (same_trees _ _ elements elements' same.0 i)
  same_tree (ListConcatenation' p lhs operator q rhs) (ListConcatenation' p' lhs' operator' q' rhs') same =
      λ i. tree.ListConcatenation (same_tree lhs lhs' same.0 i) (same.1 i) (same_tree rhs rhs' same.2 i)
  same_tree (Not' p operand) (Not' p' operand') same = λ i. tree.Not (same_tree operand operand' same i)
  same_tree (Or' p lhs q rhs) (Or' p' lhs' q' rhs') same = λ i. tree.Or (same_tree lhs lhs' same.0 i) (same_tree rhs rhs' same.1 i)
  same_tree (StringLiteral copy) (StringLiteral original) same = λ i. tree.StringLiteral (same.expand i) (Literal (same_literal copy original same i))
  same_tree (Variable name number) (Variable name' number') same = λ i. tree.Variable (Named (same.0 i).token (same.1 i))
  same_tree _ _ same = absurd same

  same_assert : {name name' : Token} {condition condition' : Expr Leaf Token} → condition ≡ condition' → (message message' : OptionalExpression)
      → IsSameOptional message message' → name ≡ name' → assert_tree name condition message ≡ assert_tree name' condition' message'
  same_assert c None' None' same n = λ i. tree.Assert (n i) (c i)
  same_assert c (Some' p message) (Some' p' message') same n = λ i. tree.AssertMessage (n i) (c i) (same_tree message message' same i)
  same_assert c None' (Some' p message) same n = absurd same
  same_assert c (Some' p message) None' same n = absurd same

  same_conditional : {condition condition' branch branch' : Expr Leaf Token} → condition ≡ condition' → branch ≡ branch' → (otherwise otherwise' : OptionalExpression)
      → IsSameOptional otherwise otherwise' → conditional_tree condition branch otherwise ≡ conditional_tree condition' branch' otherwise'
  same_conditional c b None' None' same = λ i. tree.If (c i) (b i)
  same_conditional c b (Some' p otherwise) (Some' p' otherwise') same = λ i. tree.IfElse (c i) (b i) (same_tree otherwise otherwise' same i)
  same_conditional c b None' (Some' p otherwise) same = absurd same
  same_conditional c b (Some' p otherwise) None' same = absurd same

  same_join : (lhs lhs' : OptionalExpression) {operator operator' : Token} {rhs rhs' : Expr Leaf Token} → IsSameOptional lhs lhs' → operator ≡ operator' → rhs ≡ rhs'
      → join_tree lhs operator rhs ≡ join_tree lhs' operator' rhs'
  same_join None' None' same o r = λ i. tree.Root (o i) (r i)
  same_join (Some' p lhs) (Some' p' lhs') same o r = λ i. tree.Join (same_tree lhs lhs' same i) (o i) (r i)
  same_join None' (Some' p lhs) same o r = absurd same
  same_join (Some' p lhs) None' same o r = absurd same

  same_trees : (m n : Count) (copies : ExpressionRow m) (originals : ExpressionRow n) → AreSameExpressions copies originals → trees_of_row copies ≡ trees_of_row originals
  same_trees m n row_end row_end same = refl
  same_trees m n (row_more copy copies) (row_more original originals) same = λ i. tree.more (same_tree copy original same.0 i) (same_trees _ _ copies originals same.1 i)
  same_trees m n row_end (row_more original originals) same = absurd same
  same_trees m n (row_more copy copies) row_end same = absurd same

  same_format : {start start' : Leaf} → start ≡ start' → (m n : Count) (copies : FormatRow m) (originals : FormatRow n) → AreSameParts copies originals
      → format_row_tree start copies ≡ format_row_tree start' originals
  same_format s m n format_row_end format_row_end same = λ i. tree.FormatLiteral (s i)
  same_format s m n (format_row_more copy part copies) (format_row_more original part' originals) same =
      λ i. tree.FormatString (s i) (same_tree copy original same.0 i) (same_parts (leaf part part' same.1) _ _ copies originals same.2 i)
  same_format s m n format_row_end (format_row_more original part' originals) same = absurd same
  same_format s m n (format_row_more copy part copies) format_row_end same = absurd same

  same_parts : {token token' : Leaf} → token ≡ token' → (m n : Count) (copies : FormatRow m) (originals : FormatRow n) → AreSameParts copies originals
      → parts_row_tree token copies ≡ parts_row_tree token' originals
  same_parts t m n format_row_end format_row_end same = λ i. tree.Last (t i)
  same_parts t m n (format_row_more copy part copies) (format_row_more original part' originals) same =
      λ i. tree.Continue (t i) (same_tree copy original same.0 i) (same_parts (leaf part part' same.1) _ _ copies originals same.2 i)
  same_parts t m n format_row_end (format_row_more original part' originals) same = absurd same
  same_parts t m n (format_row_more copy part copies) format_row_end same = absurd same
