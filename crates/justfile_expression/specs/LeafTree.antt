-- The tree of an expression with all that the parser stores in its leaves. Only the addresses of boxes are left out.
use Rattle.std.specs.Prelude.{ℕ, Bool, List, [], ◌∷◌, Option, None, string_bytes}
use Rattle.justfile_vocabulary.specs.declared.format_string_part.FormatStringPart.{FormatStringPart}
use Rattle.justfile_numbers.specs.declared.number.Number.{Number}
use Rattle.justfile_token.specs.declared.string_kind.StringKind.{StringKind}
use Rattle.justfile_token.specs.declared.string_literal.StringLiteral as literals
use Rattle.justfile_token.specs.declared.token.Token.{Token}
use Rattle.justfile_model.specs.Trees.Tree as tree
use Rattle.justfile_model.specs.Trees.Tree.{Expr, Exprs, Parts}
use Rattle.justfile_expression.specs.declared.expression.Expression.{Expression, And', Assert', Backtick, Call', Comparison', Concatenation', Conditional', FormatString', Group', Join', List', ListConcatenation', Not', Or', StringLiteral, Variable, Held-Expression-Assert-1 as OptionalExpression, None', Some', Row_of-Expression as ExpressionRow, end_of-Expression as row_end, more_of-Expression as row_more, Row_of-Expression-FormatString-1-2 as FormatRow, end_of-Expression-FormatString-1-2 as format_row_end, more_of-Expression-FormatString-1-2 as format_row_more}

-- a literal, with its text as bytes
pub record LiteralText : Type 0 where
  pub token : Token
  pub cooked : List ℕ
  pub expand : Bool
  pub kind : StringKind
  pub part : Option FormatStringPart

abbrev pub literal_of : literals.StringLiteral → LiteralText
literal_of literal = record { token = literal.token; cooked = string_bytes literal.cooked; expand = literal.expand; kind = literal.kind; part = literal.part }

-- the fields of an assignment other than its attributes, its value and the derived fields
pub record AssignmentName : Type 0 where
  pub file_depth : ℕ
  pub name : Token
  pub number : Number
  pub prelude : Bool

-- the fields of a recipe other than its attributes, its body and the derived fields
pub record RecipeName : Type 0 where
  pub file_depth : ℕ
  pub import_offsets : List ℕ
  pub name : Token
  pub number : Number

-- a leaf of a parser's tree, with all its fields
pub data Leaf : Type 0 where
  Named : (token : Token) (number : Option Number) → Leaf
  Literal : LiteralText → Leaf
  Command : (token : Token) (cooked : List ℕ) → Leaf
  -- a text in the body of a recipe
  Text : (token : Token) → Leaf
  -- an assignment and a recipe: their names and further fields
  Assigned : AssignmentName → Leaf
  Headed : RecipeName → Leaf

abbrev mutual
  -- the tree of an expression
  pub leaf_tree_of : Expression → Expr Leaf Token
  leaf_tree_of (And' p lhs q rhs) = tree.And (leaf_tree_of lhs) (leaf_tree_of rhs)
  leaf_tree_of (Assert' p condition message name) = assert_tree name.token (leaf_tree_of condition) message
  leaf_tree_of (Backtick contents token) = tree.Backtick (Command token (string_bytes contents))
  leaf_tree_of (Call' name n arguments) = tree.Call (Named name.token None) (trees_of_row arguments)
  leaf_tree_of (Comparison' p lhs operator q rhs token) = tree.Comparison (leaf_tree_of lhs) operator token (leaf_tree_of rhs)
  leaf_tree_of (Concatenation' p lhs operator q rhs) = tree.Concatenation (leaf_tree_of lhs) operator (leaf_tree_of rhs)
  leaf_tree_of (Conditional' p condition q branch otherwise) = conditional_tree (leaf_tree_of condition) (leaf_tree_of branch) otherwise
  leaf_tree_of (FormatString' start n expressions) = format_row_tree (Literal (literal_of start)) expressions
  leaf_tree_of (Group' p contents) = tree.Group (leaf_tree_of contents)
  leaf_tree_of (Join' lhs operator q rhs) = join_tree lhs operator (leaf_tree_of rhs)
  leaf_tree_of (List' n elements opener) = tree.ListOf opener (trees_of_row elements)
  leaf_tree_of (ListConcatenation' p lhs operator q rhs) = tree.ListConcatenation (leaf_tree_of lhs) operator (leaf_tree_of rhs)
  leaf_tree_of (Not' p operand) = tree.Not (leaf_tree_of operand)
  leaf_tree_of (Or' p lhs q rhs) = tree.Or (leaf_tree_of lhs) (leaf_tree_of rhs)
  leaf_tree_of (StringLiteral literal) = tree.StringLiteral literal.expand (Literal (literal_of literal))
  leaf_tree_of (Variable name number) = tree.Variable (Named name.token number)

  pub assert_tree : (name : Token) (condition : Expr Leaf Token) → OptionalExpression → Expr Leaf Token
  assert_tree name condition None' = tree.Assert name condition
  assert_tree name condition (Some' p message) = tree.AssertMessage name condition (leaf_tree_of message)

  pub conditional_tree : (condition branch : Expr Leaf Token) → OptionalExpression → Expr Leaf Token
  conditional_tree condition branch None' = tree.If condition branch
  conditional_tree condition branch (Some' p otherwise) = tree.IfElse condition branch (leaf_tree_of otherwise)

  pub join_tree : OptionalExpression → (operator : Token) (rhs : Expr Leaf Token) → Expr Leaf Token
  join_tree None' operator rhs = tree.Root operator rhs
  join_tree (Some' p lhs) operator rhs = tree.Join (leaf_tree_of lhs) operator rhs

  pub trees_of_row : {n : _} → ExpressionRow n → Exprs Leaf Token
  trees_of_row row_end = tree.none
  trees_of_row (row_more e others) = tree.more (leaf_tree_of e) (trees_of_row others)

  -- the tree of a format string that begins with `start`
  pub format_row_tree : (start : Leaf) → {n : _} → FormatRow n → Expr Leaf Token
  format_row_tree start format_row_end = tree.FormatLiteral start
  format_row_tree start (format_row_more e literal others) = tree.FormatString start (leaf_tree_of e) (parts_row_tree (Literal (literal_of literal)) others)

  -- the parts of a format string, from this one on
  pub parts_row_tree : Leaf → {n : _} → FormatRow n → Parts Leaf Token
  parts_row_tree token format_row_end = tree.Last token
  parts_row_tree token (format_row_more e literal others) = tree.Continue token (leaf_tree_of e) (parts_row_tree (Literal (literal_of literal)) others)

-- the trees of several expressions
abbrev pub trees_of : List Expression → Exprs Leaf Token
trees_of [] = tree.none
trees_of (e ∷ es) = tree.more (leaf_tree_of e) (trees_of es)

-- the parts of a format string, from this one on
abbrev pub parts_tree : Leaf → List (Expression × literals.StringLiteral) → Parts Leaf Token
parts_tree token [] = tree.Last token
parts_tree token (x ∷ xs) = tree.Continue token (leaf_tree_of x.0) (parts_tree (Literal (literal_of x.1)) xs)

-- the tree of a format string that begins with `start`
abbrev pub format_string_tree : List (Expression × literals.StringLiteral) → (start : Leaf) → Expr Leaf Token
format_string_tree [] start = tree.FormatLiteral start
format_string_tree (x ∷ xs) start = tree.FormatString start (leaf_tree_of x.0) (parts_tree (Literal (literal_of x.1)) xs)
