-- The tree of an expression: the definitions' view of the code's type.
use Rattle.std.specs.Prelude.{ℕ, List, [], ◌∷◌, ◌++◌, string_bytes}
use Rattle.justfile_token.specs.declared.string_literal.StringLiteral as literals
use Rattle.justfile_token.specs.StringLiteral.{format_mark, literal_text}
use Rattle.justfile_token.specs.Token.{lexeme_of}
use Rattle.justfile_model.specs.Lexing.Tok.{Tok, tok_of}
use Rattle.justfile_model.specs.Trees.Tree as tree
use Rattle.justfile_model.specs.Trees.Tree.{Expr, Exprs, Parts, over_expr, lexeme, nothing}
use Rattle.justfile_expression.specs.declared.expression.Expression.{Expression, And', Assert', Backtick, Call', Comparison', Concatenation', Conditional', FormatString', Group', Join', List', ListConcatenation', Not', Or', StringLiteral, Variable, Held-Expression-Assert-1 as OptionalExpression, None', Some', Row_of-Expression as ExpressionRow, end_of-Expression as row_end, more_of-Expression as row_more, Row_of-Expression-FormatString-1-2 as FormatRow, end_of-Expression-FormatString-1-2 as format_row_end, more_of-Expression-FormatString-1-2 as format_row_more}

-- the token of a literal, with the mark `f` if it begins a format string
abbrev pub literal_tok : literals.StringLiteral → Tok
literal_tok literal = record (tok_of literal.token) { lexeme = format_mark literal ++ lexeme_of literal.token }

-- the token of a later part of a format string, with the part's own marks
abbrev pub part_tok : literals.StringLiteral → Tok
part_tok literal = record (tok_of literal.token) { lexeme = literal_text literal }

abbrev mutual
  -- the tree of an expression
  pub expr_of : Expression → Expr Tok Tok
  expr_of (And' p lhs q rhs) = tree.And (expr_of lhs) (expr_of rhs)
  expr_of (Assert' p condition message name) = assert_of (tok_of name.token) (expr_of condition) message
  expr_of (Backtick contents token) = tree.Backtick (tok_of token)
  expr_of (Call' name n arguments) = tree.Call (tok_of name.token) (exprs_of_row arguments)
  expr_of (Comparison' p lhs operator q rhs token) = tree.Comparison (expr_of lhs) operator (tok_of token) (expr_of rhs)
  expr_of (Concatenation' p lhs operator q rhs) = tree.Concatenation (expr_of lhs) (tok_of operator) (expr_of rhs)
  expr_of (Conditional' p condition q branch otherwise) = conditional_of (expr_of condition) (expr_of branch) otherwise
  expr_of (FormatString' start n expressions) = format_of (tok_of start.token) expressions
  expr_of (Group' p contents) = tree.Group (expr_of contents)
  expr_of (Join' lhs operator q rhs) = join_of lhs (tok_of operator) (expr_of rhs)
  expr_of (List' n elements opener) = tree.ListOf (tok_of opener) (exprs_of_row elements)
  expr_of (ListConcatenation' p lhs operator q rhs) = tree.ListConcatenation (expr_of lhs) (tok_of operator) (expr_of rhs)
  expr_of (Not' p operand) = tree.Not (expr_of operand)
  expr_of (Or' p lhs q rhs) = tree.Or (expr_of lhs) (expr_of rhs)
  expr_of (StringLiteral literal) = tree.StringLiteral literal.expand (literal_tok literal)
  expr_of (Variable name number) = tree.Variable (tok_of name.token)

  pub assert_of : (name : Tok) (condition : Expr Tok Tok) → OptionalExpression → Expr Tok Tok
  assert_of name condition None' = tree.Assert name condition
  assert_of name condition (Some' p message) = tree.AssertMessage name condition (expr_of message)

  pub conditional_of : (condition branch : Expr Tok Tok) → OptionalExpression → Expr Tok Tok
  conditional_of condition branch None' = tree.If condition branch
  conditional_of condition branch (Some' p otherwise) = tree.IfElse condition branch (expr_of otherwise)

  pub join_of : OptionalExpression → (operator : Tok) (rhs : Expr Tok Tok) → Expr Tok Tok
  join_of None' operator rhs = tree.Root operator rhs
  join_of (Some' p lhs) operator rhs = tree.Join (expr_of lhs) operator rhs

  pub exprs_of_row : {n : _} → ExpressionRow n → Exprs Tok Tok
  exprs_of_row row_end = tree.none
  exprs_of_row (row_more e others) = tree.more (expr_of e) (exprs_of_row others)

  -- the tree of a format string that begins with `start`
  pub format_of : (start : Tok) → {n : _} → FormatRow n → Expr Tok Tok
  format_of start format_row_end = tree.FormatLiteral start
  format_of start (format_row_more e literal others) = tree.FormatString start (expr_of e) (parts_of_row (part_tok literal) others)

  -- the parts of a format string, from this one on
  pub parts_of_row : Tok → {n : _} → FormatRow n → Parts Tok Tok
  parts_of_row token format_row_end = tree.Last token
  parts_of_row token (format_row_more e literal others) = tree.Continue token (expr_of e) (parts_of_row (part_tok literal) others)

-- the trees of several expressions
abbrev pub exprs_of : List Expression → Exprs Tok Tok
exprs_of [] = tree.none
exprs_of (e ∷ es) = tree.more (expr_of e) (exprs_of es)

-- the shape of an expression: its tree with lexemes in place of tokens
abbrev pub expr_shape : Expression → Expr (List ℕ) (Unit {0})
expr_shape e = over_expr lexeme nothing (expr_of e)

abbrev mutual
  -- the texts of its literals and commands, in order
  pub expr_cooked : Expression → List (List ℕ)
  expr_cooked (And' p lhs q rhs) = expr_cooked lhs ++ expr_cooked rhs
  expr_cooked (Assert' p condition message name) = expr_cooked condition ++ optional_cooked message
  expr_cooked (Backtick contents token) = string_bytes contents ∷ []
  expr_cooked (Call' name n arguments) = exprs_cooked arguments
  expr_cooked (Comparison' p lhs operator q rhs token) = expr_cooked lhs ++ expr_cooked rhs
  expr_cooked (Concatenation' p lhs operator q rhs) = expr_cooked lhs ++ expr_cooked rhs
  expr_cooked (Conditional' p condition q branch otherwise) = expr_cooked condition ++ expr_cooked branch ++ optional_cooked otherwise
  expr_cooked (FormatString' start n expressions) = string_bytes start.cooked ∷ parts_cooked expressions
  expr_cooked (Group' p contents) = expr_cooked contents
  expr_cooked (Join' lhs operator q rhs) = optional_cooked lhs ++ expr_cooked rhs
  expr_cooked (List' n elements opener) = exprs_cooked elements
  expr_cooked (ListConcatenation' p lhs operator q rhs) = expr_cooked lhs ++ expr_cooked rhs
  expr_cooked (Not' p operand) = expr_cooked operand
  expr_cooked (Or' p lhs q rhs) = expr_cooked lhs ++ expr_cooked rhs
  expr_cooked (StringLiteral literal) = string_bytes literal.cooked ∷ []
  expr_cooked (Variable name number) = []

  pub optional_cooked : OptionalExpression → List (List ℕ)
  optional_cooked None' = []
  optional_cooked (Some' p e) = expr_cooked e

  pub exprs_cooked : {n : _} → ExpressionRow n → List (List ℕ)
  exprs_cooked row_end = []
  exprs_cooked (row_more e others) = expr_cooked e ++ exprs_cooked others

  pub parts_cooked : {n : _} → FormatRow n → List (List ℕ)
  parts_cooked format_row_end = []
  parts_cooked (format_row_more e literal others) = expr_cooked e ++ string_bytes literal.cooked ∷ parts_cooked others
