-- An expression as a start text and its children, with the text after each.
use Rattle.std.specs.Prelude.{ℕ, Bool, true, false, Option, None, Some, List, [], ◌∷◌, codes}
use Rattle.std.specs.Borrow.{Bor}
use Rattle.std.specs.Global.{Box}
use Rattle.justfile_token.specs.Token.{lexeme_of}
use Rattle.justfile_token.specs.declared.string_literal.StringLiteral as literals
use Rattle.justfile_model.specs.Printed.Printing.{is_conditional, operator_text}
use Rattle.justfile_expression.specs.Expression.{expr_shape}
use Rattle.justfile_leaves.specs.OtherBranch.{after_other, before_other}
use Rattle.justfile_leaves.specs.Texts.{Texts, text_alone, lexeme_alone, literal_texts, part_texts, texts_of}
use Rattle.justfile_leaves.specs.declared.words.Words.{Words}
use Rattle.justfile_expression.specs.declared.expression.Expression.{Expression, And', Assert', Backtick, Call', Comparison', Concatenation', Conditional', FormatString', Group', Join', List', ListConcatenation', Not', Or', StringLiteral, Variable, Held-Expression-Assert-1 as OptionalExpression, None', Some', items-the_row-Expression, items-the_row-Expression-FormatString-1-2}

-- `none` for an empty list, and otherwise `some`
abbrev pub opening_text : {X : Type 0} → (none some : List ℕ) → List X → List ℕ
opening_text none some [] = none
opening_text none some (x ∷ xs) = some

abbrev pub call_start : (name : List ℕ) → List Expression → Texts
call_start name arguments = record { before = []; marks = []; lexeme = name; after = opening_text (codes "()") (codes "(") arguments }

-- the first part of a format string, which is always marked `f`, whatever its own marks
abbrev pub format_start : (lexeme : List ℕ) → List (Expression × literals.StringLiteral) → Texts
format_start lexeme parts = record { before = []; marks = codes "f"; lexeme = lexeme; after = opening_text [] (codes " ") parts }

abbrev pub list_start : List Expression → Texts
list_start elements = text_alone (opening_text (codes "[]") (codes "[") elements)

-- an optional expression as an `Option`
abbrev pub optional_expression : OptionalExpression → Option Expression
optional_expression None' = None
optional_expression (Some' p e) = Some e

abbrev pub of_option : Option (Box Expression) → Option Expression
of_option None = None
of_option (Some e) = Some e.value

abbrev pub join_start : (lhs : Option Expression) → Texts
join_start None = text_alone (codes "/ ")
join_start (Some lhs) = text_alone []

-- what is written before the first child, or the whole expression if it has no children
abbrev pub start_texts : Expression → Texts
start_texts (And' p lhs q rhs) = text_alone []
start_texts (Assert' p condition message name) = text_alone (codes "assert(")
start_texts (Backtick contents token) = lexeme_alone (lexeme_of token)
start_texts (Call' name n arguments) = call_start (lexeme_of name.token) (items-the_row-Expression _ arguments)
start_texts (Comparison' p lhs operator q rhs token) = text_alone []
start_texts (Concatenation' p lhs operator q rhs) = text_alone []
start_texts (Conditional' p condition q branch otherwise) = text_alone (codes "if ")
start_texts (FormatString' first n expressions) = format_start (lexeme_of first.token) (items-the_row-Expression-FormatString-1-2 _ expressions)
start_texts (Group' p contents) = text_alone (codes "(")
start_texts (Join' lhs operator q rhs) = join_start (optional_expression lhs)
start_texts (List' n elements opener) = list_start (items-the_row-Expression _ elements)
start_texts (ListConcatenation' p lhs operator q rhs) = text_alone []
start_texts (Not' p operand) = text_alone (codes "!")
start_texts (Or' p lhs q rhs) = text_alone []
start_texts (StringLiteral literal) = literal_texts literal
start_texts (Variable name number) = lexeme_alone (lexeme_of name.token)

-- a child of an expression, and what is written after it
abbrev pub Child : Type 0
Child = Expression × Texts

-- the elements of a list, by `last` for the last one and by `inner` for those before it
abbrev pub row_children : {X : Type 0} → (inner last : X → Child) → List X → List Child
row_children inner last [] = []
row_children inner last (x ∷ []) = last x ∷ []
row_children inner last (x ∷ xs) = inner x ∷ row_children inner last xs

abbrev pub then_text : (text : List ℕ) → Expression → Child
then_text text e = (e, text_alone text)

-- an expression of a format string, with the part after it
abbrev pub then_part : (after : List ℕ) → Expression × literals.StringLiteral → Child
then_part after part = (part.0, part_texts part.1 after)

abbrev pub elements_to : (closing : List ℕ) → List Expression → List Child
elements_to closing es = row_children (then_text (codes ", ")) (then_text closing) es

abbrev pub format_children : List (Expression × literals.StringLiteral) → List Child
format_children parts = row_children (then_part (codes " ")) (then_part []) parts

abbrev pub two_children : (lhs : Expression) (between : List ℕ) (rhs : Expression) (closing : List ℕ) → List Child
two_children lhs between rhs closing = then_text between lhs ∷ then_text closing rhs ∷ []

abbrev pub assert_children : (condition : Expression) (message : Option Expression) → List Child
assert_children condition None = then_text (codes ")") condition ∷ []
assert_children condition (Some message) = two_children condition (codes ", ") message (codes ")")

-- the children of a conditional; the `else` branch is written in braces unless it is a conditional
abbrev pub conditional_children : (condition branch : Expression) (otherwise : Option Expression) → List Child
conditional_children condition branch None = two_children condition (codes " { ") branch (codes " }")
conditional_children condition branch (Some other) =
    then_text (codes " { ") condition ∷ two_children branch (before_other (is_conditional (expr_shape other))) other (after_other (is_conditional (expr_shape other)))

abbrev pub join_children : (lhs : Option Expression) (rhs : Expression) → List Child
join_children None rhs = then_text [] rhs ∷ []
join_children (Some lhs) rhs = two_children lhs (codes " / ") rhs []

-- the children of an expression, in the order in which they are written
abbrev pub children : Expression → List Child
children (And' p lhs q rhs) = two_children lhs (codes " && ") rhs []
children (Assert' p condition message name) = assert_children condition (optional_expression message)
children (Backtick contents token) = []
children (Call' name n arguments) = elements_to (codes ")") (items-the_row-Expression _ arguments)
children (Comparison' p lhs operator q rhs token) = two_children lhs (operator_text operator) rhs []
children (Concatenation' p lhs operator q rhs) = two_children lhs (codes " + ") rhs []
children (Conditional' p condition q branch otherwise) = conditional_children condition branch (optional_expression otherwise)
children (FormatString' first n expressions) = format_children (items-the_row-Expression-FormatString-1-2 _ expressions)
children (Group' p contents) = then_text (codes ")") contents ∷ []
children (Join' lhs operator q rhs) = join_children (optional_expression lhs) rhs
children (List' n elements opener) = elements_to (codes "]") (items-the_row-Expression _ elements)
children (ListConcatenation' p lhs operator q rhs) = two_children lhs (codes " ++ ") rhs []
children (Not' p operand) = then_text [] operand ∷ []
children (Or' p lhs q rhs) = two_children lhs (codes " || ") rhs []
children (StringLiteral literal) = []
children (Variable name number) = []

-- a child as the code returns it
abbrev pub child_of : Option (Bor Expression × Words) → Option Child
child_of None = None
child_of (Some c) = Some (c.0.now, texts_of c.1)
