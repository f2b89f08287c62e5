-- The reader of tables, whose trees hold all that the parser's trees hold. A law says that it reads the same trees as the definitions over
-- tokens.
use Rattle.std.specs.Prelude.{ℕ, ◌-◌, ◌^◌, Bool, true, false, List, [], ◌∷◌, Option, Some, None, Ok, Err, not, ◌==◌, if◌then◌else◌}
use Rattle.justfile_numbers.specs.Numerator.{number_of}
use Rattle.justfile_token.specs.StringKind.{kind_of}
use Rattle.justfile_token.specs.Token.{lexeme_of}
use Rattle.justfile_vocabulary.specs.declared.format_string_part.FormatStringPart.{FormatStringPart}
use Rattle.justfile_vocabulary.specs.declared.format_string_part.FormatStringPart.TheVariants as string_parts
use Rattle.justfile_token.specs.declared.string_kind.StringKind.{StringKind}
use Rattle.justfile_token.specs.declared.token.Token.{Token}
use Rattle.justfile_vocabulary.specs.declared.token_kind.TokenKind.{TokenKind}
use Rattle.justfile_vocabulary.specs.declared.token_kind.TokenKind.TheVariants as kinds
use Rattle.justfile_model.specs.LiteralTexts.Literals as literals
use Rattle.justfile_model.specs.Grammars.Conditions.{Conditions}
use Rattle.justfile_model.specs.LiteralTexts.Literals.{cooked_format_text}
use Rattle.justfile_model.specs.Trees.Tree as tree
use Rattle.justfile_model.specs.Trees.Tree.{Expr}
use Rattle.justfile_model.specs.Grammars.Features.{called, uncompared}
use Rattle.justfile_model.specs.Readers.ExpressionReader as expressions
use Rattle.justfile_model.specs.Readers.ReaderState as reading
use Rattle.justfile_model.specs.Readers.ReaderState.{◌>>=◌, Leaves, refused, with}
use Rattle.justfile_parse_expression.specs.Significant.{significant_of}
use Rattle.justfile_expression.specs.LeafTree.{Leaf, Named, Literal, Command, Text, Assigned, Headed}
use Rattle.justfile_model.specs.declared.level.Level.{Level}
use Rattle.justfile_model.specs.declared.level.Level.TheVariants.{Expression, Disjunct, Compared, Conjunct, Value}
use Rattle.justfile_model.specs.Trees.Operators.{operator_of}
use Rattle.justfile_model.specs.declared.operator.Operator.{Operator}
use Rattle.justfile_parse_expression.specs.Significant.{TableToken}

-- what stays the same while a file is read
pub record Run : Type 0 where
  pub conditions : Conditions
  pub table : List TableToken
  pub file_depth : ℕ
  pub import_offsets : List ℕ

-- ---- what a tree holds

-- a literal with its text, and how it was written
abbrev pub literal_leaf : Token → literals.Literal (List ℕ) → List ℕ → Leaf
literal_leaf token (literals.Plain lexeme) text = Literal (record { token = token; cooked = text; expand = false; kind = kind_of lexeme; part = None })
literal_leaf token (literals.Expanded lexeme) text = Literal (record { token = token; cooked = text; expand = true; kind = kind_of lexeme; part = None })
literal_leaf token (literals.Command lexeme) text = Command token text
literal_leaf token (literals.Single lexeme) text = Literal (record { token = token; cooked = text; expand = false; kind = kind_of lexeme; part = Some string_parts.Single })
literal_leaf token (literals.Start lexeme) text = Literal (record { token = token; cooked = text; expand = false; kind = kind_of lexeme; part = Some string_parts.Start })
literal_leaf token (literals.Continue start lexeme) text = Literal (record { token = token; cooked = text; expand = false; kind = kind_of start; part = Some string_parts.Continue })
literal_leaf token (literals.End start lexeme) text = Literal (record { token = token; cooked = text; expand = false; kind = kind_of start; part = Some string_parts.End })

abbrev pub assigned_leaf : Run → Token → ℕ → Leaf
assigned_leaf run name number = Assigned (record { file_depth = run.file_depth; name = name; number = number_of number; prelude = false })

abbrev pub headed_leaf : Run → Token → ℕ → Leaf
headed_leaf run name number = Headed (record { file_depth = run.file_depth; import_offsets = run.import_offsets; name = name; number = number_of number })

unfoldable pub leaves : Leaves Run TableToken Leaf Token (Unit {0})
leaves = record {
  conditions = λ run. run.conditions;
  see = significant_of;
  position = λ t. t.0;
  name = λ t. Named t.0 None;
  literal = λ t literal text. literal_leaf t.0 literal text;
  text = λ t. Text t.0;
  star = λ t. tt;
  parameter = λ run t rules number. Named t.0 (Some (number_of number));
  function_parameter = λ run t number. Named t.0 (Some (number_of number));
  assignment = λ run t number. assigned_leaf run t.0 number;
  recipe = λ run t number body. headed_leaf run t.0 number;
  has_number = λ n. not (n == 2 ^ 32 - 1);
}

-- ---- the reader of tables

abbrev pub State : Type 0
State = reading.State Run TableToken Token

-- the state at the front of a table, with no expression open
abbrev pub begin : Run → State
begin run = record { run = run; depth = 0; left = run.table; noted = [] }

abbrev pub ReadError : Type 0
ReadError = reading.ReadError TableToken Token

abbrev pub Read : Type 0 → Type 0
Read X = reading.Read Run TableToken Token X

abbrev pub ReadExpr : Type 0
ReadExpr = Read (Expr Leaf Token)

abbrev pub Place : Type 0
Place = expressions.Place Run TableToken Token

abbrev pub At : Level → (condition : Bool) → State → Place
At level condition s = expressions.At level condition s

abbrev pub Conditional : TableToken → State → Place
Conditional word s = expressions.Conditional word s

abbrev pub Sequence : TokenKind → State → Place
Sequence closing s = expressions.Sequence closing s

abbrev pub read : (x : Place) → expressions.Out leaves x
read = expressions.read leaves

abbrev pub accept : TokenKind → State → Option (TableToken × State)
accept = reading.accept leaves

abbrev pub accept_keyword : List ℕ → State → Option (TableToken × State)
accept_keyword = reading.accept_keyword leaves

abbrev pub accept_marked : List ℕ → TokenKind → State → Option (TableToken × State)
accept_marked = reading.accept_marked leaves

-- whether an expression may be opened
abbrev pub is_within : Level → State → Bool
is_within level s = expressions.is_within s.run.conditions.limit level s

abbrev pub accept_operator : Level → State → Option (Operator × TableToken × State)
accept_operator = expressions.accept_operator leaves

abbrev pub expect : TokenKind → State → Read TableToken
expect = reading.expect leaves

abbrev pub next_are : List TokenKind → State → Bool
next_are = reading.next_are leaves

-- a string, with its text expanded or not
unfoldable pub string_leaf : (expanded : Bool) → TableToken × State → Read Leaf
string_leaf expanded = expressions.cooked leaves (λ leaf. leaf) (literals.string_of expanded)

abbrev pub literal_string : (expanded : Bool) → TableToken × State → ReadExpr
literal_string = expressions.literal_string leaves

abbrev pub whole_format_string : TableToken × State → ReadExpr
whole_format_string = expressions.whole_format_string leaves

abbrev pub backtick : TableToken × State → ReadExpr
backtick = expressions.backtick leaves

abbrev pub literal : State → Read (Option (Expr Leaf Token))
literal = expressions.literal leaves

-- a part of a format string with delimiters of a kind
unfoldable pub part_by : StringKind → FormatStringPart → TableToken × State → Read Leaf
part_by kind part x =
    expressions.by_text leaves (λ text. Literal (record { token = x.0.0; cooked = text; expand = false; kind = kind; part = Some part })) x (cooked_format_text kind part (lexeme_of x.0.0))

abbrev pub part : (start : List ℕ) → State → Read (Leaf × Bool)
part = expressions.part leaves

-- opens an expression of a level, up to the limit of depth
unfoldable pub enter : Level → State → Read (Unit {0})
enter level s = if is_within level s then Ok (tt, expressions.opened level s) else Err (refused reading.TooDeep s)

-- an operator of a level after its left side, and its right side; the left side alone if there is no such operator
unfoldable pub operation : Level → (condition : Bool) → Expr Leaf Token × State → ReadExpr
operation level condition lhs = expressions.binary_tail leaves read level condition lhs (accept_operator level lhs.1)

-- the operators of the levels from comparisons up to this one after a conjunct, each with its right side; the levels below have none
unfoldable pub operations : Level → (condition : Bool) → Expr Leaf Token × State → ReadExpr
operations Expression condition lhs = operation Compared condition lhs >>= operation Disjunct condition >>= operation Expression condition
operations Disjunct condition lhs = operation Compared condition lhs >>= operation Disjunct condition
operations Compared condition lhs = operation Compared condition lhs
operations Conjunct condition lhs = Ok lhs
operations Value condition lhs = Ok lhs

-- the operator that comes next, if one does
abbrev pub front_operator : List TableToken → Option Operator
front_operator [] = None
front_operator (t ∷ ts) = operator_of t.0.kind

-- an expression and the delimiter after it
unfoldable pub enclosed : TokenKind → State → ReadExpr
enclosed closing s = do
  e ← read (At Expression false s)
  x ← expect closing e.1
  Ok (e.0, x.1)

abbrev pub condition : State → ReadExpr
condition = expressions.condition leaves

-- notes a condition that isn't a comparison, at its first token
abbrev pub note_first : Expr Leaf Token → (first : Option TableToken) → State → State
note_first e None s = s
note_first e (Some first) s = with (uncompared e first.0) s

abbrev pub braced : State → ReadExpr
braced = expressions.braced leaves

abbrev pub ended_by : Bool → Expr Leaf Token → State → ReadExpr
ended_by = expressions.ended_by leaves

abbrev pub element : TokenKind → State → Read (Expr Leaf Token × Bool)
element = expressions.element leaves

-- an expression of a format string and the part after it, and whether that part is the last
unfoldable pub pair : (start : List ℕ) → State → Read (Expr Leaf Token × Leaf × Bool)
pair start s = do
  e ← read (At Expression false s)
  p ← part start e.1
  Ok ((e.0, p.0.0, p.0.1), p.1)

-- what follows the start of a format string, as a function of that start
unfoldable pub format_parts : (start : List ℕ) → State → Read (Leaf → Expr Leaf Token)
format_parts start s = do
  e ← read (At Expression false s)
  ps ← read (expressions.FormatParts start e.1)
  Ok ((λ leaf. tree.FormatString leaf e.0 ps.0), ps.1)

abbrev pub format_string : TableToken × State → ReadExpr
format_string = expressions.format_string leaves

abbrev pub value : State → ReadExpr
value = expressions.value leaves

abbrev pub format : State → ReadExpr
format = expressions.format leaves

abbrev pub assert : State → ReadExpr
assert = expressions.assert leaves

abbrev pub name : State → ReadExpr
name = expressions.name leaves

-- a call, after its name and the opening parenthesis
unfoldable pub call : TableToken → State → ReadExpr
call word s = do
  es ← read (expressions.Sequence kinds.ParenR s)
  Ok (tree.Call (Named word.0 None) es.0, with (called (lexeme_of word.0) word.0) es.1)

abbrev pub group : State → ReadExpr
group = expressions.group leaves

abbrev pub list : State → ReadExpr
list = expressions.list leaves
