-- The tree of a setting: the definitions' view of the code's type.
use Rattle.std.specs.Prelude.{◌≡◌, ℕ, Bool, true, false, List, [], ◌∷◌, ◌++◌, Option, Some, None, string_bytes}
use Rattle.std.specs.List.{flat_map}
use Rattle.justfile_attribute.specs.declared.interpreter.Interpreter.{Interpreter}
use Rattle.justfile_vocabulary.specs.Indentation.{indentation_text}
use Rattle.justfile_vocabulary.specs.declared.indentation.Indentation.{Indentation}
use Rattle.justfile_vocabulary.specs.declared.keyword.Keyword.{Keyword}
use Rattle.justfile_vocabulary.specs.declared.keyword.Keyword.TheVariants as words
use Rattle.justfile_token.specs.declared.string_literal.StringLiteral.{StringLiteral}
use Rattle.justfile_model.specs.Lexing.Tok.{Tok}
use Rattle.justfile_model.specs.Trees.Tree as tree
use Rattle.justfile_model.specs.Trees.Tree.{Expr, Exprs, SettingValue, lexeme, nothing, over_setting_value}
use Rattle.justfile_expression.specs.Expression.{expr_of, exprs_of, expr_cooked, literal_tok}
use Rattle.justfile_expression.specs.declared.expression.Expression.{Expression}
use Rattle.justfile_setting.specs.declared.setting.Setting.{Setting}
use Rattle.justfile_setting.specs.declared.setting.Setting.TheVariants as settings

-- what a setting has beside its name, by its form
pub data Content : Type 0 where
  TruthContent : Bool → Content
  ExpressionContent : Expression → Content
  InterpreterContent : Interpreter Expression → Content
  PlainContent : StringLiteral → Content
  -- a plain string, and its text as an indentation
  IndentationContent : StringLiteral → Indentation → Content

-- the name of a setting, and what it has beside it
abbrev pub parts_of : Setting → Keyword × Content
parts_of (settings.AllowDuplicateRecipes value) = (words.AllowDuplicateRecipes, TruthContent value)
parts_of (settings.AllowDuplicateVariables value) = (words.AllowDuplicateVariables, TruthContent value)
parts_of (settings.DefaultList value) = (words.DefaultList, TruthContent value)
parts_of (settings.DefaultScript value) = (words.DefaultScript, TruthContent value)
parts_of (settings.DotenvCommand value) = (words.DotenvCommand, ExpressionContent value)
parts_of (settings.DotenvFilename value) = (words.DotenvFilename, ExpressionContent value)
parts_of (settings.DotenvLoad value) = (words.DotenvLoad, TruthContent value)
parts_of (settings.DotenvOverride value) = (words.DotenvOverride, TruthContent value)
parts_of (settings.DotenvPath value) = (words.DotenvPath, ExpressionContent value)
parts_of (settings.DotenvRequired value) = (words.DotenvRequired, TruthContent value)
parts_of (settings.Export value) = (words.Export, TruthContent value)
parts_of (settings.Fallback value) = (words.Fallback, TruthContent value)
parts_of (settings.Guards value) = (words.Guards, TruthContent value)
parts_of (settings.IgnoreComments value) = (words.IgnoreComments, TruthContent value)
parts_of (settings.Indentation literal indentation) = (words.Indentation, IndentationContent literal indentation)
parts_of (settings.Lazy value) = (words.Lazy, TruthContent value)
parts_of (settings.Lists value) = (words.Lists, TruthContent value)
parts_of (settings.MinimumVersion literal) = (words.MinimumVersion, PlainContent literal)
parts_of (settings.NoCd value) = (words.NoCd, TruthContent value)
parts_of (settings.NoExitMessage value) = (words.NoExitMessage, TruthContent value)
parts_of (settings.PositionalArguments value) = (words.PositionalArguments, TruthContent value)
parts_of (settings.Quiet value) = (words.Quiet, TruthContent value)
parts_of (settings.ScriptInterpreter command) = (words.ScriptInterpreter, InterpreterContent command)
parts_of (settings.Shell command) = (words.Shell, InterpreterContent command)
parts_of (settings.Tempdir value) = (words.Tempdir, ExpressionContent value)
parts_of (settings.Unstable value) = (words.Unstable, TruthContent value)
parts_of (settings.WindowsPowerShell value) = (words.WindowsPowershell, TruthContent value)
parts_of (settings.WindowsShell command) = (words.WindowsShell, InterpreterContent command)
parts_of (settings.WorkingDirectory value) = (words.WorkingDirectory, ExpressionContent value)

-- the keyword that is the setting's name
abbrev pub keyword_of : Setting → Keyword
keyword_of s = (parts_of s).0

-- what a setting has beside its name
abbrev pub content_of : Setting → Content
content_of s = (parts_of s).1

-- by functions for the trees of expressions and the leaves of literals
module _ {A B : Type 0} (expression : Expression → Expr A B) (expressions : List Expression → Exprs A B) (leaf : StringLiteral → A) where
  abbrev pub expression_by : Expression → SettingValue A B
  expression_by e = tree.Value (expression e)

  abbrev pub literal_by : StringLiteral → SettingValue A B
  literal_by l = tree.Value (tree.StringLiteral l.expand (leaf l))

  abbrev pub interpreter_by : Interpreter Expression → SettingValue A B
  interpreter_by i = tree.Interpreter (expression i.command) (expressions i.arguments.items)

  abbrev pub content_by : Content → SettingValue A B
  content_by (TruthContent value) = tree.Truth value
  content_by (ExpressionContent value) = expression_by value
  content_by (InterpreterContent command) = interpreter_by command
  content_by (PlainContent literal) = literal_by literal
  content_by (IndentationContent literal indentation) = literal_by literal

  abbrev pub value_by : Setting → SettingValue A B
  value_by s = content_by (content_of s)

-- the tree of a setting's value
abbrev pub value_of : Setting → SettingValue Tok Tok
value_of = value_by expr_of exprs_of literal_tok

-- the shape of a setting's value: its tree with lexemes in place of tokens
abbrev pub value_shape : Setting → SettingValue (List ℕ) (Unit {0})
value_shape s = over_setting_value lexeme nothing (value_of s)

-- the texts of the literals of an interpreter, in order
abbrev pub interpreter_cooked : Interpreter Expression → List (List ℕ)
interpreter_cooked i = expr_cooked i.command ++ flat_map expr_cooked i.arguments.items

-- the texts of the literals, in order
abbrev pub content_cooked : Content → List (List ℕ)
content_cooked (TruthContent value) = []
content_cooked (ExpressionContent value) = expr_cooked value
content_cooked (InterpreterContent command) = interpreter_cooked command
content_cooked (PlainContent literal) = string_bytes literal.cooked ∷ []
content_cooked (IndentationContent literal indentation) = string_bytes literal.cooked ∷ []

-- the texts of a setting's literals, in order
abbrev pub setting_cooked : Setting → List (List ℕ)
setting_cooked s = content_cooked (content_of s)

-- the derived fields are right: an indentation is the text of its literal
abbrev pub HasDerivedContent : Content → Type 0
HasDerivedContent (IndentationContent literal indentation) = indentation_text indentation ≡ string_bytes literal.cooked
HasDerivedContent _ = Unit {0}

-- the derived fields of a setting are right
abbrev pub HasDerivedSettingFields : Setting → Type 0
HasDerivedSettingFields s = HasDerivedContent (content_of s)

-- a value that may be left out: `true`
abbrev pub is_default : {A B : Type 0} → SettingValue A B → Bool
is_default (tree.Truth value) = value
is_default _ = false

-- the truth of a value that is `true` or `false`
abbrev pub truth_of : {A B : Type 0} → SettingValue A B → Option Bool
truth_of (tree.Truth value) = Some value
truth_of _ = None

-- the names of the settings that conflict with this one
abbrev pub conflicts : Setting → List Keyword
conflicts (settings.DotenvCommand value) = words.DotenvFilename ∷ words.DotenvLoad ∷ words.DotenvPath ∷ words.DotenvRequired ∷ []
conflicts (settings.DotenvFilename value) = words.DotenvCommand ∷ []
conflicts (settings.DotenvLoad true) = words.DotenvCommand ∷ []
conflicts (settings.DotenvPath value) = words.DotenvCommand ∷ []
conflicts (settings.DotenvRequired true) = words.DotenvCommand ∷ []
conflicts (settings.NoCd true) = words.WorkingDirectory ∷ []
conflicts (settings.WorkingDirectory value) = words.NoCd ∷ []
conflicts _ = []
