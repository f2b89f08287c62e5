-- The derived values: what the parser adds to the parts of a tree besides their tokens.
use Rattle.std.specs.Prelude.{IfSome, ◌≡◌, ◌≤◌, ◌↔◌, ◌⊎◌, ℕ, ◌+◌, length, map, Bool, false, List, Option, Some, None, Ok, IsSomeAnd, IsTrue, string_bytes, Contains, All}
use Rattle.justfile_attribute.specs.Form as forms
use Rattle.justfile_attribute.specs.Form.{Form, form_of}
use Rattle.justfile_attribute.specs.New.{HasDerivedAttributeFields}
use Rattle.justfile_attribute.specs.declared.attribute.Attribute.{Attribute}
use Rattle.justfile_attribute.specs.declared.interpreter.Interpreter.{Interpreter}
use Rattle.justfile_attribute_set.specs.AttributeSet.{AttributeSet, attributes_of, written_of}
use Rattle.justfile_attribute_set.specs.Attributes.{has_kind}
use Rattle.justfile_attribute_set.specs.Pairs.{Pair}
use Rattle.justfile_vocabulary.specs.declared.attribute_kind.AttributeKind.TheVariants as kinds
use Rattle.justfile_token.specs.declared.name.Name.{Name}
use Rattle.justfile_vocabulary.specs.declared.format_string_part.FormatStringPart.{FormatStringPart}
use Rattle.justfile_vocabulary.specs.declared.format_string_part.FormatStringPart.TheVariants as parts
use Rattle.justfile_token.specs.declared.string_kind.StringKind.{StringKind}
use Rattle.std.specs.Global.{Box}
use Rattle.std.specs.List.{flat_map, slice_get}
use Rattle.justfile_vocabulary.specs.Indentation.{indentation_text}
use Rattle.justfile_token.specs.Namepath.{names_in}
use Rattle.justfile_numbers.specs.Numerator.{bindings_of, recipes_of}
use Rattle.justfile_token.specs.StringKind.{kind_of}
use Rattle.justfile_token.specs.Token.{lexeme_of}
use Rattle.justfile_token.specs.declared.namepath.Namepath.{Namepath}
use Rattle.justfile_numbers.specs.declared.number.Number.{Number}
use Rattle.justfile_numbers.specs.declared.numerator.Numerator.{Numerator}
use Rattle.justfile_token.specs.declared.string_literal.StringLiteral as literals
use Rattle.justfile_token.specs.declared.token.Token.{Token}
use Rattle.justfile_literal.specs.Literal.{IsPartOf}
use Rattle.justfile_line.specs.declared.fragment.Fragment.{Fragment}
use Rattle.justfile_line.specs.declared.fragment.Fragment.TheVariants as fragments
use Rattle.justfile_line.specs.declared.line.Line.{Line}
use Rattle.justfile_line.specs.Line.{IsShebang}
use Rattle.justfile_item.specs.declared.alias.Alias as aliases
use Rattle.justfile_item.specs.declared.binding.Binding.{Binding}
use Rattle.justfile_item.specs.declared.function_definition.FunctionDefinition.{FunctionDefinition}
use Rattle.justfile_item.specs.declared.item.Item.{Item}
use Rattle.justfile_item.specs.declared.item.Item.TheVariants.{Alias, Assignment, Comment, Function, Import, Module, Newline, Recipe, Setting, Unexport}
use Rattle.justfile_item.specs.declared.recipe.UnresolvedRecipe.{UnresolvedRecipe}
use Rattle.justfile_item.specs.declared.set.Set.{Set}
use Rattle.justfile_item.specs.Item.{item_of, item_numbers, item_recipe_numbers}
use Rattle.justfile_recipe_header.specs.declared.parameter.Parameter.{Parameter}
use Rattle.justfile_recipe_header.specs.declared.unresolved_dependency.DependencyArgument.{DependencyArgument}
use Rattle.justfile_recipe_header.specs.declared.unresolved_dependency.UnresolvedDependency.{UnresolvedDependency}
use Rattle.justfile_model.specs.Grammars.Files.{NumbersFrom, bindings, recipes}
use Rattle.justfile_model.specs.LiteralTexts.Literals.{Expansions, Command, cooked_text, string_of}
use Rattle.justfile_vocabulary.specs.declared.list_feature.ListFeature.{ListFeature}
use Rattle.justfile_expression.specs.declared.expression.Expression.{Expression, And', Assert', Backtick, Call', Comparison', Concatenation', Conditional', FormatString', Group', Join', List', ListConcatenation', Not', Or', StringLiteral, Variable, Held-Expression-Assert-1 as OptionalExpression, None', Some', Row_of-Expression as ExpressionRow, end_of-Expression as row_end, more_of-Expression as row_more, Row_of-Expression-FormatString-1-2 as FormatRow, end_of-Expression-FormatString-1-2 as format_row_end, more_of-Expression-FormatString-1-2 as format_row_more}
use Rattle.justfile_parse_item.specs.DerivedFields.{is_private_item}
use Rattle.justfile_parse_expression.specs.Significant.{TableToken}
use Rattle.justfile_parse_header.specs.ArgAttribute.{HaveDerivedParameterFields}
use Rattle.justfile_parse_header.specs.Tree.{rules_of}
use Rattle.justfile_setting.specs.Setting.{Content, ExpressionContent, IndentationContent, InterpreterContent, PlainContent, TruthContent, content_of}
use Rattle.justfile_setting.specs.declared.setting.Setting as values

-- The token is in the table.
pub record IsInTable (table : List TableToken) (token : Token) : Type 0 where
  pub glued : Bool
  pub among : Contains table (token, glued)

-- Each feature was noted at a token of the table.
pub record AreNotedIn (table : List TableToken) (features : List (ListFeature × Token)) : Type 0 where
  pub all : All (λ (x : ListFeature × Token). IsInTable table x.1) features

-- The literal has a token that `IsToken` allows, and its text, which is expanded if the literal is marked so. It isn't part of a format
-- string.
pub record IsFilledLiteral (expander : Expansions) (IsToken : Token → Type 0) (literal : literals.StringLiteral) : Type 0 where
  pub among : IsToken literal.token
  pub cooked : cooked_text expander (string_of literal.expand (lexeme_of literal.token)) ≡ Ok (string_bytes literal.cooked)
  pub kind : literal.kind ≡ kind_of (lexeme_of literal.token)
  pub part : literal.part ≡ None

-- The command between backticks has a token that `IsToken` allows, and its text.
pub record IsFilledCommand (expander : Expansions) (IsToken : Token → Type 0) (contents : List ℕ) (token : Token) : Type 0 where
  pub among : IsToken token
  pub cooked : cooked_text expander (Command (lexeme_of token)) ≡ Ok contents

-- The part of a format string of this kind has a token that `IsToken` allows, and its text.
pub record IsFilledPart (IsToken : Token → Type 0) (kind : StringKind) (part : FormatStringPart) (literal : literals.StringLiteral) : Type 0 where
  pub among : IsToken literal.token
  pub is : IsPartOf kind part literal.token literal

-- the kind of part that a format string begins with, by what follows it
abbrev pub first_part : {n : _} → FormatRow n → FormatStringPart
first_part format_row_end = parts.Single
first_part (format_row_more e literal others) = parts.Start

-- the kind of part after an expression of a format string, by what follows it
abbrev pub later_part : {n : _} → FormatRow n → FormatStringPart
later_part format_row_end = parts.End
later_part (format_row_more e literal others) = parts.Continue

module _ (expander : Expansions) (IsToken : Token → Type 0) where
  abbrev mutual
    -- The expression's names, operators and keywords are tokens that `IsToken` allows. Its literals have their texts. No name is resolved.
    pub IsFilledExpression : Expression → Type 0
    IsFilledExpression (And' p lhs q rhs) = IsFilledExpression lhs × IsFilledExpression rhs
    IsFilledExpression (Assert' p condition message name) = IsFilledExpression condition × IsFilledOptional message × IsToken name.token
    IsFilledExpression (Backtick contents token) = IsFilledCommand expander IsToken (string_bytes contents) token
    IsFilledExpression (Call' name n arguments) = IsToken name.token × AreFilledExpressions arguments
    IsFilledExpression (Comparison' p lhs operator q rhs token) = IsFilledExpression lhs × IsFilledExpression rhs × IsToken token
    IsFilledExpression (Concatenation' p lhs operator q rhs) = IsFilledExpression lhs × IsToken operator × IsFilledExpression rhs
    IsFilledExpression (Conditional' p condition q branch otherwise) = IsFilledExpression condition × IsFilledExpression branch × IsFilledOptional otherwise
    IsFilledExpression (FormatString' start n expressions) =
        IsFilledPart IsToken (kind_of (lexeme_of start.token)) (first_part expressions) start × AreFilledParts (kind_of (lexeme_of start.token)) expressions
    IsFilledExpression (Group' p contents) = IsFilledExpression contents
    IsFilledExpression (Join' lhs operator q rhs) = IsFilledOptional lhs × IsToken operator × IsFilledExpression rhs
    IsFilledExpression (List' n elements opener) = AreFilledExpressions elements × IsToken opener
    IsFilledExpression (ListConcatenation' p lhs operator q rhs) = IsFilledExpression lhs × IsToken operator × IsFilledExpression rhs
    IsFilledExpression (Not' p operand) = IsFilledExpression operand
    IsFilledExpression (Or' p lhs q rhs) = IsFilledExpression lhs × IsFilledExpression rhs
    IsFilledExpression (StringLiteral literal) = IsFilledLiteral expander IsToken literal
    IsFilledExpression (Variable name number) = IsToken name.token × (number ≡ None)

    pub IsFilledOptional : OptionalExpression → Type 0
    IsFilledOptional None' = Unit {0}
    IsFilledOptional (Some' p e) = IsFilledExpression e

    pub AreFilledExpressions : {n : _} → ExpressionRow n → Type 0
    AreFilledExpressions row_end = Unit {0}
    AreFilledExpressions (row_more e others) = IsFilledExpression e × AreFilledExpressions others

    -- The expressions and parts after the start of a format string of this kind have their derived values.
    pub AreFilledParts : (kind : StringKind) → {n : _} → FormatRow n → Type 0
    AreFilledParts kind format_row_end = Unit {0}
    AreFilledParts kind (format_row_more e literal others) =
        IsFilledExpression e × IsFilledPart IsToken kind (later_part others) literal × AreFilledParts kind others

module _ (expander : Expansions) (IsToken : Token → Type 0) where
  -- The expression in the box has its derived values.
  abbrev pub IsFilledBoxed : Box Expression → Type 0
  IsFilledBoxed e = IsFilledExpression expander IsToken e.value

  -- The key is a token that `IsToken` allows, and its value has its derived values.
  abbrev pub IsFilledProperty : Name × Box Expression → Type 0
  IsFilledProperty p = IsToken p.0.token × IsFilledBoxed p.1

  -- The key without a value, or the literal of an option, has its derived values.
  abbrev pub IsFilledOption : (key : Option Name) → Option literals.StringLiteral → Type 0
  IsFilledOption (Some key) literal = IsToken key.token
  IsFilledOption None literal = IfSome literal (IsFilledLiteral expander IsToken)

  -- The key of a number is a token that `IsToken` allows.
  abbrev pub IsFilledCount : (key : Option Name) → Option ℕ → Type 0
  IsFilledCount (Some key) (Some count) = IsToken key.token
  IsFilledCount key count = Unit {0}

  abbrev pub IsFilledInterpreter : Interpreter literals.StringLiteral → Type 0
  IsFilledInterpreter i = IsFilledLiteral expander IsToken i.command × All (IsFilledLiteral expander IsToken) i.arguments.items

  -- The keys of what an attribute holds and the tokens of its expressions and literals are tokens that `IsToken` allows, and the literals
  -- have their texts.
  abbrev pub IsFilledForm : Form → Type 0
  IsFilledForm forms.Plain = Unit {0}
  IsFilledForm (forms.Optional value) = IfSome value IsFilledBoxed
  IsFilledForm (forms.Single value) = IsFilledBoxed value
  IsFilledForm (forms.Literal literal) = IsFilledLiteral expander IsToken literal
  IsFilledForm (forms.Literals given) = All (IsFilledLiteral expander IsToken) given
  IsFilledForm (forms.Env key value) = IsFilledBoxed key × IsFilledBoxed value
  IsFilledForm (forms.Signals signals) = Unit {0}
  IsFilledForm (forms.Cache extra inputs outputs) = IfSome extra IsFilledBoxed × IfSome inputs IsFilledBoxed × IfSome outputs IsFilledBoxed
  IsFilledForm (forms.Script interpreter) = IfSome interpreter IsFilledInterpreter
  IsFilledForm (forms.Arg flag help help_property long long_key max max_key min min_key multiple name pattern short short_key value) =
      IfSome flag IsToken × IfSome help_property IsFilledProperty × IsFilledOption long_key long × IsFilledCount max_key max
      × IsFilledCount min_key min × IfSome multiple IsToken × IsFilledLiteral expander IsToken name × IfSome pattern IsFilledProperty
      × IsFilledOption short_key short × IfSome value IsFilledBoxed

  abbrev pub IsFilledAttribute : Attribute → Type 0
  IsFilledAttribute a = IsFilledForm (form_of a)

  -- The attributes of a construct have their derived values, each with the token of its name, and their derived fields are right.
  abbrev pub AreFilledAttributes : AttributeSet → Type 0
  AreFilledAttributes set = All (λ (p : Pair). IsToken p.1.name.token × IsFilledAttribute p.0 × HasDerivedAttributeFields p.0) (written_of set)

  -- The name is a token that `IsToken` allows.
  abbrev pub IsFilledName : Name → Type 0
  IsFilledName name = IsToken name.token

  -- The parameter's name is a token that `IsToken` allows, and its default has its derived values.
  abbrev pub IsFilledParameter : Parameter → Type 0
  IsFilledParameter p = IsFilledName p.name × IfSome p.default (IsFilledExpression expander IsToken)

  abbrev pub IsFilledArgument : DependencyArgument → Type 0
  IsFilledArgument a = IsFilledExpression expander IsToken a.expression

  -- The names in the dependency's path are tokens that `IsToken` allows, and its arguments have their derived values.
  abbrev pub IsFilledDependency : UnresolvedDependency → Type 0
  IsFilledDependency d = All IsFilledName (names_in d.recipe) × All IsFilledArgument d.arguments.items

  -- The command and the arguments of an interpreter setting have their derived values.
  abbrev pub IsFilledCommandLine : Interpreter Expression → Type 0
  IsFilledCommandLine i = IsFilledExpression expander IsToken i.command × All (IsFilledExpression expander IsToken) i.arguments.items

  -- The literals of what a setting has beside its name have their texts. An indentation is that of its literal.
  abbrev pub IsFilledContent : Content → Type 0
  IsFilledContent (TruthContent value) = Unit {0}
  IsFilledContent (ExpressionContent value) = IsFilledExpression expander IsToken value
  IsFilledContent (InterpreterContent command) = IsFilledCommandLine command
  IsFilledContent (PlainContent literal) = IsFilledLiteral expander IsToken literal
  IsFilledContent (IndentationContent literal indentation) = IsFilledLiteral expander IsToken literal × (indentation_text indentation ≡ string_bytes literal.cooked)

  abbrev pub IsFilledSetting : values.Setting → Type 0
  IsFilledSetting s = IsFilledContent (content_of s)

  -- The name of a function's parameter, which has a number, is a token that `IsToken` allows.
  abbrev pub IsFilledNumbered : Name × Number → Type 0
  IsFilledNumbered x = IsFilledName x.0

  -- The literal of a file's path has its derived values.
  abbrev pub IsFilledPath : Option literals.StringLiteral → Type 0
  IsFilledPath relative = IfSome relative (IsFilledLiteral expander IsToken)

pub record IsFilledAlias (expander : Expansions) (IsToken : Token → Type 0) (alias : aliases.Alias Namepath) : Type 0 where
  pub among : IsToken alias.name.token
  pub target : All (IsFilledName expander IsToken) (names_in alias.target)
  pub attributes : AreFilledAttributes expander IsToken alias.attributes

pub record IsFilledBinding (expander : Expansions) (IsToken : Token → Type 0) (file_depth : ℕ) (binding : Binding Expression) : Type 0 where
  pub among : IsToken binding.name.token
  pub file_depth_is : binding.file_depth ≡ file_depth
  pub prelude : binding.prelude ≡ false
  pub private : binding.private ≡ is_private_item binding.name.token binding.attributes
  pub attributes : AreFilledAttributes expander IsToken binding.attributes
  pub value : IsFilledExpression expander IsToken binding.value

pub record IsFilledFunction (expander : Expansions) (IsToken : Token → Type 0) (function : FunctionDefinition) : Type 0 where
  pub among : IsToken function.name.token
  pub parameters : All (IsFilledNumbered expander IsToken) function.parameters.items
  pub body : IsFilledExpression expander IsToken function.body
  pub attributes : AreFilledAttributes expander IsToken function.attributes

pub record IsFilledImport (expander : Expansions) (IsToken : Token → Type 0) (attributes : AttributeSet) (relative : literals.StringLiteral) : Type 0 where
  pub relative_is : IsFilledLiteral expander IsToken relative
  pub attributes_are : AreFilledAttributes expander IsToken attributes

pub record IsFilledModule (expander : Expansions) (IsToken : Token → Type 0) (attributes : AttributeSet) (name : Name) (relative : Option literals.StringLiteral) : Type 0 where
  pub among : IsToken name.token
  pub relative_is : IsFilledPath expander IsToken relative
  pub attributes_are : AreFilledAttributes expander IsToken attributes

pub record IsFilledSet (expander : Expansions) (IsToken : Token → Type 0) (set : Set) : Type 0 where
  pub among : IsToken set.name.token
  pub value : IsFilledSetting expander IsToken set.value
  pub attributes : AreFilledAttributes expander IsToken set.attributes

pub record IsFilledUnexport (expander : Expansions) (IsToken : Token → Type 0) (attributes : AttributeSet) (name : Name) : Type 0 where
  pub among : IsToken name.token
  pub attributes_are : AreFilledAttributes expander IsToken attributes

abbrev pub IsFilledFragment : Expansions → (Token → Type 0) → Fragment → Type 0
IsFilledFragment expander IsToken (fragments.Interpolation expression) = IsFilledExpression expander IsToken expression
IsFilledFragment expander IsToken (fragments.Text token) = IsToken token

abbrev pub IsFilledLine : Expansions → (Token → Type 0) → Line → Type 0
IsFilledLine expander IsToken line = All (IsFilledFragment expander IsToken) line.fragments.items

-- The first line begins with a text that begins with `#!`.
abbrev pub HasShebang : List Line → Type 0
HasShebang lines = IsSomeAnd (slice_get lines 0) IsShebang

pub record IsFilledRecipe (expander : Expansions) (IsToken : Token → Type 0) (file_depth : ℕ) (import_offsets : List ℕ) (recipe : UnresolvedRecipe) : Type 0 where
  pub among : IsToken recipe.name.token
  pub parameters : All (IsFilledParameter expander IsToken) recipe.parameters.items
  -- the parameters have what the recipe's `arg` attributes set
  pub arg_attributes : HaveDerivedParameterFields (rules_of recipe.attributes) recipe.parameters.items
  pub dependencies : All (IsFilledDependency expander IsToken) recipe.dependencies.items
  -- at most all of the dependencies come before `&&`
  pub priors : recipe.priors ≤ length recipe.dependencies.items
  pub body : All (IsFilledLine expander IsToken) recipe.body.items
  pub file_depth_is : recipe.file_depth ≡ file_depth
  pub import_offsets_are : recipe.import_offsets.items ≡ import_offsets
  pub private : recipe.private ≡ is_private_item recipe.name.token recipe.attributes
  pub shebang : IsTrue recipe.shebang ↔ (IsTrue (has_kind kinds.Script (attributes_of recipe.attributes)) ⊎ HasShebang recipe.body.items)
  pub attributes : AreFilledAttributes expander IsToken recipe.attributes

abbrev pub IsFilledItem : Expansions → (Token → Type 0) → ℕ → List ℕ → Item → Type 0
IsFilledItem expander IsToken file_depth import_offsets (Alias alias) = IsFilledAlias expander IsToken alias
IsFilledItem expander IsToken file_depth import_offsets (Assignment binding) = IsFilledBinding expander IsToken file_depth binding
IsFilledItem expander IsToken file_depth import_offsets (Comment text) = Unit {0}
IsFilledItem expander IsToken file_depth import_offsets (Function function) = IsFilledFunction expander IsToken function
IsFilledItem expander IsToken file_depth import_offsets (Import attributes optional relative) = IsFilledImport expander IsToken attributes relative
IsFilledItem expander IsToken file_depth import_offsets (Module attributes doc name optional relative) = IsFilledModule expander IsToken attributes name relative
IsFilledItem expander IsToken file_depth import_offsets Newline = Unit {0}
IsFilledItem expander IsToken file_depth import_offsets (Recipe recipe) = IsFilledRecipe expander IsToken file_depth import_offsets recipe
IsFilledItem expander IsToken file_depth import_offsets (Setting set) = IsFilledSet expander IsToken set
IsFilledItem expander IsToken file_depth import_offsets (Unexport attributes name) = IsFilledUnexport expander IsToken attributes name

-- The items have their derived values. Their numbers begin with the next ones of `first`, and those of what follows with the next ones of
-- `next`.
pub record IsFilledItems (expander : Expansions) (IsToken : Token → Type 0) (file_depth : ℕ) (import_offsets : List ℕ) (first next : Numerator) (items : List Item) : Type 0 where
  pub given : All (IsFilledItem expander IsToken file_depth import_offsets) items
  pub numbered : NumbersFrom (bindings_of first) (flat_map item_numbers items)
  pub recipes_numbered : NumbersFrom (recipes_of first) (flat_map item_recipe_numbers items)
  pub counted : bindings_of next ≡ bindings_of first + bindings (map item_of items)
  pub recipes_counted : recipes_of next ≡ recipes_of first + recipes (map item_of items)
