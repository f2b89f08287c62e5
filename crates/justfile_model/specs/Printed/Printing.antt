-- The printed text of a normal shape with an indentation.
use Rattle.std.specs.Prelude.{ℕ, Bool, true, not, ◌&&◌, List, [], ◌∷◌, ◌++◌, ◌==◌, false, codes, Option, Some, None, map, if◌then◌else◌}
use Rattle.std.specs.Fmt.{decimal}
use Rattle.std.specs.List.{flat_map}
use Rattle.justfile_vocabulary.specs.AttributeKind.{attribute_name}
use Rattle.justfile_token.specs.Path.{path_text}
use Rattle.justfile_vocabulary.specs.Signal.{signal_name}
use Rattle.justfile_vocabulary.specs.declared.signal.Signal.{Signal}
use Rattle.justfile_vocabulary.specs.declared.attribute_kind.AttributeKind.TheVariants.{Doc}
use Rattle.justfile_model.specs.Trees.ContentKeys.{has_attribute, kind_of_attribute}
use Rattle.justfile_model.specs.Grammars.Docs.{doc_of}
use Rattle.justfile_model.specs.declared.conditional_operator.ConditionalOperator.{ConditionalOperator}
use Rattle.justfile_model.specs.declared.conditional_operator.ConditionalOperator.TheVariants.{Equality, Inequality, RegexMatch, RegexMismatch}
use Rattle.justfile_model.specs.declared.parameter_kind.ParameterKind.{ParameterKind}
use Rattle.justfile_model.specs.declared.parameter_kind.ParameterKind.TheVariants.{Plus, Singular, Star}
use Rattle.justfile_model.specs.Trees.Tree.{Expr, Or, And, Comparison, Concatenation, ListConcatenation, Join, Root, If, IfElse, Not, StringLiteral, FormatLiteral, FormatString, Backtick, Assert, AssertMessage, Variable, Call, Group, ListOf, Exprs, none, more, Parts, Last, Continue, Fragment, Text, Interpolation, BodyLine, Line, Quoted, Argument, Positional, Bare, Keyed, OptionName, NoOption, OwnName, Named, ArgumentRules, Attribute, Plain, Single, Texts, Env, Signals, Cache, Arg, Entry, Parameter, DependencyArgument, Dependency, Header, AliasParts, AssignmentParts, FunctionParts, ImportParts, ModuleParts, RecipeParts, SettingValue, Truth, Value, Interpreter, SettingParts, Content, Alias, Assignment, Function, Import, Module, Recipe, Setting, Unexport, Item, Newline, Comment, Construct, OrderedItem, Shape}
use Rattle.justfile_vocabulary.specs.ByteNames as byte

-- a fixed part of a text; kept folded in proofs, so that a text stays a sequence of parts
unfoldable pub fixed_text : List ℕ → List ℕ
fixed_text bytes = bytes

-- the mark before the quotes of a literal
abbrev pub mark_text : (expanded : Bool) → List ℕ
mark_text true = fixed_text (codes "x")
mark_text false = []

abbrev pub operator_text : ConditionalOperator → List ℕ
operator_text Equality = fixed_text (codes " == ")
operator_text Inequality = fixed_text (codes " != ")
operator_text RegexMatch = fixed_text (codes " =~ ")
operator_text RegexMismatch = fixed_text (codes " !~ ")

-- the expression is a conditional, with or without `else`; no other case is one
abbrev pub is_conditional : {A B : Type 0} → Expr A B → Bool
is_conditional (If c b) = true
is_conditional (IfElse c b o) = true
is_conditional _ = false

-- the `else` branch: a conditional as it is, and any other expression in braces
abbrev pub other_text : (conditional : Bool) → List ℕ → List ℕ
other_text true text = text
other_text false text = fixed_text (codes "{ ") ++ text ++ fixed_text (codes " }")

abbrev mutual
  pub expr_text : Expr (List ℕ) (Unit {0}) → List ℕ
  expr_text (Or l r) = expr_text l ++ fixed_text (codes " || ") ++ expr_text r
  expr_text (And l r) = expr_text l ++ fixed_text (codes " && ") ++ expr_text r
  expr_text (Comparison l operator token r) = expr_text l ++ operator_text operator ++ expr_text r
  expr_text (Concatenation l operator r) = expr_text l ++ fixed_text (codes " + ") ++ expr_text r
  expr_text (ListConcatenation l operator r) = expr_text l ++ fixed_text (codes " ++ ") ++ expr_text r
  expr_text (Join l operator r) = expr_text l ++ fixed_text (codes " / ") ++ expr_text r
  expr_text (Root operator r) = fixed_text (codes "/ ") ++ expr_text r
  expr_text (If c b) = fixed_text (codes "if ") ++ expr_text c ++ fixed_text (codes " { ") ++ expr_text b ++ fixed_text (codes " }")
  expr_text (IfElse c b o) = fixed_text (codes "if ") ++ expr_text c ++ fixed_text (codes " { ") ++ expr_text b ++ fixed_text (codes " } else ") ++ other_text (is_conditional o) (expr_text o)
  expr_text (Not e) = fixed_text (codes "!") ++ expr_text e
  expr_text (StringLiteral expanded lexeme) = mark_text expanded ++ lexeme
  expr_text (FormatLiteral lexeme) = fixed_text (codes "f") ++ lexeme
  expr_text (FormatString start e parts) = fixed_text (codes "f") ++ start ++ fixed_text (codes " ") ++ expr_text e ++ fixed_text (codes " ") ++ parts_text parts
  expr_text (Backtick lexeme) = lexeme
  expr_text (Assert name c) = fixed_text (codes "assert(") ++ expr_text c ++ fixed_text (codes ")")
  expr_text (AssertMessage name c m) = fixed_text (codes "assert(") ++ expr_text c ++ fixed_text (codes ", ") ++ expr_text m ++ fixed_text (codes ")")
  expr_text (Variable name) = name
  expr_text (Call name arguments) = name ++ fixed_text (codes "(") ++ exprs_text arguments ++ fixed_text (codes ")")
  expr_text (Group e) = fixed_text (codes "(") ++ expr_text e ++ fixed_text (codes ")")
  expr_text (ListOf opener elements) = fixed_text (codes "[") ++ exprs_text elements ++ fixed_text (codes "]")

  -- the expressions, separated by commas and spaces
  pub exprs_text : Exprs (List ℕ) (Unit {0}) → List ℕ
  exprs_text none = []
  exprs_text (more e none) = expr_text e
  exprs_text (more e others) = expr_text e ++ fixed_text (codes ", ") ++ exprs_text others

  pub parts_text : Parts (List ℕ) (Unit {0}) → List ℕ
  parts_text (Last lexeme) = lexeme
  parts_text (Continue lexeme e parts) = lexeme ++ fixed_text (codes " ") ++ expr_text e ++ fixed_text (codes " ") ++ parts_text parts

abbrev pub fragment_text : Fragment (List ℕ) (Unit {0}) → List ℕ
fragment_text (Text lexeme) = lexeme
fragment_text (Interpolation value) = fixed_text (codes "{{ ") ++ expr_text value ++ fixed_text (codes " }}")

-- a line of a body; an empty line isn't indented
abbrev pub body_line_text : (indentation : List ℕ) → BodyLine (List ℕ) (Unit {0}) (Unit {0}) → List ℕ
body_line_text indentation (Line number []) = []
body_line_text indentation (Line number fragments) = indentation ++ flat_map fragment_text fragments

-- the lines of a body, each after a line feed
abbrev pub body_text : (indentation : List ℕ) → List (BodyLine (List ℕ) (Unit {0}) (Unit {0})) → List ℕ
body_text indentation = flat_map (λ line. fixed_text (codes "\n") ++ body_line_text indentation line)

abbrev pub if_some : {X : Type 0} → (X → List ℕ) → Option X → List ℕ
if_some f None = []
if_some f (Some x) = f x

abbrev pub if_true : Bool → List ℕ → List ℕ
if_true true text = text
if_true false text = []

-- ---- attributes, by their printed arguments

abbrev pub quoted_argument : Quoted (List ℕ) → Argument (List ℕ) (Unit {0})
quoted_argument q = Positional tt (StringLiteral q.expanded q.token)

-- a signal in double quotes
abbrev pub signal_argument : Signal → Argument (List ℕ) (Unit {0})
signal_argument s = Positional tt (StringLiteral false (fixed_text (codes "\"") ++ fixed_text (signal_name s) ++ fixed_text (codes "\"")))

-- a key with its value, if the value is present
abbrev pub keyed_if : {X : Type 0} → (word : List ℕ) → (X → Expr (List ℕ) (Unit {0})) → Option X → List (Argument (List ℕ) (Unit {0}))
keyed_if word f None = []
keyed_if word f (Some x) = Keyed (fixed_text word) (f x) ∷ []

abbrev pub bare_if : {X : Type 0} → (word : List ℕ) → Option X → List (Argument (List ℕ) (Unit {0}))
bare_if word None = []
bare_if word (Some x) = Bare (fixed_text word) ∷ []

abbrev pub option_argument : (word : List ℕ) → OptionName (List ℕ) (Unit {0}) → List (Argument (List ℕ) (Unit {0}))
option_argument word NoOption = []
option_argument word (OwnName key) = Bare (fixed_text word) ∷ []
option_argument word (Named q) = Keyed (fixed_text word) (StringLiteral q.expanded q.token) ∷ []

-- a number in single quotes
abbrev pub number_literal : ℕ → Expr (List ℕ) (Unit {0})
number_literal n = StringLiteral false (fixed_text (codes "'") ++ decimal n ++ fixed_text (codes "'"))

abbrev pub rules_arguments : ArgumentRules (List ℕ) (Unit {0}) → List (Argument (List ℕ) (Unit {0}))
rules_arguments a =
    quoted_argument a.name ∷ option_argument (codes "long") a.long ++ option_argument (codes "short") a.short ++ keyed_if (codes "pattern") (λ p. p.value) a.pattern
    ++ keyed_if (codes "value") (λ e. e) a.value ++ bare_if (codes "flag") a.flag ++ bare_if (codes "multiple") a.multiple
    ++ keyed_if (codes "min") (λ b. number_literal b.number) a.min ++ keyed_if (codes "max") (λ b. number_literal b.number) a.max
    ++ keyed_if (codes "help") (λ p. p.value) a.help

abbrev pub cache_arguments : (extra inputs outputs : Option (Expr (List ℕ) (Unit {0}))) → List (Argument (List ℕ) (Unit {0}))
cache_arguments extra inputs outputs = keyed_if (codes "extra") (λ e. e) extra ++ keyed_if (codes "inputs") (λ e. e) inputs ++ keyed_if (codes "outputs") (λ e. e) outputs

abbrev pub attribute_arguments : Attribute (List ℕ) (Unit {0}) → List (Argument (List ℕ) (Unit {0}))
attribute_arguments (Plain kind) = []
attribute_arguments (Single kind value) = Positional tt value ∷ []
attribute_arguments (Texts kind texts) = map quoted_argument texts
attribute_arguments (Env key value) = Positional tt key ∷ Positional tt value ∷ []
attribute_arguments (Signals signals) = map signal_argument signals
attribute_arguments (Cache extra inputs outputs) = cache_arguments extra inputs outputs
attribute_arguments (Arg rules) = rules_arguments rules

-- the text of an argument
abbrev pub argument_text : Argument (List ℕ) (Unit {0}) → List ℕ
argument_text (Positional first value) = expr_text value
argument_text (Bare key) = key
argument_text (Keyed key value) = key ++ fixed_text (codes "=") ++ expr_text value

-- the arguments, separated by commas and spaces
abbrev pub arguments_text : List (Argument (List ℕ) (Unit {0})) → List ℕ
arguments_text [] = []
arguments_text (a ∷ []) = argument_text a
arguments_text (a ∷ arguments) = argument_text a ++ fixed_text (codes ", ") ++ arguments_text arguments

-- the arguments in parentheses, or nothing if there are none
abbrev pub parenthesized_arguments : List (Argument (List ℕ) (Unit {0})) → List ℕ
parenthesized_arguments [] = []
parenthesized_arguments arguments = fixed_text (codes "(") ++ arguments_text arguments ++ fixed_text (codes ")")

-- an attribute as it is printed
abbrev pub attribute_text : Attribute (List ℕ) (Unit {0}) → List ℕ
attribute_text a = fixed_text (attribute_name (kind_of_attribute a)) ++ parenthesized_arguments (attribute_arguments a)

-- a space and the comment at the end of a line, if there is one
abbrev pub after_line_text : Option (List ℕ) → List ℕ
after_line_text None = []
after_line_text (Some comment) = fixed_text (codes " ") ++ comment

-- an attribute with its comment on a line of its own
abbrev pub entry_text : Entry (List ℕ) (Unit {0}) → List ℕ
entry_text e = fixed_text (codes "[") ++ attribute_text e.attribute ++ fixed_text (codes "]") ++ after_line_text e.comment ++ fixed_text (codes "\n")

abbrev pub entries_text : List (Entry (List ℕ) (Unit {0})) → List ℕ
entries_text = flat_map entry_text

-- the comment that a doc is printed as
abbrev pub doc_comment : List ℕ → List ℕ
doc_comment [] = fixed_text (codes "#")
doc_comment doc = fixed_text (codes "# ") ++ doc

-- the comment of a doc, on a line of its own
abbrev pub doc_line : List ℕ → List ℕ
doc_line doc = doc_comment doc ++ fixed_text (codes "\n")

abbrev pub prefix_text : ParameterKind → List ℕ
prefix_text Plus = fixed_text (codes "+")
prefix_text Singular = []
prefix_text Star = fixed_text (codes "*")

abbrev pub parameter_text : Parameter (List ℕ) (Unit {0}) → List ℕ
parameter_text p =
    prefix_text p.kind ++ if_true p.export (fixed_text (codes "$")) ++ p.name ++ if_some (λ e. fixed_text (codes "=") ++ expr_text e) p.default

abbrev pub dependency_argument_text : DependencyArgument (List ℕ) (Unit {0}) (Unit {0}) → List ℕ
dependency_argument_text a = fixed_text (codes " ") ++ if_some (λ star. fixed_text (codes "*")) a.star ++ expr_text a.value

-- a dependency: in parentheses if it has arguments
abbrev pub parenthesized : (star : Option (Unit {0})) (path : List ℕ) → List (DependencyArgument (List ℕ) (Unit {0}) (Unit {0})) → List ℕ
parenthesized star path [] = path
parenthesized star path arguments =
    if_some (λ s. fixed_text (codes "*")) star ++ fixed_text (codes "(") ++ path ++ flat_map dependency_argument_text arguments ++ fixed_text (codes ")")

abbrev pub dependency_text : Dependency (List ℕ) (Unit {0}) (Unit {0}) → List ℕ
dependency_text d = parenthesized d.star (path_text d.path) d.arguments

abbrev pub subsequents_text : List (Dependency (List ℕ) (Unit {0}) (Unit {0})) → List ℕ
subsequents_text [] = []
subsequents_text ds = fixed_text (codes " &&") ++ flat_map (λ d. fixed_text (codes " ") ++ dependency_text d) ds

abbrev pub header_text : Header (List ℕ) (Unit {0}) (Unit {0}) → List ℕ
header_text h =
    if_true h.quiet (fixed_text (codes "@")) ++ h.name ++ flat_map (λ p. fixed_text (codes " ") ++ parameter_text p) h.parameters ++ fixed_text (codes ":")
    ++ flat_map (λ d. fixed_text (codes " ") ++ dependency_text d) h.priors ++ subsequents_text h.subsequents

abbrev pub assignment_text : AssignmentParts (List ℕ) (Unit {0}) → List ℕ
assignment_text a =
    if_true a.eager (fixed_text (codes "eager ")) ++ if_true a.export (fixed_text (codes "export ")) ++ a.name ++ fixed_text (codes " := ") ++ expr_text a.value

abbrev pub alias_text : AliasParts (List ℕ) → List ℕ
alias_text a = fixed_text (codes "alias ") ++ a.name ++ fixed_text (codes " := ") ++ path_text a.target

-- the names, separated by commas and spaces
abbrev pub names_text : List (List ℕ) → List ℕ
names_text [] = []
names_text (name ∷ []) = name
names_text (name ∷ names) = name ++ fixed_text (codes ", ") ++ names_text names

abbrev pub function_text : FunctionParts (List ℕ) (Unit {0}) → List ℕ
function_text f = f.name ++ fixed_text (codes "(") ++ names_text f.parameters ++ fixed_text (codes ") := ") ++ expr_text f.body

abbrev pub file_path_text : Quoted (List ℕ) → List ℕ
file_path_text q = mark_text q.expanded ++ q.token

abbrev pub import_text : ImportParts (List ℕ) → List ℕ
import_text i = fixed_text (codes "import") ++ if_true i.optional (fixed_text (codes "?")) ++ fixed_text (codes " ") ++ file_path_text i.path

abbrev pub module_text : ModuleParts (List ℕ) → List ℕ
module_text m =
    fixed_text (codes "mod") ++ if_true m.optional (fixed_text (codes "?")) ++ fixed_text (codes " ") ++ m.name
    ++ if_some (λ path. fixed_text (codes " ") ++ file_path_text path) m.path

-- the value of a setting; nothing if it is `true`
abbrev pub setting_value_text : SettingValue (List ℕ) (Unit {0}) → List ℕ
setting_value_text (Truth true) = []
setting_value_text (Truth false) = fixed_text (codes " := false")
setting_value_text (Value value) = fixed_text (codes " := ") ++ expr_text value
setting_value_text (Interpreter command arguments) = fixed_text (codes " := [") ++ exprs_text (more command arguments) ++ fixed_text (codes "]")

abbrev pub setting_text : SettingParts (List ℕ) (Unit {0}) → List ℕ
setting_text s = fixed_text (codes "set ") ++ s.name ++ setting_value_text s.value

abbrev pub recipe_text : RecipeParts (List ℕ) (Unit {0}) (Unit {0}) (Unit {0}) → (indentation : List ℕ) → List ℕ
recipe_text r indentation = header_text r.header ++ after_line_text r.comment ++ body_text indentation r.body

-- a construct without its doc and attributes
abbrev pub content_text : Content (List ℕ) (Unit {0}) (Unit {0}) (Unit {0}) → (indentation : List ℕ) → List ℕ
content_text (Alias parts) indentation = alias_text parts
content_text (Assignment parts) indentation = assignment_text parts
content_text (Function parts) indentation = function_text parts
content_text (Import parts) indentation = import_text parts
content_text (Module parts) indentation = module_text parts
content_text (Recipe parts) indentation = recipe_text parts indentation
content_text (Setting parts) indentation = setting_text parts
content_text (Unexport name) indentation = fixed_text (codes "unexport ") ++ name

-- the doc of a construct, if no attribute sets it
abbrev pub shown_doc : {A B C S : Type 0} → List (Entry A B) → Content A B C S → Option (List ℕ)
shown_doc entries content = if has_attribute Doc entries then None else doc_of content

abbrev pub item_text : OrderedItem (List ℕ) (Unit {0}) (Unit {0}) → (indentation : List ℕ) → List ℕ
item_text Newline indentation = []
item_text (Comment text) indentation = text
item_text (Construct entries content) indentation = if_some doc_line (shown_doc entries content) ++ entries_text entries ++ content_text content indentation

-- the text after an item: a line feed after a line end, nothing before one or at the end of the file, and otherwise a space
abbrev pub item_end : {A B C S D : Type 0} → Item A B C S D → List (Item A B C S D) → List ℕ
item_end Newline items = fixed_text (codes "\n")
item_end i [] = []
item_end i (Newline ∷ items) = []
item_end i (j ∷ items) = fixed_text (codes " ")

-- the text of a file, in which only the lines of bodies are indented
abbrev pub text : Shape → (indentation : List ℕ) → List ℕ
text [] indentation = []
text (i ∷ items) indentation = item_text i indentation ++ item_end i items ++ text items indentation

abbrev pub ends_in_return : List ℕ → Bool
ends_in_return [] = false
ends_in_return (b ∷ []) = b == byte.carriage_return
ends_in_return (b ∷ bs) = ends_in_return bs

-- the last fragment isn't a text that ends in a carriage return, which would be parsed as part of the line end
abbrev pub printable_fragments : {B : Type 0} → List (Fragment (List ℕ) B) → Bool
printable_fragments [] = true
printable_fragments (Text lexeme ∷ []) = not (ends_in_return lexeme)
printable_fragments (f ∷ fragments) = printable_fragments fragments

abbrev pub printable_body : {B C : Type 0} → List (BodyLine (List ℕ) B C) → Bool
printable_body [] = true
printable_body (Line number fragments ∷ lines) = printable_fragments fragments && printable_body lines

abbrev pub printable_content : {B C S : Type 0} → Content (List ℕ) B C S → Bool
printable_content (Alias parts) = true
printable_content (Assignment parts) = true
printable_content (Function parts) = true
printable_content (Import parts) = true
printable_content (Module parts) = true
printable_content (Recipe parts) = printable_body parts.body
printable_content (Setting parts) = true
printable_content (Unexport name) = true

abbrev pub printable_item : {B C S D : Type 0} → Item (List ℕ) B C S D → Bool
printable_item Newline = true
printable_item (Comment text) = true
printable_item (Construct attributes content) = printable_content content

-- no line of a body ends in a carriage return
abbrev pub printable : {B C S D : Type 0} → List (Item (List ℕ) B C S D) → Bool
printable [] = true
printable (i ∷ items) = printable_item i && printable items
