-- Syntax trees, over the projections of tokens: `A` (`Leaf`) for lexemes that a shape keeps, `B` (`Position`) for tokens that a shape
-- drops, and `C` (`LineNumber`) for the lines of bodies. They are tokens, tokens and line numbers in a tree; and lexemes, nothing and
-- nothing in a shape. Items have two more parameters: `S` (`Star`) for the stars of dependencies, and `D` (`Attributes`) for the attributes
-- of an item. A written tree, which the grammar derives, has the tokens of stars, and attributes as they are written. A tree has no tokens
-- of stars, and has the meaning of attributes, in content order.
use Rattle.std.specs.Prelude.{ℕ, Bool, List, [], ◌∷◌, map, Option, Some, None}
use Rattle.std.specs.Option.{option_map}
use Rattle.justfile_vocabulary.specs.declared.attribute_kind.AttributeKind.{AttributeKind}
use Rattle.justfile_vocabulary.specs.declared.keyword.Keyword.{Keyword}
use Rattle.justfile_vocabulary.specs.declared.signal.Signal.{Signal}
use Rattle.justfile_model.specs.declared.conditional_operator.ConditionalOperator.{ConditionalOperator}
use Rattle.justfile_model.specs.declared.parameter_kind.ParameterKind.{ParameterKind}
use Rattle.justfile_model.specs.Lexing.Tok.{Tok}

mutual
  pub data Expr (Leaf Position : Type 0) : Type 0 where
    -- `lhs || rhs`
    Or : (lhs rhs : Expr Leaf Position) → Expr Leaf Position
    -- `lhs && rhs`
    And : (lhs rhs : Expr Leaf Position) → Expr Leaf Position
    Comparison : (lhs : Expr Leaf Position) (operator : ConditionalOperator) (token : Position) (rhs : Expr Leaf Position) → Expr Leaf Position
    -- `lhs + rhs`
    Concatenation : (lhs : Expr Leaf Position) (operator : Position) (rhs : Expr Leaf Position) → Expr Leaf Position
    -- `lhs ++ rhs`
    ListConcatenation : (lhs : Expr Leaf Position) (operator : Position) (rhs : Expr Leaf Position) → Expr Leaf Position
    -- `lhs / rhs`
    Join : (lhs : Expr Leaf Position) (operator : Position) (rhs : Expr Leaf Position) → Expr Leaf Position
    -- `/ rhs`
    Root : (operator : Position) (rhs : Expr Leaf Position) → Expr Leaf Position
    -- `if condition { branch }`
    If : (condition branch : Expr Leaf Position) → Expr Leaf Position
    -- `if condition { branch } else { other }`, or `else other` if that is a conditional itself
    IfElse : (condition branch other : Expr Leaf Position) → Expr Leaf Position
    -- `!operand`
    Not : (operand : Expr Leaf Position) → Expr Leaf Position
    -- a string literal, which is expanded if it has the mark `x`
    StringLiteral : (expanded : Bool) (token : Leaf) → Expr Leaf Position
    -- a format string without interpolations
    FormatLiteral : (token : Leaf) → Expr Leaf Position
    -- a format string: its first part, an expression, and its other parts
    FormatString : (start : Leaf) (e : Expr Leaf Position) (parts : Parts Leaf Position) → Expr Leaf Position
    -- a command between backticks
    Backtick : (token : Leaf) → Expr Leaf Position
    -- `assert(condition)`
    Assert : (name : Position) (condition : Expr Leaf Position) → Expr Leaf Position
    -- `assert(condition, message)`
    AssertMessage : (name : Position) (condition message : Expr Leaf Position) → Expr Leaf Position
    Variable : (name : Leaf) → Expr Leaf Position
    -- `name(arguments)`
    Call : (name : Leaf) (arguments : Exprs Leaf Position) → Expr Leaf Position
    -- `(contents)`
    Group : (contents : Expr Leaf Position) → Expr Leaf Position
    -- `[elements]`
    ListOf : (opener : Position) (elements : Exprs Leaf Position) → Expr Leaf Position

  pub data Exprs (Leaf Position : Type 0) : Type 0 where
    none : Exprs Leaf Position
    more : (e : Expr Leaf Position) (others : Exprs Leaf Position) → Exprs Leaf Position

  -- the rest of a format string after one of its expressions
  pub data Parts (Leaf Position : Type 0) : Type 0 where
    Last : (token : Leaf) → Parts Leaf Position
    Continue : (token : Leaf) (e : Expr Leaf Position) (parts : Parts Leaf Position) → Parts Leaf Position

-- a part of a body line: a text, or an expression between `{{` and `}}`
pub data Fragment (Leaf Position : Type 0) : Type 0 where
  Text : (token : Leaf) → Fragment Leaf Position
  Interpolation : (value : Expr Leaf Position) → Fragment Leaf Position

-- a line of a body, with its line number in the file
pub data BodyLine (Leaf Position LineNumber : Type 0) : Type 0 where
  Line : (number : LineNumber) (fragments : List (Fragment Leaf Position)) → BodyLine Leaf Position LineNumber

-- a string literal, which is expanded if it has the mark `x`
pub record Quoted (Leaf : Type 0) : Type 0 where
  pub expanded : Bool
  pub token : Leaf

-- a written argument of an attribute
pub data Argument (Leaf Position : Type 0) : Type 0 where
  -- an expression, and the position of its first token
  Positional : (first : Position) (value : Expr Leaf Position) → Argument Leaf Position
  -- `key`
  Bare : (key : Leaf) → Argument Leaf Position
  -- `key=value`
  Keyed : (key : Leaf) (value : Expr Leaf Position) → Argument Leaf Position

-- a written attribute, with its arguments in source order
pub record WrittenAttribute (Leaf Position : Type 0) : Type 0 where
  pub name : Leaf
  pub arguments : List (Argument Leaf Position)
  -- the comment at the end of its line, if it is the last attribute on the line
  pub comment : Option (List ℕ)

-- the name of a parameter as an option
pub data OptionName (Leaf Position : Type 0) : Type 0 where
  NoOption : OptionName Leaf Position
  -- the name of the parameter itself, where the key has no value
  OwnName : (key : Position) → OptionName Leaf Position
  Named : (name : Quoted Leaf) → OptionName Leaf Position

-- a key and its value
pub record Property (Leaf Position : Type 0) : Type 0 where
  pub key : Position
  pub value : Expr Leaf Position

-- the number that is the value of a key, and the key's position
pub record Bound (Position : Type 0) : Type 0 where
  pub key : Position
  pub number : ℕ

-- What an `arg` attribute sets for a parameter, with the positions of its keys. In the code it is `ArgumentRules`, too. The parser copies
-- a part of it, without positions, as `ArgAttribute`, whose fields become fields of the parameter.
pub record ArgumentRules (Leaf Position : Type 0) : Type 0 where
  pub flag : Option Position
  pub help : Option (Property Leaf Position)
  pub long : OptionName Leaf Position
  pub max : Option (Bound Position)
  pub min : Option (Bound Position)
  pub multiple : Option Position
  pub name : Quoted Leaf
  pub pattern : Option (Property Leaf Position)
  pub short : OptionName Leaf Position
  pub value : Option (Expr Leaf Position)

-- the meaning of an attribute; kinds with the same form share a case
pub data Attribute (Leaf Position : Type 0) : Type 0 where
  -- an attribute without arguments
  Plain : (kind : AttributeKind) → Attribute Leaf Position
  -- an attribute with one expression
  Single : (kind : AttributeKind) (value : Expr Leaf Position) → Attribute Leaf Position
  -- an attribute with literals
  Texts : (kind : AttributeKind) (texts : List (Quoted Leaf)) → Attribute Leaf Position
  Env : (key value : Expr Leaf Position) → Attribute Leaf Position
  -- `continue`: signals in declaration order, without duplicates
  Signals : (signals : List Signal) → Attribute Leaf Position
  Cache : (extra inputs outputs : Option (Expr Leaf Position)) → Attribute Leaf Position
  Arg : (rules : ArgumentRules Leaf Position) → Attribute Leaf Position

-- an attribute of an item: the position of its name, its meaning, and its comment
pub record Entry (Leaf Position : Type 0) : Type 0 where
  pub name : Position
  pub attribute : Attribute Leaf Position
  pub comment : Option (List ℕ)

pub record Parameter (Leaf Position : Type 0) : Type 0 where
  pub kind : ParameterKind
  -- the name has the prefix `$`
  pub export : Bool
  pub name : Leaf
  pub default : Option (Expr Leaf Position)

-- an argument of a dependency, with an optional star
pub record DependencyArgument (Leaf Position Star : Type 0) : Type 0 where
  pub star : Option Star
  pub value : Expr Leaf Position

-- a dependency, by the names of its path; in a tree it has a star exactly if one of its arguments has
pub record Dependency (Leaf Position Star : Type 0) : Type 0 where
  pub star : Option Star
  pub path : List Leaf
  pub arguments : List (DependencyArgument Leaf Position Star)

-- the header of a recipe
pub record Header (Leaf Position Star : Type 0) : Type 0 where
  -- the name has the prefix `@`
  pub quiet : Bool
  pub name : Leaf
  pub parameters : List (Parameter Leaf Position)
  -- the dependencies before `&&`, or all if there is no `&&`
  pub priors : List (Dependency Leaf Position Star)
  pub subsequents : List (Dependency Leaf Position Star)

-- `alias name := target`, by the names of the target's path
pub record AliasParts (Leaf : Type 0) : Type 0 where
  pub name : Leaf
  pub target : List Leaf

-- `name := value`, with an optional `eager` or `export` before it
pub record AssignmentParts (Leaf Position : Type 0) : Type 0 where
  pub eager : Bool
  pub export : Bool
  pub name : Leaf
  pub value : Expr Leaf Position

-- `name(parameters) := body`
pub record FunctionParts (Leaf Position : Type 0) : Type 0 where
  pub name : Leaf
  pub parameters : List Leaf
  pub body : Expr Leaf Position

-- `import path`, or `import? path`
pub record ImportParts (Leaf : Type 0) : Type 0 where
  pub optional : Bool
  pub path : Quoted Leaf

-- `mod name` or `mod? name`, with an optional path; a written one has no doc
pub record ModuleParts (Leaf : Type 0) : Type 0 where
  pub doc : Option (List ℕ)
  pub optional : Bool
  pub name : Leaf
  pub path : Option (Quoted Leaf)

-- A recipe with the lines of its body, of which there are none if it has no body. A written one has no doc. The comment is the one between
-- the header and the body.
pub record RecipeParts (Leaf Position LineNumber Star : Type 0) : Type 0 where
  pub doc : Option (List ℕ)
  pub header : Header Leaf Position Star
  pub comment : Option (List ℕ)
  pub body : List (BodyLine Leaf Position LineNumber)

-- the value of a setting
pub data SettingValue (Leaf Position : Type 0) : Type 0 where
  -- a boolean, which is `true` if there is no value
  Truth : (value : Bool) → SettingValue Leaf Position
  Value : (value : Expr Leaf Position) → SettingValue Leaf Position
  -- `[command, arguments]`
  Interpreter : (command : Expr Leaf Position) (arguments : Exprs Leaf Position) → SettingValue Leaf Position

-- `set name := value`; the name is the keyword
pub record SettingParts (Leaf Position : Type 0) : Type 0 where
  pub keyword : Keyword
  pub name : Leaf
  pub value : SettingValue Leaf Position

-- A construct without its attributes. The content of a leaf, by which attributes are ordered, is something else: see `LeafView`.
pub data Content (Leaf Position LineNumber Star : Type 0) : Type 0 where
  Alias : (parts : AliasParts Leaf) → Content Leaf Position LineNumber Star
  Assignment : (parts : AssignmentParts Leaf Position) → Content Leaf Position LineNumber Star
  Function : (parts : FunctionParts Leaf Position) → Content Leaf Position LineNumber Star
  Import : (parts : ImportParts Leaf) → Content Leaf Position LineNumber Star
  Module : (parts : ModuleParts Leaf) → Content Leaf Position LineNumber Star
  Recipe : (parts : RecipeParts Leaf Position LineNumber Star) → Content Leaf Position LineNumber Star
  Setting : (parts : SettingParts Leaf Position) → Content Leaf Position LineNumber Star
  -- `unexport name`
  Unexport : (name : Leaf) → Content Leaf Position LineNumber Star

pub data Item (Leaf Position LineNumber Star Attributes : Type 0) : Type 0 where
  -- the end of a line, or a blank line
  Newline : Item Leaf Position LineNumber Star Attributes
  -- a comment without trailing whitespace
  Comment : (text : List ℕ) → Item Leaf Position LineNumber Star Attributes
  -- a construct with its attributes
  Construct : (attributes : Attributes) (content : Content Leaf Position LineNumber Star) → Item Leaf Position LineNumber Star Attributes

-- an item as it is written
abbrev pub WrittenItem : (A B C S : Type 0) → Type 0
WrittenItem A B C S = Item A B C S (List (WrittenAttribute A B))

-- an item with the meaning of its attributes, in content order
abbrev pub OrderedItem : (A B C : Type 0) → Type 0
OrderedItem A B C = Item A B C (Unit {0}) (List (Entry A B))

-- a tree that the grammar derives
abbrev pub WrittenTree : Type 0
WrittenTree = List (WrittenItem Tok Tok ℕ Tok)

abbrev pub Tree : Type 0
Tree = List (OrderedItem Tok Tok ℕ)

abbrev pub WrittenShape : Type 0
WrittenShape = List (WrittenItem (List ℕ) (Unit {0}) (Unit {0}) (Unit {0}))

abbrev pub Shape : Type 0
Shape = List (OrderedItem (List ℕ) (Unit {0}) (Unit {0}))

-- `name := value`, with an optional `eager` or `export` before it
abbrev pub assignment_of : {A B : Type 0} → (eager export : Bool) → A → Expr A B → AssignmentParts A B
assignment_of eager export name value = record { eager = eager; export = export; name = name; value = value }

-- a module without a doc
abbrev pub bare_module : {A : Type 0} → (optional : Bool) → A → Option (Quoted A) → ModuleParts A
bare_module optional name path = record { doc = None; optional = optional; name = name; path = path }

-- a recipe without a doc
abbrev pub bare_recipe : {A B C S : Type 0} → Header A B S → (comment : Option (List ℕ)) → List (BodyLine A B C) → RecipeParts A B C S
bare_recipe header comment body = record { doc = None; header = header; comment = comment; body = body }

-- a written attribute without a comment
abbrev pub bare_attribute : {A B : Type 0} → A → List (Argument A B) → WrittenAttribute A B
bare_attribute name arguments = record { name = name; arguments = arguments; comment = None }

-- an attribute without a comment
abbrev pub bare_entry : {A B : Type 0} → B → Attribute A B → Entry A B
bare_entry name attribute = record { name = name; attribute = attribute; comment = None }

-- a written attribute with this comment
abbrev pub commented_attribute : {A B : Type 0} → (comment : List ℕ) → WrittenAttribute A B → WrittenAttribute A B
commented_attribute comment w = record { name = w.name; arguments = w.arguments; comment = Some comment }

-- an attribute with this comment
abbrev pub commented_entry : {A B : Type 0} → (comment : List ℕ) → Entry A B → Entry A B
commented_entry comment e = record { name = e.name; attribute = e.attribute; comment = Some comment }

-- the list with its last element replaced
abbrev pub at_last : {X : Type 0} → (X → X) → List X → List X
at_last f [] = []
at_last f (x ∷ []) = f x ∷ []
at_last f (x ∷ y ∷ xs) = x ∷ at_last f (y ∷ xs)

-- the list with a comment added to its last element, if there is a comment
abbrev pub commented : {X : Type 0} → (List ℕ → X → X) → (comment : Option (List ℕ)) → List X → List X
commented put None xs = xs
commented put (Some comment) xs = at_last (put comment) xs

-- the attributes of a line, of which the last one gets the comment at the end of the line
abbrev pub commented_line : {A B : Type 0} → (comment : Option (List ℕ)) → List (WrittenAttribute A B) → List (WrittenAttribute A B)
commented_line = commented commented_attribute

-- a line before others; an empty line at the end is dropped
abbrev pub line_before : {A B C : Type 0} → BodyLine A B C → List (BodyLine A B C) → List (BodyLine A B C)
line_before (Line number []) [] = []
line_before l ls = l ∷ ls

-- lines without empty ones at the end
abbrev pub trimmed : {A B C : Type 0} → List (BodyLine A B C) → List (BodyLine A B C)
trimmed [] = []
trimmed (l ∷ ls) = line_before l (trimmed ls)

-- ---- trees with other projections of their tokens

module _ {A B A' B' : Type 0} (f : A → A') (g : B → B') where
  abbrev mutual
    pub over_expr : Expr A B → Expr A' B'
    over_expr (Or l r) = Or (over_expr l) (over_expr r)
    over_expr (And l r) = And (over_expr l) (over_expr r)
    over_expr (Comparison l operator token r) = Comparison (over_expr l) operator (g token) (over_expr r)
    over_expr (Concatenation l operator r) = Concatenation (over_expr l) (g operator) (over_expr r)
    over_expr (ListConcatenation l operator r) = ListConcatenation (over_expr l) (g operator) (over_expr r)
    over_expr (Join l operator r) = Join (over_expr l) (g operator) (over_expr r)
    over_expr (Root operator r) = Root (g operator) (over_expr r)
    over_expr (If c b) = If (over_expr c) (over_expr b)
    over_expr (IfElse c b o) = IfElse (over_expr c) (over_expr b) (over_expr o)
    over_expr (Not e) = Not (over_expr e)
    over_expr (StringLiteral expanded token) = StringLiteral expanded (f token)
    over_expr (FormatLiteral token) = FormatLiteral (f token)
    over_expr (FormatString start e parts) = FormatString (f start) (over_expr e) (over_parts parts)
    over_expr (Backtick token) = Backtick (f token)
    over_expr (Assert name c) = Assert (g name) (over_expr c)
    over_expr (AssertMessage name c m) = AssertMessage (g name) (over_expr c) (over_expr m)
    over_expr (Variable name) = Variable (f name)
    over_expr (Call name arguments) = Call (f name) (over_exprs arguments)
    over_expr (Group e) = Group (over_expr e)
    over_expr (ListOf opener elements) = ListOf (g opener) (over_exprs elements)

    pub over_exprs : Exprs A B → Exprs A' B'
    over_exprs none = none
    over_exprs (more e others) = more (over_expr e) (over_exprs others)

    pub over_parts : Parts A B → Parts A' B'
    over_parts (Last token) = Last (f token)
    over_parts (Continue token e parts) = Continue (f token) (over_expr e) (over_parts parts)

  abbrev pub over_fragment : Fragment A B → Fragment A' B'
  over_fragment (Text token) = Text (f token)
  over_fragment (Interpolation value) = Interpolation (over_expr value)

  abbrev pub over_argument : Argument A B → Argument A' B'
  over_argument (Positional first value) = Positional (g first) (over_expr value)
  over_argument (Bare key) = Bare (f key)
  over_argument (Keyed key value) = Keyed (f key) (over_expr value)

  abbrev pub over_written_attribute : WrittenAttribute A B → WrittenAttribute A' B'
  over_written_attribute w = record { name = f w.name; arguments = map over_argument w.arguments; comment = w.comment }

  abbrev pub over_quoted : Quoted A → Quoted A'
  over_quoted q = record { expanded = q.expanded; token = f q.token }

  abbrev pub over_option : OptionName A B → OptionName A' B'
  over_option NoOption = NoOption
  over_option (OwnName key) = OwnName (g key)
  over_option (Named name) = Named (over_quoted name)

  abbrev pub over_property : Property A B → Property A' B'
  over_property p = record { key = g p.key; value = over_expr p.value }

  abbrev pub over_bound : Bound B → Bound B'
  over_bound b = record { key = g b.key; number = b.number }

  abbrev pub over_rules : ArgumentRules A B → ArgumentRules A' B'
  over_rules a = record {
    flag = option_map g a.flag;
    help = option_map over_property a.help;
    long = over_option a.long;
    max = option_map over_bound a.max;
    min = option_map over_bound a.min;
    multiple = option_map g a.multiple;
    name = over_quoted a.name;
    pattern = option_map over_property a.pattern;
    short = over_option a.short;
    value = option_map over_expr a.value;
  }

  abbrev pub over_attribute : Attribute A B → Attribute A' B'
  over_attribute (Plain kind) = Plain kind
  over_attribute (Single kind value) = Single kind (over_expr value)
  over_attribute (Texts kind texts) = Texts kind (map over_quoted texts)
  over_attribute (Env key value) = Env (over_expr key) (over_expr value)
  over_attribute (Signals signals) = Signals signals
  over_attribute (Cache extra inputs outputs) = Cache (option_map over_expr extra) (option_map over_expr inputs) (option_map over_expr outputs)
  over_attribute (Arg rules) = Arg (over_rules rules)

  abbrev pub over_alias : AliasParts A → AliasParts A'
  over_alias a = record { name = f a.name; target = map f a.target }

  abbrev pub over_function : FunctionParts A B → FunctionParts A' B'
  over_function a = record { name = f a.name; parameters = map f a.parameters; body = over_expr a.body }

  abbrev pub over_import : ImportParts A → ImportParts A'
  over_import i = record { optional = i.optional; path = over_quoted i.path }

  abbrev pub over_module : ModuleParts A → ModuleParts A'
  over_module m = record { doc = m.doc; optional = m.optional; name = f m.name; path = option_map over_quoted m.path }

  abbrev pub over_setting_value : SettingValue A B → SettingValue A' B'
  over_setting_value (Truth value) = Truth value
  over_setting_value (Value value) = Value (over_expr value)
  over_setting_value (Interpreter command arguments) = Interpreter (over_expr command) (over_exprs arguments)

  abbrev pub over_setting : SettingParts A B → SettingParts A' B'
  over_setting s = record { keyword = s.keyword; name = f s.name; value = over_setting_value s.value }

  abbrev pub over_assignment : AssignmentParts A B → AssignmentParts A' B'
  over_assignment a = record { eager = a.eager; export = a.export; name = f a.name; value = over_expr a.value }

  abbrev pub over_parameter : Parameter A B → Parameter A' B'
  over_parameter p = record { kind = p.kind; export = p.export; name = f p.name; default = option_map over_expr p.default }

  abbrev pub over_entry : Entry A B → Entry A' B'
  over_entry e = record { name = g e.name; attribute = over_attribute e.attribute; comment = e.comment }

module _ {A B C A' B' C' : Type 0} (f : A → A') (g : B → B') (h : C → C') where
  abbrev pub over_line : BodyLine A B C → BodyLine A' B' C'
  over_line (Line number fragments) = Line (h number) (map (over_fragment f g) fragments)

module _ {A B S A' B' S' : Type 0} (f : A → A') (g : B → B') (k : S → S') where
  abbrev pub over_dependency_argument : DependencyArgument A B S → DependencyArgument A' B' S'
  over_dependency_argument a = record { star = option_map k a.star; value = over_expr f g a.value }

  abbrev pub over_dependency : Dependency A B S → Dependency A' B' S'
  over_dependency d = record { star = option_map k d.star; path = map f d.path; arguments = map over_dependency_argument d.arguments }

  abbrev pub over_header : Header A B S → Header A' B' S'
  over_header header = record {
    quiet = header.quiet;
    name = f header.name;
    parameters = map (over_parameter f g) header.parameters;
    priors = map over_dependency header.priors;
    subsequents = map over_dependency header.subsequents;
  }

module _ {A B C S A' B' C' S' : Type 0} (f : A → A') (g : B → B') (h : C → C') (k : S → S') where
  abbrev pub over_recipe : RecipeParts A B C S → RecipeParts A' B' C' S'
  over_recipe r = record { doc = r.doc; header = over_header f g k r.header; comment = r.comment; body = map (over_line f g h) r.body }

  abbrev pub over_content : Content A B C S → Content A' B' C' S'
  over_content (Alias parts) = Alias (over_alias f g parts)
  over_content (Assignment parts) = Assignment (over_assignment f g parts)
  over_content (Function parts) = Function (over_function f g parts)
  over_content (Import parts) = Import (over_import f g parts)
  over_content (Module parts) = Module (over_module f g parts)
  over_content (Recipe parts) = Recipe (over_recipe parts)
  over_content (Setting parts) = Setting (over_setting f g parts)
  over_content (Unexport name) = Unexport (f name)

  abbrev pub over_item : {D D' : Type 0} → (D → D') → Item A B C S D → Item A' B' C' S' D'
  over_item attributes_over Newline = Newline
  over_item attributes_over (Comment text) = Comment text
  over_item attributes_over (Construct attributes content) = Construct (attributes_over attributes) (over_content content)

-- ---- constructs without the tokens of stars, which only keep whether there is a star

abbrev pub starless_argument : {A B S : Type 0} → DependencyArgument A B S → DependencyArgument A B (Unit {0})
starless_argument a = record { star = option_map (λ star. tt) a.star; value = a.value }

abbrev pub starless_dependency : {A B S : Type 0} → Dependency A B S → Dependency A B (Unit {0})
starless_dependency d = record { star = option_map (λ star. tt) d.star; path = d.path; arguments = map starless_argument d.arguments }

abbrev pub starless_header : {A B S : Type 0} → Header A B S → Header A B (Unit {0})
starless_header h =
    record { quiet = h.quiet; name = h.name; parameters = h.parameters; priors = map starless_dependency h.priors; subsequents = map starless_dependency h.subsequents }

abbrev pub starless : {A B C S : Type 0} → Content A B C S → Content A B C (Unit {0})
starless (Alias parts) = Alias parts
starless (Assignment parts) = Assignment parts
starless (Function parts) = Function parts
starless (Import parts) = Import parts
starless (Module parts) = Module parts
starless (Recipe parts) = Recipe (record { doc = parts.doc; header = starless_header parts.header; comment = parts.comment; body = parts.body })
starless (Setting parts) = Setting parts
starless (Unexport name) = Unexport name

-- ---- trees and their shapes

-- the projection of a leaf in a shape
abbrev pub lexeme : Tok → List ℕ
lexeme t = t.lexeme

-- the projection of a position in a shape
abbrev pub nothing : {X : Type 0} → X → Unit {0}
nothing x = tt

-- the projection of a token in a tree
abbrev pub itself : Tok → Tok
itself t = t

-- the line on which a token begins
abbrev pub line_of : Tok → ℕ
line_of t = t.line

-- the shape of an item of a tree
abbrev pub item_shape_of : OrderedItem Tok Tok ℕ → OrderedItem (List ℕ) (Unit {0}) (Unit {0})
item_shape_of = over_item lexeme nothing nothing (λ star. star) (map (over_entry lexeme nothing))

-- the shape of a tree
abbrev pub shape_of : Tree → Shape
shape_of = map item_shape_of

-- the shape of a written tree
abbrev pub written_shape_of : WrittenTree → WrittenShape
written_shape_of = map (over_item lexeme nothing nothing nothing (map (over_written_attribute lexeme nothing)))
