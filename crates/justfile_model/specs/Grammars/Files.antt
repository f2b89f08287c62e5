-- The derivation of files.
use Rattle.std.specs.Prelude.{◌≡◌, ℕ, Bool, ◌+◌, ◌-◌, ◌^◌, ◌≤◌, List, [], ◌∷◌, ◌++◌, map, length, Option, Some, None}
use Rattle.std.specs.List.{flat_map}
use Rattle.std.specs.Option.{option_map}
use Rattle.justfile_vocabulary.specs.declared.attribute_kind.AttributeKind.TheVariants.{Doc}
use Rattle.justfile_model.specs.Lexing.SignificantTokens.{SignificantToken}
use Rattle.justfile_model.specs.Trees.Tree.{Expr, Or, And, Comparison, Concatenation, ListConcatenation, Join, Root, If, IfElse, Not, StringLiteral, FormatLiteral, FormatString, Backtick, Assert, AssertMessage, Variable, Call, Group, ListOf, Exprs, none, more, Parts, Last, Continue, Fragment, Text, Interpolation, BodyLine, Line, Quoted, Argument, Positional, Bare, Keyed, WrittenAttribute, OptionName, NoOption, OwnName, Named, ArgumentRules, Attribute, Plain, Single, Texts, Env, Signals, Cache, Arg, Entry, Parameter, Dependency, Header, SettingValue, Truth, Value, Interpreter, Content, Alias, Assignment, Function, Import, Module, Recipe, Setting, Unexport, Item, Newline, Comment, Construct, WrittenItem, OrderedItem, WrittenTree, WrittenShape, Tree, Shape, starless, lexeme, nothing, itself, line_of}
use Rattle.justfile_model.specs.Lexing.Tok.{Tok}
use Rattle.justfile_model.specs.Grammars.Features.{ConstructFeatures, Noted, rules_features}
use Rattle.justfile_model.specs.Grammars.Docs.{Nothing, documented}
use Rattle.justfile_model.specs.Grammars.Conditions.{Conditions, VersionNumbers}
use Rattle.justfile_model.specs.Grammars.Expressions.{AnyDepth, BelowLimit}
use Rattle.justfile_model.specs.Grammars.Grammar.{File, TokenProjection}
use Rattle.justfile_model.specs.LiteralTexts.Literals as literal
use Rattle.justfile_model.specs.LiteralTexts.Literals.{Literal, over_literal, AreCookedTexts}
use Rattle.justfile_model.specs.Meanings.AttributeRules.{arg_rules, of_some}
use Rattle.justfile_model.specs.Meanings.ConstructRules.{construct_broken}
use Rattle.justfile_model.specs.Trees.ContentKeys.{has_attribute}
use Rattle.justfile_model.specs.Meanings.Meaning.{entries_of}
use Rattle.justfile_model.specs.Meanings.Rules.{Broken}
use Rattle.justfile_model.specs.Trees.LeafView.{LeafView, views_lexemes, views_tokens}

abbrev mutual
  -- the literals of an expression, in source order
  pub expr_literals : {A B : Type 0} → Expr A B → List (Literal A)
  expr_literals (Or l r) = expr_literals l ++ expr_literals r
  expr_literals (And l r) = expr_literals l ++ expr_literals r
  expr_literals (Comparison l operator token r) = expr_literals l ++ expr_literals r
  expr_literals (Concatenation l operator r) = expr_literals l ++ expr_literals r
  expr_literals (ListConcatenation l operator r) = expr_literals l ++ expr_literals r
  expr_literals (Join l operator r) = expr_literals l ++ expr_literals r
  expr_literals (Root operator r) = expr_literals r
  expr_literals (If c b) = expr_literals c ++ expr_literals b
  expr_literals (IfElse c b o) = expr_literals c ++ expr_literals b ++ expr_literals o
  expr_literals (Not e) = expr_literals e
  expr_literals (StringLiteral expanded token) = literal.string_of expanded token ∷ []
  expr_literals (FormatLiteral token) = literal.Single token ∷ []
  expr_literals (FormatString start e parts) = literal.Start start ∷ expr_literals e ++ parts_literals start parts
  expr_literals (Backtick token) = literal.Command token ∷ []
  expr_literals (Assert name c) = expr_literals c
  expr_literals (AssertMessage name c m) = expr_literals c ++ expr_literals m
  expr_literals (Variable name) = []
  expr_literals (Call name arguments) = exprs_literals arguments
  expr_literals (Group e) = expr_literals e
  expr_literals (ListOf opener elements) = exprs_literals elements

  pub exprs_literals : {A B : Type 0} → Exprs A B → List (Literal A)
  exprs_literals none = []
  exprs_literals (more e others) = expr_literals e ++ exprs_literals others

  -- the literals of a format string after one of its expressions, where `start` is the string's first part
  pub parts_literals : {A B : Type 0} → (start : A) → Parts A B → List (Literal A)
  parts_literals start (Last token) = literal.End start token ∷ []
  parts_literals start (Continue token e parts) = literal.Continue start token ∷ expr_literals e ++ parts_literals start parts

abbrev pub fragments_literals : {A B : Type 0} → List (Fragment A B) → List (Literal A)
fragments_literals [] = []
fragments_literals (Text token ∷ fragments) = fragments_literals fragments
fragments_literals (Interpolation value ∷ fragments) = expr_literals value ++ fragments_literals fragments

abbrev pub body_literals : {A B C : Type 0} → List (BodyLine A B C) → List (Literal A)
body_literals [] = []
body_literals (Line number fragments ∷ lines) = fragments_literals fragments ++ body_literals lines

-- the literals of an optional part
abbrev pub optional_literals : {X A : Type 0} → (X → List (Literal A)) → Option X → List (Literal A)
optional_literals f None = []
optional_literals f (Some x) = f x

abbrev pub argument_literals : {A B : Type 0} → Argument A B → List (Literal A)
argument_literals (Positional first value) = expr_literals value
argument_literals (Bare key) = []
argument_literals (Keyed key value) = expr_literals value

-- the literals of written attributes
abbrev pub written_literals : {A B : Type 0} → List (WrittenAttribute A B) → List (Literal A)
written_literals ws = flat_map (λ w. flat_map argument_literals w.arguments) ws

abbrev pub quoted_literals : {A : Type 0} → Quoted A → List (Literal A)
quoted_literals q = literal.string_of q.expanded q.token ∷ []

-- the literal that names an option; a key without a value has none
abbrev pub option_literals : {A B : Type 0} → OptionName A B → List (Literal A)
option_literals NoOption = []
option_literals (OwnName key) = []
option_literals (Named name) = quoted_literals name

-- the literals of an `arg` attribute, in printed order
abbrev pub rules_literals : {A B : Type 0} → ArgumentRules A B → List (Literal A)
rules_literals a =
    quoted_literals a.name ++ option_literals a.long ++ option_literals a.short ++ optional_literals (λ p. expr_literals p.value) a.pattern
    ++ optional_literals expr_literals a.value ++ optional_literals (λ p. expr_literals p.value) a.help

abbrev pub attribute_literals : {A B : Type 0} → Attribute A B → List (Literal A)
attribute_literals (Plain kind) = []
attribute_literals (Single kind value) = expr_literals value
attribute_literals (Texts kind texts) = flat_map quoted_literals texts
attribute_literals (Env key value) = expr_literals key ++ expr_literals value
attribute_literals (Signals signals) = []
attribute_literals (Cache extra inputs outputs) =
    optional_literals expr_literals extra ++ optional_literals expr_literals inputs ++ optional_literals expr_literals outputs
attribute_literals (Arg rules) = rules_literals rules

-- the literals in the meaning of attributes, which doesn't contain those that were converted to numbers or signals
abbrev pub entries_literals : {A B : Type 0} → List (Entry A B) → List (Literal A)
entries_literals entries = flat_map (λ e. attribute_literals e.attribute) entries

abbrev pub parameter_literals : {A B : Type 0} → Parameter A B → List (Literal A)
parameter_literals p = optional_literals expr_literals p.default

abbrev pub dependency_literals : {A B S : Type 0} → Dependency A B S → List (Literal A)
dependency_literals d = flat_map (λ a. expr_literals a.value) d.arguments

abbrev pub header_literals : {A B S : Type 0} → Header A B S → List (Literal A)
header_literals h = flat_map parameter_literals h.parameters ++ flat_map dependency_literals h.priors ++ flat_map dependency_literals h.subsequents

abbrev pub setting_literals : {A B : Type 0} → SettingValue A B → List (Literal A)
setting_literals (Truth value) = []
setting_literals (Value value) = expr_literals value
setting_literals (Interpreter command arguments) = expr_literals command ++ exprs_literals arguments

abbrev pub content_literals : {A B C S : Type 0} → Content A B C S → List (Literal A)
content_literals (Alias parts) = []
content_literals (Assignment parts) = expr_literals parts.value
content_literals (Function parts) = expr_literals parts.body
content_literals (Import parts) = quoted_literals parts.path
content_literals (Module parts) = optional_literals quoted_literals parts.path
content_literals (Recipe parts) = header_literals parts.header ++ body_literals parts.body
content_literals (Setting parts) = setting_literals parts.value
content_literals (Unexport name) = []

-- the literals of items, where `literals_of` gives those of their attributes
module _ {A B C S D : Type 0} (literals_of : D → List (Literal A)) where
  abbrev pub item_literals : Item A B C S D → List (Literal A)
  item_literals Newline = []
  item_literals (Comment text) = []
  item_literals (Construct attributes content) = literals_of attributes ++ content_literals content

  abbrev pub items_literals : List (Item A B C S D) → List (Literal A)
  items_literals [] = []
  items_literals (i ∷ items) = item_literals i ++ items_literals items

-- the literals of a written tree, in source order
abbrev pub all_literals : {A B C S : Type 0} → List (WrittenItem A B C S) → List (Literal A)
all_literals = items_literals written_literals

-- the literals of a tree, in its order
abbrev pub literals : {A B C : Type 0} → List (OrderedItem A B C) → List (Literal A)
literals = items_literals entries_literals

-- the number of bindings of a construct
abbrev pub content_bindings : {A B C S : Type 0} → Content A B C S → ℕ
content_bindings (Alias parts) = 0
content_bindings (Assignment parts) = 1
content_bindings (Function parts) = length parts.parameters
content_bindings (Import parts) = 0
content_bindings (Module parts) = 0
content_bindings (Recipe parts) = length parts.header.parameters
content_bindings (Setting parts) = 0
content_bindings (Unexport name) = 0

abbrev pub item_bindings : {A B C S D : Type 0} → Item A B C S D → ℕ
item_bindings Newline = 0
item_bindings (Comment text) = 0
item_bindings (Construct attributes content) = content_bindings content

abbrev pub bindings : {A B C S D : Type 0} → List (Item A B C S D) → ℕ
bindings [] = 0
bindings (i ∷ items) = item_bindings i + bindings items

-- the number of recipes of a construct
abbrev pub content_recipes : {A B C S : Type 0} → Content A B C S → ℕ
content_recipes (Alias parts) = 0
content_recipes (Assignment parts) = 0
content_recipes (Function parts) = 0
content_recipes (Import parts) = 0
content_recipes (Module parts) = 0
content_recipes (Recipe parts) = 1
content_recipes (Setting parts) = 0
content_recipes (Unexport name) = 0

abbrev pub item_recipes : {A B C S D : Type 0} → Item A B C S D → ℕ
item_recipes Newline = 0
item_recipes (Comment text) = 0
item_recipes (Construct attributes content) = content_recipes content

abbrev pub recipes : {A B C S D : Type 0} → List (Item A B C S D) → ℕ
recipes [] = 0
recipes (i ∷ items) = item_recipes i + recipes items

-- The numbers are consecutive, beginning with the first.
abbrev pub NumbersFrom : ℕ → List ℕ → Type 0
NumbersFrom first [] = Unit {0}
NumbersFrom first (n ∷ ns) = (n ≡ first) × NumbersFrom (first + 1) ns

-- The counters of bindings and recipes, at these values, have enough numbers left for the items.
pub record NumbersSuffice {A B C S D : Type 0} (binding recipe : ℕ) (items : List (Item A B C S D)) : Type 0 where
  pub bindings_suffice : binding + bindings items ≤ 2 ^ 32 - 1
  pub recipes_suffice : recipe + recipes items ≤ 2 ^ 32 - 1

-- the construct with these attributes, if they have a meaning
abbrev pub with_entries : {A B C S : Type 0} → Content A B C S → Option (List (Entry A B)) → Option (OrderedItem A B C)
with_entries content None = None
with_entries content (Some entries) = Some (Construct entries (starless content))

-- the item followed by the others, if both exist
abbrev pub if_both : {X : Type 0} → Option X → Option (List X) → Option (List X)
if_both None others = None
if_both (Some x) None = None
if_both (Some x) (Some xs) = Some (x ∷ xs)

-- an attribute sets the doc
abbrev pub sets_doc : {A B : Type 0} → List (Entry A B) → Bool
sets_doc entries = has_attribute Doc entries

-- the features of a construct's attributes that are noted at a recipe's name
abbrev pub entries_features : {A B C S : Type 0} → Content A B C S → List (Entry A B) → List (Noted B)
entries_features (Alias parts) entries = []
entries_features (Assignment parts) entries = []
entries_features (Function parts) entries = []
entries_features (Import parts) entries = []
entries_features (Module parts) entries = []
entries_features (Recipe parts) entries = flat_map rules_features (arg_rules entries)
entries_features (Setting parts) entries = []
entries_features (Unexport name) entries = []

module _ {A B C S : Type 0} (view : LeafView A B) where
  -- the features of a construct, in the order in which they are noted
  abbrev pub construct_features : List (WrittenAttribute A B) → Content A B C S → ConstructFeatures B → List (Noted B)
  construct_features ws content f = f.attributes ++ of_some (entries_features content) (entries_of view ws) ++ f.content

  -- the features of a file, from those of its constructs
  abbrev pub all_features : List (WrittenItem A B C S) → List (ConstructFeatures B) → List (Noted B)
  all_features [] fs = []
  all_features (Newline ∷ items) fs = all_features items fs
  all_features (Comment text ∷ items) fs = all_features items fs
  all_features (Construct ws content ∷ items) [] = []
  all_features (Construct ws content ∷ items) (f ∷ fs) = construct_features ws content f ++ all_features items fs

  abbrev pub ordered_item : WrittenItem A B C S → Option (OrderedItem A B C)
  ordered_item Newline = Some Newline
  ordered_item (Comment text) = Some (Comment text)
  ordered_item (Construct ws content) = with_entries content (entries_of view ws)

  -- a written tree with the meaning of its attributes, before doc comments have become docs
  abbrev pub undocumented : List (WrittenItem A B C S) → Option (List (OrderedItem A B C))
  undocumented [] = Some []
  undocumented (i ∷ items) = if_both (ordered_item i) (undocumented items)

  -- a written tree with the meaning of its attributes and with its docs
  abbrev pub ordered : List (WrittenItem A B C S) → Option (List (OrderedItem A B C))
  ordered items = option_map (documented sets_doc Nothing) (undocumented items)

-- `current` is the current version
module _ {A B C : Type 0} (current : VersionNumbers) (view : LeafView A B) where
  abbrev pub item_broken : WrittenItem A B C B → List (Broken B)
  item_broken Newline = []
  item_broken (Comment text) = []
  item_broken (Construct ws content) = construct_broken current view ws content

  -- all rules that written items break
  abbrev pub broken : List (WrittenItem A B C B) → List (Broken B)
  broken items = flat_map item_broken items

-- a written tree keeps tokens at its leaves, and line numbers for the lines of bodies
abbrev pub to_tokens : TokenProjection Tok Tok ℕ Tok
to_tokens = record { leaf = itself; position = itself; number = line_of; star = itself }

-- a written shape keeps lexemes only
abbrev pub to_lexemes : TokenProjection (List ℕ) (Unit {0}) (Unit {0}) (Unit {0})
to_lexemes = record { leaf = lexeme; position = nothing; number = nothing; star = nothing }

-- The grammar alone: no depth limit, arbitrary texts in literals, and no other rules.
abbrev pub FileTree : List SignificantToken → WrittenTree → List (ConstructFeatures Tok) → Type 0
FileTree tokens written features = File to_tokens AnyDepth written features tokens

-- The written tree obeys the conditions: its literals have texts, and it breaks no rule.
pub record Obeys (conditions : Conditions) (written : WrittenTree) : Type 0 where
  pub cooked : List (List ℕ)
  pub cooks : AreCookedTexts conditions.expander (map (over_literal lexeme) (all_literals written)) cooked
  pub unbroken : broken conditions.current (views_tokens conditions.expander) written ≡ []

-- The tokens of a file derive the tree with these features.
pub record FileDerives (conditions : Conditions) (tokens : List SignificantToken) (tree : Tree) (features : List (Noted Tok)) : Type 0 where
  pub written : WrittenTree
  pub by_construct : List (ConstructFeatures Tok)
  pub derives : File to_tokens (BelowLimit conditions.limit) written by_construct tokens
  pub features_are : features ≡ all_features (views_tokens conditions.expander) written by_construct
  pub obeys : Obeys conditions written
  pub ordered_is : ordered (views_tokens conditions.expander) written ≡ Some tree

-- The tokens of a file derive the shape with these features.
pub record ShapeDerives (conditions : Conditions) (tokens : List SignificantToken) (shape : Shape) (features : List (Noted (Unit {0}))) : Type 0 where
  pub written : WrittenShape
  pub by_construct : List (ConstructFeatures (Unit {0}))
  pub derives : File to_lexemes (BelowLimit conditions.limit) written by_construct tokens
  pub features_are : features ≡ all_features (views_lexemes conditions.expander) written by_construct
  pub cooked : List (List ℕ)
  pub cooks : AreCookedTexts conditions.expander (all_literals written) cooked
  pub unbroken : broken conditions.current (views_lexemes conditions.expander) written ≡ []
  pub ordered_is : ordered (views_lexemes conditions.expander) written ≡ Some shape
