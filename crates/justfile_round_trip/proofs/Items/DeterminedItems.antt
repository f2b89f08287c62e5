-- The features of written items are determined by the items, construct by construct.
use Rattle.std.proofs.Common.{◌≡◌, ℕ, Bool, false, List, [], ◌∷◌, ◌++◌, Option, Some, None, refl, sym, ap, ◌∙◌}
use Rattle.std.proofs.lemmas.List.{append-nil}
use Rattle.justfile_model.specs.declared.parameter_kind.ParameterKind.{ParameterKind}
use Rattle.justfile_model.specs.Grammars.Features.{ConstructFeatures}
use Rattle.justfile_model.specs.Grammars.Headers as h
use Rattle.justfile_model.specs.Grammars.Headers.{NamedParameter, ParameterOf, Parameters, DependencyArguments, DependencyOf, Dependencies, AllDependencies, HeaderOf}
use Rattle.justfile_model.specs.Grammars.ItemParts as p
use Rattle.justfile_model.specs.Grammars.ItemParts.{ValueOf}
use Rattle.justfile_model.specs.Grammars.Settings.{SettingForm}
use Rattle.justfile_model.specs.Lexing.SignificantTokens.{SignificantToken}
use Rattle.justfile_model.specs.Trees.Tree as tree
use Rattle.justfile_model.specs.Trees.Tree.{Construct, SettingValue, WrittenShape, lexeme, nothing, line_before, trimmed}
use Rattle.justfile_model.specs.Grammars.Expressions.{Tokens}
use Rattle.justfile_model.specs.Grammars.Grammar as g
use Rattle.justfile_model.specs.Grammars.Files.{to_lexemes}
use Rattle.justfile_model.specs.Grammars.Grammar.{LineRest, BodyLines, OnLine, Block, Items, ItemRest, LineEnd, File}
use Rattle.justfile_round_trip.proofs.Canon.{Shown, Fragment, ShapeLine, ShapeContent, Value}
use Rattle.justfile_round_trip.proofs.Headers.CanonHeaders.{ShapeParameter, ShapeArgument, ShapeDependency, ShapeHeader}
use Rattle.justfile_round_trip.proofs.Determined.{value_features, values_features, of_expression, of_value, of_sequence}
use Rattle.justfile_round_trip.proofs.Attributes.DeterminedAttributes.{written_features, of_attribute_lines}

-- the value of a setting
abbrev ShapeSetting : Type 0
ShapeSetting = SettingValue (List ℕ) (Unit {0})

abbrev fragments_features : List Fragment → Shown
fragments_features [] = []
fragments_features (tree.Text t ∷ fs) = fragments_features fs
fragments_features (tree.Interpolation v ∷ fs) = value_features false v ++ fragments_features fs

abbrev pub body_features : List ShapeLine → Shown
body_features [] = []
body_features (tree.Line number fs ∷ ls) = fragments_features fs ++ body_features ls

abbrev default_features : Option Value → Shown
default_features None = []
default_features (Some e) = value_features false e

abbrev parameters_features : List ShapeParameter → Shown
parameters_features [] = []
parameters_features (p ∷ ps) = default_features p.default ++ parameters_features ps

abbrev arguments_features : List ShapeArgument → Shown
arguments_features [] = []
arguments_features (a ∷ arguments) = value_features false a.value ++ arguments_features arguments

abbrev dependencies_features : List ShapeDependency → Shown
dependencies_features [] = []
dependencies_features (d ∷ ds) = arguments_features d.arguments ++ dependencies_features ds

abbrev header_features : ShapeHeader → Shown
header_features h = parameters_features h.parameters ++ (dependencies_features h.priors ++ dependencies_features h.subsequents)

abbrev setting_features : ShapeSetting → Shown
setting_features (tree.Truth value) = []
setting_features (tree.Value value) = value_features false value
setting_features (tree.Interpreter command arguments) = values_features (tree.more command arguments)

abbrev pub content_features : ShapeContent → Shown
content_features (tree.Assignment parts) = value_features false parts.value
content_features (tree.Function parts) = value_features false parts.body
content_features (tree.Recipe parts) = header_features parts.header ++ body_features parts.body
content_features (tree.Setting parts) = setting_features parts.value
content_features _ = []

-- the features of a written shape
abbrev pub items_features : WrittenShape → List (ConstructFeatures (Unit {0}))
items_features [] = []
items_features (Construct ws content ∷ items) = record { attributes = written_features ws; content = content_features content } ∷ items_features items
items_features (_ ∷ items) = items_features items

trimmed_features : (ls : List ShapeLine) → body_features (trimmed ls) ≡ body_features ls
trimmed_features [] = refl
trimmed_features (tree.Line n (f ∷ fs) ∷ ls) = ap (λ ns. fragments_features (f ∷ fs) ++ ns) (trimmed_features ls)
trimmed_features (tree.Line n [] ∷ ls) = by (trimmed ls) ∙ trimmed_features ls
  where
    by : (ks : List ShapeLine) → body_features (line_before (tree.Line n []) ks) ≡ body_features ks
    by [] = refl
    by (k ∷ ks) = refl

module _ (MayEnter : ℕ → Option SignificantToken → Type 0) where
  of_line : {fs : List Fragment} {ns : Shown} {ts rest : Tokens} → LineRest lexeme nothing MayEnter fs ns ts rest → ns ≡ fragments_features fs
  of_line (g.line_ends kind) = refl
  of_line (g.body_ends kind) = refl
  of_line (g.text kind r) = of_line r
  of_line (g.interpolation kind x kind2 r) = λ i. of_expression MayEnter x i ++ of_line r i

  of_lines : {ls : List ShapeLine} {ns : Shown} {ts rest : Tokens} → BodyLines to_lexemes MayEnter ls ns ts rest → ns ≡ body_features ls
  of_lines (g.no_line kind) = refl
  of_lines (g.empty_line kind r) = of_lines r
  of_lines (g.some_line l r) = λ i. of_line l i ++ of_lines r i

  of_named : {kind : ParameterKind} {export : Bool} {p : ShapeParameter} {ns : Shown} {ts rest : Tokens} → NamedParameter lexeme nothing MayEnter kind export p ns ts rest
      → ns ≡ default_features p.default
  of_named (h.required kind next) = refl
  of_named (h.optional kind kind2 v) = of_value MayEnter v

  of_parameter : {kind : ParameterKind} {p : ShapeParameter} {ns : Shown} {ts rest : Tokens} → ParameterOf lexeme nothing MayEnter kind p ns ts rest → ns ≡ default_features p.default
  of_parameter (h.exported kind n) = of_named n
  of_parameter (h.unexported n) = of_named n

  of_parameters : {ps : List ShapeParameter} {ns : Shown} {ts rest : Tokens} → Parameters lexeme nothing MayEnter ps ns ts rest → ns ≡ parameters_features ps
  of_parameters (h.none kind) = refl
  of_parameters (h.more p r) = λ i. of_parameter p i ++ of_parameters r i
  of_parameters (h.plus {fs = ns} kind p kind2) = sym (append-nil ns) ∙ ap (λ x. x ++ []) (of_parameter p)
  of_parameters (h.star {fs = ns} kind p kind2) = sym (append-nil ns) ∙ ap (λ x. x ++ []) (of_parameter p)

  of_arguments : {arguments : List ShapeArgument} {ns : Shown} {ts rest : Tokens} → DependencyArguments lexeme nothing nothing MayEnter arguments ns ts rest
      → ns ≡ arguments_features arguments
  of_arguments (h.none kind) = refl
  of_arguments (h.plain x r) = λ i. of_expression MayEnter x i ++ of_arguments r i
  of_arguments (h.starred kind v r) = λ i. of_value MayEnter v i ++ of_arguments r i

  of_dependency : {d : ShapeDependency} {ns : Shown} {ts rest : Tokens} → DependencyOf lexeme nothing nothing MayEnter d ns ts rest → ns ≡ arguments_features d.arguments
  of_dependency (h.bare p) = refl
  of_dependency (h.plain kind p r) = of_arguments r
  of_dependency (h.starred kind kind2 p r) = of_arguments r

  of_dependencies : {ds : List ShapeDependency} {ns : Shown} {ts rest : Tokens} → Dependencies lexeme nothing nothing MayEnter ds ns ts rest → ns ≡ dependencies_features ds
  of_dependencies (h.none a b c) = refl
  of_dependencies (h.more d r) = λ i. of_dependency d i ++ of_dependencies r i

  of_all : {ds ss : List ShapeDependency} {ns : Shown} {ts rest : Tokens} → AllDependencies lexeme nothing nothing MayEnter ds ss ns ts rest
      → ns ≡ dependencies_features ds ++ dependencies_features ss
  of_all (h.priors {fs = ns} x next) = sym (append-nil ns) ∙ ap (λ y. y ++ []) (of_dependencies x)
  of_all (h.both x kind y) = λ i. of_dependencies x i ++ of_dependencies y i

  of_header : {header : ShapeHeader} {ns : Shown} {ts rest : Tokens} → HeaderOf lexeme nothing nothing MayEnter header ns ts rest → ns ≡ header_features header
  of_header (h.quiet kind (h.header kind2 ps all)) = λ i. of_parameters ps i ++ of_all all i
  of_header (h.loud (h.header kind2 ps all)) = λ i. of_parameters ps i ++ of_all all i

  of_setting : {form : SettingForm} {v : ShapeSetting} {ns : Shown} {ts rest : Tokens} → ValueOf lexeme nothing MayEnter form v ns ts rest → ns ≡ setting_features v
  of_setting (p.bare next) = refl
  of_setting (p.expression kind x) = of_expression MayEnter x
  of_setting (p.plain kind x) = of_expression MayEnter x
  of_setting (p.interpreter kind kind2 xs) = of_sequence MayEnter xs
  of_setting _ = refl

  of_item : {c : ShapeContent} {ns : Shown} {ts rest : Tokens} → OnLine to_lexemes MayEnter c ns ts rest → ns ≡ content_features c
  of_item (g.alias is kind kind2 to) = refl
  of_item (g.assignment kind kind2 x) = of_expression MayEnter x
  of_item (g.eager is kind kind2 x) = of_expression MayEnter x
  of_item (g.export is kind kind2 x) = of_expression MayEnter x
  of_item (g.function kind kind2 names kind3 x) = of_expression MayEnter x
  of_item (g.setting is named form v) = of_setting v
  of_item (g.header {fs = ns} x) = sym (append-nil ns) ∙ ap (λ y. y ++ []) (of_header x)
  of_item _ = refl

  of_block : {c : ShapeContent} {ns : Shown} {ts rest : Tokens} → Block to_lexemes MayEnter c ns ts rest → ns ≡ content_features c
  of_block (g.recipe {lines = lines} x start read some) = λ i. of_header x i ++ (of_lines read ∙ sym (trimmed_features lines)) i

  mutual
    of_items : {items : WrittenShape} {ns : List (ConstructFeatures (Unit {0}))} {ts : Tokens} → Items to_lexemes MayEnter items ns ts → ns ≡ items_features items
    of_items (g.end kind) = refl
    of_items (g.blank kind more) = of_items more
    of_items (g.comment kind more) = of_after more
    of_items (g.on_line {ws = ws} a i more) = λ j. record { attributes = of_attribute_lines MayEnter a j; content = of_item i j } ∷ of_after more j
    of_items (g.block {ws = ws} a i more) = λ j. record { attributes = of_attribute_lines MayEnter a j; content = of_block i j } ∷ of_items more j

    of_after : {items : WrittenShape} {ns : List (ConstructFeatures (Unit {0}))} {ts : Tokens} → ItemRest to_lexemes MayEnter items ns ts → ns ≡ items_features items
    of_after (g.trailing kind more) = of_end more
    of_after (g.bare more) = of_end more

    of_end : {items : WrittenShape} {ns : List (ConstructFeatures (Unit {0}))} {ts : Tokens} → LineEnd to_lexemes MayEnter items ns ts → ns ≡ items_features items
    of_end (g.line_end kind more) = of_items more
    of_end (g.file_end kind) = refl

  pub of_file : {items : WrittenShape} {ns : List (ConstructFeatures (Unit {0}))} {ts : Tokens} → File to_lexemes MayEnter items ns ts → ns ≡ items_features items
  of_file (g.with_byte_order_mark kind more) = of_items more
  of_file (g.without_byte_order_mark more) = of_items more
