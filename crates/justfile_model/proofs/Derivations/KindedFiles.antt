-- The attributes of a file that derives from tokens with the lexemes of their kinds have tokens of the kinds that the grammar requires and,
-- where the grammar determines it, with the required lexeme.
use Rattle.std.proofs.Common.{ℕ, Bool, List, [], ◌∷◌, Option}
use Rattle.justfile_model.specs.declared.parameter_kind.ParameterKind.{ParameterKind}
use Rattle.justfile_model.specs.Grammars.Expressions.{Tokens}
use Rattle.justfile_model.specs.Grammars.Features.{ConstructFeatures, Noted}
use Rattle.justfile_model.specs.Grammars.Files.{to_tokens}
use Rattle.justfile_model.specs.Grammars.Grammar as g
use Rattle.justfile_model.specs.Grammars.Grammar.{BeforeBody, Block, BodyLines, File, ItemRest, Items, LineEnd, LineRest, OnLine}
use Rattle.justfile_model.specs.Grammars.Headers as heads
use Rattle.justfile_model.specs.Grammars.Headers.{AllDependencies, Dependencies, DependencyArguments, DependencyOf, HeaderOf, NamedHeader, NamedParameter, ParameterOf, Parameters, PathOf, PathRest}
use Rattle.justfile_model.specs.Grammars.ItemParts as parts
use Rattle.justfile_model.specs.Grammars.ItemParts.{FilePath, Names, ValueOf}
use Rattle.justfile_model.specs.Lexing.SignificantTokens.{AllSpelled, SignificantToken}
use Rattle.justfile_model.specs.Lexing.Tok.{Tok}
use Rattle.justfile_model.specs.Trees.Tree as tree
use Rattle.justfile_model.specs.Trees.Tree.{BodyLine, Construct, Content, Dependency, DependencyArgument, Fragment, Header, Parameter, Quoted, SettingValue, WrittenItem, WrittenTree, itself}
use Rattle.justfile_model.proofs.Derivations.ExpressionProgress.{expression_left, value_left}
use Rattle.justfile_model.proofs.Derivations.HeaderProgress.{dependency_left, path_left}
use Rattle.justfile_model.proofs.Derivations.Kinded.{KindedWritten, after, lines_kinded, lines_spelled}
use Rattle.justfile_model.proofs.Derivations.PartProgress as progress
use Rattle.justfile_model.proofs.Derivations.PartProgress.{file_path_left}

-- the attributes of an item are so
abbrev pub KindedItem : WrittenItem Tok Tok ℕ Tok → Type 0
KindedItem tree.Newline = Unit {0}
KindedItem (tree.Comment text) = Unit {0}
KindedItem (Construct ws content) = KindedWritten ws

abbrev pub KindedItems : WrittenTree → Type 0
KindedItems [] = Unit {0}
KindedItems (i ∷ items) = KindedItem i × KindedItems items

before_spelled : {comment : Option (List ℕ)} {ts rest : Tokens} → BeforeBody comment ts rest → AllSpelled ts → AllSpelled rest
before_spelled (g.at_once kind kind2) s = s.1.1
before_spelled (g.commented kind kind2 kind3) s = s.1.1.1

names_spelled : {names : List Tok} {ts rest : Tokens} → Names itself names ts rest → AllSpelled ts → AllSpelled rest
names_spelled (parts.none k) s = s.1
names_spelled (parts.last k l) s = s.1.1
names_spelled (parts.more k l names) s = names_spelled names s.1.1

module _ (MayEnter : ℕ → Option SignificantToken → Type 0) where
  -- ---- what is after a header

  named_spelled : {kind : ParameterKind} {export : Bool} {p : Parameter Tok Tok} {fs : List (Noted Tok)} {ts rest : Tokens}
      → NamedParameter itself itself MayEnter kind export p fs ts rest → AllSpelled ts → AllSpelled rest
  named_spelled (heads.required k n) s = s.1
  named_spelled (heads.optional k l e) s = after (value_left itself itself MayEnter e) s.1.1

  parameter_spelled : {kind : ParameterKind} {p : Parameter Tok Tok} {fs : List (Noted Tok)} {ts rest : Tokens}
      → ParameterOf itself itself MayEnter kind p fs ts rest → AllSpelled ts → AllSpelled rest
  parameter_spelled (heads.exported k p) s = named_spelled p s.1
  parameter_spelled (heads.unexported p) s = named_spelled p s

  parameters_spelled : {ps : List (Parameter Tok Tok)} {fs : List (Noted Tok)} {ts rest : Tokens} → Parameters itself itself MayEnter ps fs ts rest
      → AllSpelled ts → AllSpelled rest
  parameters_spelled (heads.none k) s = s.1
  parameters_spelled (heads.more p ps) s = parameters_spelled ps (parameter_spelled p s)
  parameters_spelled (heads.plus k p l) s = (parameter_spelled p s.1).1
  parameters_spelled (heads.star k p l) s = (parameter_spelled p s.1).1

  dependencies_spelled : {ds : List (Dependency Tok Tok Tok)} {fs : List (Noted Tok)} {ts rest : Tokens}
      → Dependencies itself itself itself MayEnter ds fs ts rest → AllSpelled ts → AllSpelled rest
  dependencies_spelled (heads.none n n2 n3) s = s
  dependencies_spelled (heads.more d ds) s = dependencies_spelled ds (after (dependency_left itself itself itself MayEnter d) s)

  all_spelled : {ds ss : List (Dependency Tok Tok Tok)} {fs : List (Noted Tok)} {ts rest : Tokens}
      → AllDependencies itself itself itself MayEnter ds ss fs ts rest → AllSpelled ts → AllSpelled rest
  all_spelled (heads.priors ds n) s = dependencies_spelled ds s
  all_spelled (heads.both ds k ss) s = dependencies_spelled ss (dependencies_spelled ds s).1

  named_header_spelled : {quiet : Bool} {h : Header Tok Tok Tok} {fs : List (Noted Tok)} {ts rest : Tokens}
      → NamedHeader itself itself itself MayEnter quiet h fs ts rest → AllSpelled ts → AllSpelled rest
  named_header_spelled (heads.header k ps ds) s = all_spelled ds (parameters_spelled ps s.1)

  header_spelled : {h : Header Tok Tok Tok} {fs : List (Noted Tok)} {ts rest : Tokens} → HeaderOf itself itself itself MayEnter h fs ts rest → AllSpelled ts
      → AllSpelled rest
  header_spelled (heads.quiet k h) s = named_header_spelled h s.1
  header_spelled (heads.loud h) s = named_header_spelled h s

  -- ---- what is after a construct

  line_spelled : {fragments : List (Fragment Tok Tok)} {fs : List (Noted Tok)} {ts rest : Tokens} → LineRest itself itself MayEnter fragments fs ts rest
      → AllSpelled ts → AllSpelled rest
  line_spelled (g.line_ends kind) s = s.1
  line_spelled (g.body_ends kind) s = s
  line_spelled (g.text kind l) s = line_spelled l s.1
  line_spelled (g.interpolation kind e kind2 l) s = line_spelled l (after (expression_left itself itself MayEnter e) s.1).1

  body_spelled : {lines : List (BodyLine Tok Tok ℕ)} {fs : List (Noted Tok)} {ts rest : Tokens} → BodyLines to_tokens MayEnter lines fs ts rest
      → AllSpelled ts → AllSpelled rest
  body_spelled (g.no_line kind) s = s.1
  body_spelled (g.empty_line kind h) s = body_spelled h s.1
  body_spelled (g.some_line l h) s = body_spelled h (line_spelled l s)

  on_line_spelled : {c : Content Tok Tok ℕ Tok} {fs : List (Noted Tok)} {ts rest : Tokens} → OnLine to_tokens MayEnter c fs ts rest → AllSpelled ts
      → AllSpelled rest
  on_line_spelled (g.alias is kind kind2 p) s = after (path_left itself p) s.1.1.1
  on_line_spelled (g.assignment kind kind2 e) s = after (expression_left itself itself MayEnter e) s.1.1
  on_line_spelled (g.eager is kind kind2 e) s = after (expression_left itself itself MayEnter e) s.1.1.1
  on_line_spelled (g.export is kind kind2 e) s = after (expression_left itself itself MayEnter e) s.1.1.1
  on_line_spelled (g.function kind kind2 ns kind3 e) s = after (expression_left itself itself MayEnter e) (names_spelled ns s.1.1).1
  on_line_spelled (g.import is p) s = after (file_path_left itself p) s.1
  on_line_spelled (g.optional_import is kind p) s = after (file_path_left itself p) s.1.1
  on_line_spelled (g.module_alone is kind ends) s = s.1.1
  on_line_spelled (g.module_at is kind p) s = after (file_path_left itself p) s.1.1
  on_line_spelled (g.optional_module_alone is kind kind2 none) s = s.1.1.1
  on_line_spelled (g.optional_module_at is kind kind2 p) s = after (file_path_left itself p) s.1.1.1
  on_line_spelled (g.setting {name = name} is is2 form value) s = after (progress.value_left itself itself MayEnter {t = name} value) s.1
  on_line_spelled (g.unexport is kind ends) s = s.1.1
  on_line_spelled (g.header h) s = header_spelled h s

  block_spelled : {c : Content Tok Tok ℕ Tok} {fs : List (Noted Tok)} {ts rest : Tokens} → Block to_tokens MayEnter c fs ts rest → AllSpelled ts
      → AllSpelled rest
  block_spelled (g.recipe h b lines some) s = body_spelled lines (before_spelled b (header_spelled h s))

  -- ---- items

  mutual
    pub items_kinded : {all : WrittenTree} {fs : List (ConstructFeatures Tok)} {ts : Tokens} → Items to_tokens MayEnter all fs ts → AllSpelled ts → KindedItems all
    items_kinded (g.end kind) s = tt
    items_kinded (g.blank kind h) s = (tt, items_kinded h s.1)
    items_kinded (g.comment kind h) s = (tt, rest_kinded h s.1)
    items_kinded (g.on_line a o h) s = (lines_kinded MayEnter a s, rest_kinded h (on_line_spelled o (lines_spelled MayEnter a s)))
    items_kinded (g.block a b h) s = (lines_kinded MayEnter a s, (tt, items_kinded h (block_spelled b (lines_spelled MayEnter a s))))

    rest_kinded : {all : WrittenTree} {fs : List (ConstructFeatures Tok)} {ts : Tokens} → ItemRest to_tokens MayEnter all fs ts → AllSpelled ts → KindedItems all
    rest_kinded (g.trailing kind h) s = (tt, end_kinded h s.1)
    rest_kinded (g.bare h) s = end_kinded h s

    end_kinded : {all : WrittenTree} {fs : List (ConstructFeatures Tok)} {ts : Tokens} → LineEnd to_tokens MayEnter all fs ts → AllSpelled ts → KindedItems all
    end_kinded (g.line_end kind h) s = (tt, items_kinded h s.1)
    end_kinded (g.file_end kind) s = tt

  pub file_kinded : {all : WrittenTree} {fs : List (ConstructFeatures Tok)} {ts : Tokens} → File to_tokens MayEnter all fs ts → AllSpelled ts → KindedItems all
  file_kinded (g.with_byte_order_mark kind h) s = items_kinded h s.1
  file_kinded (g.without_byte_order_mark h) s = items_kinded h s
