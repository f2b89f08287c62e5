-- Reading a table of tokens returns what the definitions read.
use Rattle.std.specs.Prelude.{◌≡◌, ℕ, ◌≤◌, List, All, Option, Some, None, Ok, Err, map, string_bytes}
use Rattle.justfile_token.specs.CompileErrorKind.{tokens_in}
use Rattle.justfile_token.specs.Modulepath.{module_names, names_of}
use Rattle.justfile_numbers.specs.Numerator.{bindings_of, recipes_of}
use Rattle.justfile_token.specs.declared.compile_error.CompileError.{CompileError}
use Rattle.justfile_token.specs.declared.compile_error_kind.CompileErrorKind.{CompileErrorKind}
use Rattle.justfile_token.specs.declared.compile_error_kind.CompileErrorKind.TheVariants as error_kinds
use Rattle.justfile_token.specs.declared.fault.Fault.{Fault}
use Rattle.justfile_token.specs.declared.fault.Fault.TheVariants as faults
use Rattle.justfile_numbers.specs.declared.numerator.Numerator.{Numerator}
use Rattle.justfile_token.specs.declared.source.Source.{Source}
use Rattle.justfile_token.specs.declared.token.Token.{Token}
use Rattle.justfile_item.specs.Item.{item_of}
use Rattle.justfile_item.specs.declared.item.Item.{Item}
use Rattle.justfile_ast.specs.Ast.{noted_of, tree_of}
use Rattle.justfile_ast.specs.declared.ast.Ast.{Ast}
use Rattle.justfile_model.specs.Grammars.Features.{Noted}
use Rattle.justfile_model.specs.Grammars.Conditions.{Conditions, with_limit}
use Rattle.justfile_model.specs.Grammars.Files.{NumbersSuffice, ordered}
use Rattle.justfile_model.specs.Meanings.UnstableFeatures.{unstable_features}
use Rattle.justfile_model.specs.Trees.LeafView.{views_tokens}
use Rattle.justfile_model.specs.Lexing.SignificantTokens.{SignificantToken}
use Rattle.justfile_model.specs.Lexing.Tok.{Tok}
use Rattle.justfile_model.specs.Trees.Tree.{WrittenTree}
use Rattle.justfile_model.specs.Readers.TreeReader as tree
use Rattle.justfile_vocabulary.specs.declared.list_feature.ListFeature.{ListFeature}
use Rattle.justfile_parse_file.specs.Errors.{IsAt, IsErrorOf, IsUnexpected}
use Rattle.justfile_parse_docs.specs.ParsedItems.{AreNotedIn, IsFilledItems, IsInTable}
use Rattle.justfile_parse_expression.specs.Significant.{significant_of}
use Rattle.justfile_parse_file.specs.WantsNumber.{WantsNumber}
use Rattle.justfile_parse_expression.specs.Significant.{TableToken}
use Rattle.justfile_parse_expression.specs.TableReader.{Run}
use Rattle.justfile_parse_expression.specs.declared.expression_error.SyntaxError.{SyntaxError}
use Rattle.justfile_parse_expression.specs.declared.expression_error.SyntaxError.TheVariants.{Unexpected, TooDeep}
use Rattle.justfile_parse_expression.specs.declared.expression_error.ExpressionError.{ExpressionError}
use Rattle.justfile_parse_expression.specs.declared.expression_error.ExpressionError.TheVariants as causes

-- The kind is that of the syntax error at this token.
abbrev pub IsKindAt : SyntaxError → CompileErrorKind → Token → Type 0
IsKindAt Unexpected kind token = IsUnexpected kind token
IsKindAt TooDeep kind token = kind ≡ error_kinds.ParsingRecursionDepthExceeded

-- The error is that of the syntax error, at this token.
abbrev pub IsErrorAt : SyntaxError → Token → CompileError → Type 0
IsErrorAt refusal token error = IsKindAt refusal error.kind error.token × (error.token ≡ token)

-- The token is the next one, or the last of the table if none is left.
abbrev pub IsNextPlace : List TableToken → (next : Option TableToken) → Token → Type 0
IsNextPlace table (Some table_token) token = token ≡ table_token.0
IsNextPlace table None token = IsInTable table token × IsAt (map significant_of table) None token

-- The fault is that of the expression error: at the next token, or for a literal. Memory can run out for the list of expected tokens.
abbrev pub IsFaultOfExpression : List TableToken → (next : Option TableToken) → ExpressionError → Fault → Type 0
IsFaultOfExpression table next (causes.Refused refusal) (faults.Compile e) = IsKindAt refusal e.kind e.token × IsNextPlace table next e.token
IsFaultOfExpression table next (causes.Refused refusal) faults.Memory = refusal ≡ Unexpected
IsFaultOfExpression table next (causes.Literal refused) (faults.Compile e) = e ≡ refused.value.error
IsFaultOfExpression table next causes.Memory faults.Memory = Unit {0}
IsFaultOfExpression table next causes.Numbers faults.Numbers = Unit {0}
IsFaultOfExpression table next _ _ = ⊥

-- what stays the same while a file with this source is read
abbrev pub run_from : Conditions → List TableToken → Source → Run
run_from conditions table source = record { conditions = conditions; table = table; file_depth = source.file_depth; import_offsets = source.import_offsets.now }

-- The items are those of the written tree that the definitions read, the features are the ones that they read, and the numerator gave the
-- items' numbers.
pub record IsRead (run : Run) (old new : Numerator) (x : List Item × List (ListFeature × Token)) : Type 0 where
  pub written : WrittenTree
  pub read : tree.tree_of_tokens run.conditions (map significant_of run.table) ≡ Ok (written, map noted_of x.1)
  pub ordered_is : ordered (views_tokens run.conditions.expander) written ≡ Some (map item_of x.0)
  pub given : IsFilledItems run.conditions.expander (IsInTable run.table) run.file_depth run.import_offsets old new x.0
  pub noted : AreNotedIn run.table x.1

-- The items and the features of the file were read. Its unstable features are those of its tree, and its module and its folder are those of
-- its source.
pub record IsReadFile (conditions : Conditions) (table : List TableToken) (source : Source) (old new : Numerator) (ast : Ast) : Type 0 where
  pub read : IsRead (run_from conditions table source) old new (ast.items.items, ast.list_features.items)
  pub unstable : ast.unstable_features.keys ≡ unstable_features (tree_of ast)
  pub module_path : names_of ast.module_path ≡ module_names source.namepath
  pub working_directory : string_bytes ast.working_directory ≡ source.working_directory.now

-- The error is that of the read error, at a token that `IsToken` allows, and holds only such tokens.
pub record IsReadError (conditions : Conditions) (tokens : List SignificantToken) (IsToken : Token → Type 0) (e : CompileError) : Type 0 where
  pub refusal : tree.ReadError
  pub read : tree.tree_of_tokens conditions tokens ≡ Err refusal
  pub error : IsErrorOf tokens refusal e
  pub among : IsToken e.token
  pub held : All IsToken (tokens_in e.kind)

-- For no tree that is read under this limit or a greater one, the numbers suffice.
abbrev pub NeverEnough : Conditions → List SignificantToken → Numerator → Type 0
NeverEnough conditions tokens old = (limit : ℕ) → conditions.limit ≤ limit → (t : WrittenTree) (features : List (Noted Tok))
    → tree.tree_of_tokens (with_limit limit conditions) tokens ≡ Ok (t, features) → NumbersSuffice (bindings_of old) (recipes_of old) t → ⊥

-- The fault tells why nothing was read. If numbers ran out, they suffice for no tree.
abbrev pub IsUnread : Conditions → List SignificantToken → (Token → Type 0) → Numerator → Numerator → Fault → Type 0
IsUnread conditions tokens IsToken old new (faults.Compile e) = IsReadError conditions tokens IsToken e
IsUnread conditions tokens IsToken old new faults.Memory = Unit {0}
IsUnread conditions tokens IsToken old new faults.Numbers =
    WantsNumber conditions tokens old new
    × NeverEnough conditions tokens old
