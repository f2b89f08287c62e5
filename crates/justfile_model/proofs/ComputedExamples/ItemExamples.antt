-- Examples of items that are parsed, of errors, and of printed text, computed from the definitions.
use Rattle.std.proofs.Common.{◌≡◌, ℕ, false, true, List, [], ◌∷◌, ◌++◌, None, Some, Option, Result, Ok, Err, codes, refl, ◌*◌, ◌+◌, length}
use Rattle.std.specs.Char.{encode_utf8}
use Rattle.std.specs.Str.{chars, trim_end, trim_start, is_utf8}
use Rattle.justfile_vocabulary.specs.AttributeKind.{kind_named}
use Rattle.justfile_vocabulary.specs.Keyword.{keyword_named}
use Rattle.justfile_vocabulary.specs.declared.attribute_kind.AttributeKind.TheVariants as attributes_of
use Rattle.justfile_vocabulary.specs.declared.item_kind.ItemKind.TheVariants as items
use Rattle.justfile_vocabulary.specs.declared.keyword.Keyword.{Keyword}
use Rattle.justfile_vocabulary.specs.declared.keyword.Keyword.TheVariants as words
use Rattle.justfile_vocabulary.specs.declared.token_kind.TokenKind.{TokenKind}
use Rattle.justfile_vocabulary.specs.declared.token_kind.TokenKind.TheVariants as kinds
use Rattle.justfile_vocabulary.specs.declared.unstable_feature.UnstableFeature.{UnstableFeature}
use Rattle.justfile_vocabulary.specs.declared.unstable_feature.UnstableFeature.TheVariants.{ListsSetting, UserDefinedFunctions}
use Rattle.justfile_model.specs.Meanings.AttributeKinds.{same_attribute}
use Rattle.justfile_model.specs.Readers.AttributeReader.{arguments, attribute, attribute_lines, attribute_lines_from, attributes_end, bracket_end, bracketed, kind_at, line_end_after, made, argument, arguments_end, arguments_from, placed, positional}
use Rattle.justfile_model.specs.Grammars.Conditions.{Conditions}
use Rattle.justfile_model.specs.Meanings.Enabled.{indentation_of}
use Rattle.justfile_model.specs.Readers.ExpressionReader.{accept_operator, assert_rule, backtick, binary_rule, conjunct_rule, cooked, element_rule, format_rule, group_rule, list_rule, literal, literal_string, name_rule, read, sequence_rule, value_rule}
use Rattle.justfile_model.specs.Grammars.Files.{ordered}
use Rattle.justfile_model.specs.Readers.HeaderReader.{bare_dependency, default_value, dependencies, dependencies_rule, dependency, distinct_options, next_binding_number, header, last_parameter, named_parameter, parameter, parameters, path, path_rest, path_rest_rule, singulars, singulars_rule, subsequents, dependency_argument, dependency_arguments, dependency_arguments_rule, parenthesized, plain_argument, starred_argument, variadic}
use Rattle.justfile_model.specs.Readers.NewAttribute.{new_attribute}
use Rattle.justfile_model.specs.Printed.NormalShape.{normal}
use Rattle.justfile_model.specs.Readers.PartReader.{accept_keyword_before, after_numbered, expansion_mark, expression_value, file_path, interpreter, setting_keyword, names, names_end, names_rule, numbered_name, optional_path, plain_value, truth, truth_of}
use Rattle.justfile_model.specs.Printed.Printing.{fixed_text, text}
use Rattle.justfile_model.specs.Readers.Reader as reader
use Rattle.justfile_model.specs.Readers.Reader.{alias, any_module, any_recipe, assignment, at_end, attributes, body_after, construct, content, next_recipe_number, item_end, function, import, imported, after_item, items_from, items_rule, line, line_end, named_module, any_item, optional_body, recipe, setting, unexport, without_keyword, body, body_line, fragment, line_rest, line_rest_rule, lines, lines_rule}
use Rattle.justfile_model.specs.Readers.ReaderState.{BreaksRule, Counters, ExpectedKeyword, UnknownSetting, accept, accept_marked, accepted, accept_keyword, begin_with, expect, is_word, prepend, refused, same_kind, AfterVariadic, Extraneous, Unexpected}
use Rattle.justfile_model.specs.Lists.Recursive.{below, recursive, turns}
use Rattle.justfile_model.specs.Meanings.Rules.{InvalidAttribute, InvalidIndentation, InvalidMinimumVersion, MinimumVersion, SettingExpression, MappedDependencyMultipleStarredArguments, MappedDependencyWithoutStarredArgument, StarredArgumentOutsideMappedDependency, UndefinedArgAttribute}
use Rattle.justfile_model.specs.Trees.LeafView.{views_tokens}
use Rattle.justfile_model.specs.Lexing.SignificantTokens.{SignificantToken, significant_tokens}
use Rattle.justfile_model.specs.Lexing.Tok.{Tok, tok}
use Rattle.justfile_model.specs.Trees.Tree as tree
use Rattle.justfile_model.specs.Trees.Tree.{Construct, Content, Entry, Quoted, SettingValue, Tree, WrittenTree, assignment_of, bare_module, shape_of, Header, WrittenAttribute, bare_attribute, bare_recipe}
use Rattle.justfile_model.specs.Readers.TreeReader.{ReadError, State, start_state, token_attributes, token_leaves, tree_of_tokens, unnumbered}
use Rattle.justfile_model.specs.Meanings.UnstableFeatures.{unstable_features}
use Rattle.justfile_model.proofs.ComputedExamples.Tables.{Gives, pair}
use Rattle.justfile_model.specs.declared.parameter_kind.ParameterKind.TheVariants as parameter_kinds
use Rattle.justfile_model.specs.Readers.HeaderReader as headers
use Rattle.justfile_model.proofs.Lexing.AnswerLaws.{at as token_at, fault_of, is_eof, span_of}
use Rattle.justfile_model.proofs.Lexing.Computed.{answer}
use Rattle.justfile_model.specs.Lexing.Bytes.{closes_levels}
use Rattle.justfile_model.specs.Grammars.Features.{Noted}
use Rattle.justfile_model.specs.Lexing.LexicalFault.{LexicalFault}
use Rattle.justfile_model.specs.Lexing.LiteralText.{pieces_len}
use Rattle.justfile_model.specs.Lexing.Next.{body_token, fixed_token, layout, literal_part, next, token_by_class, token_within_line}
use Rattle.justfile_model.specs.Lexing.Places.{column_at, last_line_start, line_of_offset}
use Rattle.justfile_vocabulary.specs.ByteClass.{class_of}

-- the running version is 1.58.0, and texts are expanded to themselves
abbrev conditions : Conditions
conditions = record { limit = 256; expander = λ text. Some (Ok text); current = record { major = 1; minor = 58; patch = 0 } }

-- a token at this offset
abbrev at : ℕ → TokenKind → List ℕ → SignificantToken
at offset kind lexeme = record { tok = tok kind lexeme offset 0 offset; glued = false }

abbrev name : ℕ → List ℕ → SignificantToken
name offset lexeme = at offset kinds.Identifier lexeme

abbrev string : ℕ → List ℕ → SignificantToken
string offset lexeme = at offset kinds.StringToken lexeme

abbrev assigns : ℕ → SignificantToken
assigns offset = at offset kinds.ColonEquals (codes ":=")

abbrev line_end_at : ℕ → SignificantToken
line_end_at offset = at offset kinds.Eol (codes "\n")

abbrev file_end_at : ℕ → SignificantToken
file_end_at offset = at offset kinds.Eof []

-- a construct without attributes, and the end of its line
abbrev alone : Content Tok Tok ℕ Tok → WrittenTree
alone content = Construct [] content ∷ tree.Newline ∷ []

-- the printed text of a written tree, at four blanks
abbrev printed : WrittenTree → List ℕ
printed written = text_of (ordered (views_tokens conditions.expander) written)
  where
    text_of : Option Tree → List ℕ
    text_of None = []
    text_of (Some t) = text (normal (shape_of t)) (codes "    ")

read_tokens : Gives (tree_of_tokens conditions) (
    -- `set quiet := true`
    pair (name 0 (codes "set") ∷ name 4 (codes "quiet") ∷ assigns 10 ∷ name 13 (codes "true") ∷ line_end_at 17 ∷ file_end_at 18 ∷ [])
    (Ok (alone (tree.Setting (record { keyword = words.Quiet; name = (name 4 (codes "quiet")).tok; value = tree.Truth true })), []))
    -- `set lists := false`
    ∷ pair (name 0 (codes "set") ∷ name 4 (codes "lists") ∷ assigns 10 ∷ name 13 (codes "false") ∷ line_end_at 18 ∷ file_end_at 19 ∷ [])
    (Ok (alone (tree.Setting (record { keyword = words.Lists; name = (name 4 (codes "lists")).tok; value = tree.Truth false })), []))
    -- `set quiet`, at the end of the file
    ∷ pair (name 0 (codes "set") ∷ name 4 (codes "quiet") ∷ file_end_at 9 ∷ [])
    (Ok (Construct [] (tree.Setting (record { keyword = words.Quiet; name = (name 4 (codes "quiet")).tok; value = tree.Truth true })) ∷ [], []))
    -- `set: x` is a recipe, and `set := x` an assignment
    ∷ pair (name 0 (codes "set") ∷ at 3 kinds.Colon (codes ":") ∷ name 5 (codes "x") ∷ file_end_at 6 ∷ [])
    (Ok (Construct [] (tree.Recipe (tree.bare_recipe (record { quiet = false; name = (name 0 (codes "set")).tok; parameters = []; priors = record { star = None; path = (name 5 (codes "x")).tok ∷ []; arguments = [] } ∷ []; subsequents = [] }) None [])) ∷ [], []))
    ∷ pair (name 0 (codes "set") ∷ assigns 4 ∷ name 7 (codes "x") ∷ file_end_at 8 ∷ [])
    (Ok (Construct [] (tree.Assignment (assignment_of false false (name 0 (codes "set")).tok (tree.Variable (name 7 (codes "x")).tok))) ∷ [], []))
    -- `alias:` is a recipe
    ∷ pair (name 0 (codes "alias") ∷ at 5 kinds.Colon (codes ":") ∷ file_end_at 6 ∷ [])
    (Ok (Construct [] (tree.Recipe (tree.bare_recipe (record { quiet = false; name = (name 0 (codes "alias")).tok; parameters = []; priors = []; subsequents = [] }) None [])) ∷ [], []))
    -- `if:` too
    ∷ pair (name 0 (codes "if") ∷ at 2 kinds.Colon (codes ":") ∷ file_end_at 3 ∷ [])
    (Ok (Construct [] (tree.Recipe (tree.bare_recipe (record { quiet = false; name = (name 0 (codes "if")).tok; parameters = []; priors = []; subsequents = [] }) None [])) ∷ [], []))
    -- `mod f'p'` is a module `f`, although the `f` is glued to the string
    ∷ pair (name 0 (codes "mod") ∷ name 4 (codes "f") ∷ string 5 (codes "'p'") ∷ line_end_at 8 ∷ file_end_at 9 ∷ [])
    (Ok (alone (tree.Module (bare_module false (name 4 (codes "f")).tok (Some (record { expanded = false; token = (string 5 (codes "'p'")).tok })))), []))
    -- `import x 'p'` has a path that is expanded
    ∷ pair (name 0 (codes "import") ∷ name 7 (codes "x") ∷ string 9 (codes "'p'") ∷ line_end_at 12 ∷ file_end_at 13 ∷ [])
    (Ok (alone (tree.Import (record { optional = false; path = record { expanded = true; token = (string 9 (codes "'p'")).tok } })), []))
    -- `import y 'p'`: no other word can precede a path
    ∷ pair (name 0 (codes "import") ∷ name 7 (codes "y") ∷ string 9 (codes "'p'") ∷ line_end_at 12 ∷ file_end_at 13 ∷ [])
    (Err (ExpectedKeyword (words.X ∷ []) (name 7 (codes "y")).tok))
    -- `import? 'p'`
    ∷ pair (name 0 (codes "import") ∷ at 6 kinds.QuestionMark (codes "?") ∷ string 8 (codes "'p'") ∷ line_end_at 11 ∷ file_end_at 12 ∷ [])
    (Ok (alone (tree.Import (record { optional = true; path = record { expanded = false; token = (string 8 (codes "'p'")).tok } })), []))
    -- `mod? foo`
    ∷ pair (name 0 (codes "mod") ∷ at 3 kinds.QuestionMark (codes "?") ∷ name 5 (codes "foo") ∷ file_end_at 8 ∷ [])
    (Ok (Construct [] (tree.Module (bare_module true (name 5 (codes "foo")).tok None)) ∷ [], []))
    -- `mod foo`
    ∷ pair (name 0 (codes "mod") ∷ name 4 (codes "foo") ∷ file_end_at 7 ∷ [])
    (Ok (Construct [] (tree.Module (bare_module false (name 4 (codes "foo")).tok None)) ∷ [], []))
    -- `set shell := ['bash', '-cu',]`
    ∷ pair (name 0 (codes "set") ∷ name 4 (codes "shell") ∷ assigns 10 ∷ at 13 kinds.BracketL (codes "[") ∷ string 14 (codes "'bash'") ∷ at 20 kinds.Comma (codes ",") ∷ string 22 (codes "'-cu'") ∷ at 27 kinds.Comma (codes ",") ∷ at 28 kinds.BracketR (codes "]") ∷ line_end_at 29 ∷ file_end_at 30 ∷ [])
    (Ok (alone (tree.Setting (record { keyword = words.Shell; name = (name 4 (codes "shell")).tok; value = tree.Interpreter (tree.StringLiteral false (string 14 (codes "'bash'")).tok) (tree.more (tree.StringLiteral false (string 22 (codes "'-cu'")).tok) tree.none) })), []))
    -- `f(a, b,) := a`
    ∷ pair (name 0 (codes "f") ∷ at 1 kinds.ParenL (codes "(") ∷ name 2 (codes "a") ∷ at 3 kinds.Comma (codes ",") ∷ name 5 (codes "b") ∷ at 6 kinds.Comma (codes ",") ∷ at 7 kinds.ParenR (codes ")") ∷ assigns 9 ∷ name 12 (codes "a") ∷ line_end_at 13 ∷ file_end_at 14 ∷ [])
    (Ok (alone (tree.Function (record { name = (name 0 (codes "f")).tok; parameters = (name 2 (codes "a")).tok ∷ (name 5 (codes "b")).tok ∷ []; body = tree.Variable (name 12 (codes "a")).tok })), []))
    -- `unexport  A`
    ∷ pair (name 0 (codes "unexport") ∷ name 10 (codes "A") ∷ line_end_at 11 ∷ file_end_at 12 ∷ [])
    (Ok (alone (tree.Unexport (name 10 (codes "A")).tok), []))
    -- `alias b:=x::y`
    ∷ pair (name 0 (codes "alias") ∷ name 6 (codes "b") ∷ assigns 7 ∷ name 9 (codes "x") ∷ at 10 kinds.ColonColon (codes "::") ∷ name 12 (codes "y") ∷ file_end_at 13 ∷ [])
    (Ok (Construct [] (tree.Alias (record { name = (name 6 (codes "b")).tok; target = (name 9 (codes "x")).tok ∷ (name 12 (codes "y")).tok ∷ [] })) ∷ [], []))
    -- `export a := b`
    ∷ pair (name 0 (codes "export") ∷ name 7 (codes "a") ∷ assigns 9 ∷ name 12 (codes "b") ∷ file_end_at 13 ∷ [])
    (Ok (Construct [] (tree.Assignment (assignment_of false true (name 7 (codes "a")).tok (tree.Variable (name 12 (codes "b")).tok))) ∷ [], []))
    -- `eager a := b`
    ∷ pair (name 0 (codes "eager") ∷ name 6 (codes "a") ∷ assigns 8 ∷ name 11 (codes "b") ∷ file_end_at 12 ∷ [])
    (Ok (Construct [] (tree.Assignment (assignment_of true false (name 6 (codes "a")).tok (tree.Variable (name 11 (codes "b")).tok))) ∷ [], []))
    -- `set dotenv-load := yes`
    ∷ pair (name 0 (codes "set") ∷ name 4 (codes "dotenv-load") ∷ assigns 16 ∷ name 19 (codes "yes") ∷ line_end_at 22 ∷ file_end_at 23 ∷ [])
    (Err (ExpectedKeyword (words.True ∷ words.False ∷ []) (name 19 (codes "yes")).tok))
    -- `set alias := 'x'`
    ∷ pair (name 0 (codes "set") ∷ name 4 (codes "alias") ∷ assigns 10 ∷ string 13 (codes "'x'") ∷ line_end_at 16 ∷ file_end_at 17 ∷ [])
    (Err (UnknownSetting (name 4 (codes "alias")).tok))
    -- `set foo := 'x'`
    ∷ pair (name 0 (codes "set") ∷ name 4 (codes "foo") ∷ assigns 8 ∷ string 11 (codes "'x'") ∷ line_end_at 14 ∷ file_end_at 15 ∷ [])
    (Err (UnknownSetting (name 4 (codes "foo")).tok))
    -- `set indentation := ''`
    ∷ pair (name 0 (codes "set") ∷ name 4 (codes "indentation") ∷ assigns 16 ∷ string 19 (codes "''") ∷ line_end_at 21 ∷ file_end_at 22 ∷ [])
    (Err (BreaksRule (record { rule = InvalidIndentation (codes "indentation must not be empty"); token = (string 19 (codes "''")).tok })))
    -- `set indentation := x`: `x` isn't a plain literal
    ∷ pair (name 0 (codes "set") ∷ name 4 (codes "indentation") ∷ assigns 16 ∷ name 19 (codes "x") ∷ line_end_at 21 ∷ file_end_at 22 ∷ [])
    (Err (BreaksRule (record { rule = SettingExpression words.Indentation; token = (name 4 (codes "indentation")).tok })))
    -- `set minimum-version := '1.59.0'`
    ∷ pair (name 0 (codes "set") ∷ name 4 (codes "minimum-version") ∷ assigns 20 ∷ string 23 (codes "'1.59.0'") ∷ line_end_at 31 ∷ file_end_at 32 ∷ [])
    (Err (BreaksRule (record { rule = MinimumVersion (record { major = 1; minor = 59; patch = 0 }) conditions.current; token = (string 23 (codes "'1.59.0'")).tok })))
    -- `set minimum-version := '1.9.99'`: the running version is later, number by number
    ∷ pair (name 0 (codes "set") ∷ name 4 (codes "minimum-version") ∷ assigns 20 ∷ string 23 (codes "'1.9.99'") ∷ line_end_at 31 ∷ file_end_at 32 ∷ [])
    (Ok (alone (tree.Setting (record { keyword = words.MinimumVersion; name = (name 4 (codes "minimum-version")).tok; value = tree.Value (tree.StringLiteral false (string 23 (codes "'1.9.99'")).tok) })), []))
    -- `set minimum-version := '1.2'`
    ∷ pair (name 0 (codes "set") ∷ name 4 (codes "minimum-version") ∷ assigns 20 ∷ string 23 (codes "'1.2'") ∷ line_end_at 31 ∷ file_end_at 32 ∷ [])
    (Err (BreaksRule (record { rule = InvalidMinimumVersion (codes "1.2"); token = (string 23 (codes "'1.2'")).tok })))
    -- `[private]` before `unexport A`
    ∷ pair (at 0 kinds.BracketL (codes "[") ∷ name 1 (codes "private") ∷ at 8 kinds.BracketR (codes "]") ∷ line_end_at 9 ∷ name 10 (codes "unexport") ∷ name 19 (codes "A") ∷ line_end_at 20 ∷ file_end_at 21 ∷ [])
    (Err (BreaksRule (record { rule = InvalidAttribute items.Unexport attributes_of.Private; token = (name 19 (codes "A")).tok })))
    ∷ [])
unfolding tree_of_tokens reader.file items_from items_rule line any_item construct attributes attribute_lines attribute_lines_from bracketed attribute kind_at arguments made bracket_end attributes_end line_end_after accept begin_with expect refused same_kind below recursive turns new_attribute kind_named same_attribute content without_keyword recipe any_recipe header distinct_options parameters singulars singulars_rule last_parameter dependencies dependencies_rule subsequents accepted optional_body body_after next_recipe_number item_end after_item line_end after_numbered at_end read value_rule conjunct_rule binary_rule accept_operator literal literal_string cooked accept_keyword accept_marked backtick format_rule list_rule group_rule name_rule is_word assert_rule assignment next_binding_number accept_keyword_before alias function import imported any_module named_module setting unexport path path_rest path_rest_rule prepend file_path expansion_mark optional_path names names_rule names_end numbered_name setting_keyword keyword_named truth truth_of interpreter expression_value plain_value sequence_rule element_rule parameter named_parameter default_value dependency bare_dependency
read_tokens = refl

-- ---- attributes and headers

-- `[private]` and the end of its line
abbrev private_line : List SignificantToken → List SignificantToken
private_line ts = at 0 kinds.BracketL (codes "[") ∷ at 1 kinds.Identifier (codes "private") ∷ at 8 kinds.BracketR (codes "]") ∷ at 9 kinds.Eol (codes "\n") ∷ ts

-- `foo:` and the end of its line and of the file
abbrev recipe_line : List SignificantToken
recipe_line = at 10 kinds.Identifier (codes "foo") ∷ at 13 kinds.Colon (codes ":") ∷ at 14 kinds.Eol (codes "\n") ∷ at 15 kinds.Eof [] ∷ []

abbrev private : WrittenAttribute Tok Tok
private = bare_attribute (at 1 kinds.Identifier (codes "private")).tok []

abbrev foo : Content Tok Tok ℕ Tok
foo = tree.Recipe (bare_recipe (record { quiet = false; name = (at 10 kinds.Identifier (codes "foo")).tok; parameters = []; priors = []; subsequents = [] }) None [])

-- `[arg('a')]` and the end of its line
abbrev arg_line : List SignificantToken → List SignificantToken
arg_line ts =
    at 0 kinds.BracketL (codes "[") ∷ at 1 kinds.Identifier (codes "arg") ∷ at 4 kinds.ParenL (codes "(") ∷ at 5 kinds.StringToken (codes "'a'")
    ∷ at 8 kinds.ParenR (codes ")") ∷ at 9 kinds.BracketR (codes "]") ∷ at 9 kinds.Eol (codes "\n") ∷ ts

-- `[script]` and the end of its line, and then `x := y`
abbrev script_line : List SignificantToken
script_line =
    at 0 kinds.BracketL (codes "[") ∷ at 1 kinds.Identifier (codes "script") ∷ at 7 kinds.BracketR (codes "]") ∷ at 8 kinds.Eol (codes "\n")
    ∷ at 9 kinds.Identifier (codes "x") ∷ at 11 kinds.ColonEquals (codes ":=") ∷ at 14 kinds.Identifier (codes "y") ∷ at 15 kinds.Eof [] ∷ []

-- tokens after `foo:`, and the end of the file
abbrev after_foo : List SignificantToken
after_foo = at 20 kinds.Eof [] ∷ []

abbrev whole_header : Header Tok Tok Tok
whole_header = record {
  quiet = true;
  name = (name 1 (codes "foo")).tok;
  parameters = record { kind = parameter_kinds.Singular; export = true; name = (name 6 (codes "a")).tok; default = Some (tree.Variable (name 8 (codes "x")).tok) }
      ∷ record { kind = parameter_kinds.Star; export = false; name = (name 11 (codes "b")).tok; default = None } ∷ [];
  priors = record { star = None; path = (name 14 (codes "c")).tok ∷ []; arguments = [] } ∷ [];
  subsequents = record { star = None; path = (name 18 (codes "d")).tok ∷ (name 19 (codes "e")).tok ∷ []; arguments = [] } ∷ [];
}

abbrev mapped_header : Header Tok Tok Tok
mapped_header = record {
  quiet = false;
  name = (name 0 (codes "foo")).tok;
  parameters = [];
  priors = record {
    star = Some (at 5 kinds.Asterisk (codes "*")).tok;
    path = (name 7 (codes "b")).tok ∷ [];
    arguments = record { star = Some (at 9 kinds.Asterisk (codes "*")).tok; value = tree.Variable (name 10 (codes "x")).tok }
        ∷ record { star = None; value = tree.Root (at 12 kinds.Slash (codes "/")).tok (tree.Variable (name 14 (codes "y")).tok) } ∷ [];
  } ∷ [];
  subsequents = [];
}

read_attributes_and_headers : Gives (tree_of_tokens conditions) (
    -- a blank line after an attribute
    pair (private_line (at 10 kinds.Eol (codes "\n") ∷ recipe_line))
    (Err (Extraneous 1 (at 0 kinds.BracketL (codes "[")).tok))
    -- the end of the file after an attribute isn't a construct
    ∷ pair (private_line (at 10 kinds.Eof [] ∷ []))
    (Err (Unexpected (Some (at 10 kinds.Eof []))))
    -- a recipe with an attribute
    ∷ pair (private_line recipe_line)
    (Ok (Construct (private ∷ []) foo ∷ tree.Newline ∷ [], []))
    -- an attribute for a parameter that doesn't exist
    ∷ pair (arg_line recipe_line)
    (Err (BreaksRule (record { rule = UndefinedArgAttribute (codes "a"); token = (at 5 kinds.StringToken (codes "'a'")).tok })))
    -- an attribute that no assignment may have
    ∷ pair script_line
    (Err (BreaksRule (record { rule = InvalidAttribute items.Assignment attributes_of.Script; token = (at 9 kinds.Identifier (codes "x")).tok })))
    -- `*(b x)` has no star inside
    ∷ pair (name 0 (codes "foo") ∷ at 3 kinds.Colon (codes ":") ∷ at 5 kinds.Asterisk (codes "*") ∷ at 6 kinds.ParenL (codes "(")
    ∷ name 7 (codes "b") ∷ name 9 (codes "x") ∷ at 10 kinds.ParenR (codes ")") ∷ after_foo)
    (Err (BreaksRule (record { rule = MappedDependencyWithoutStarredArgument; token = (at 5 kinds.Asterisk (codes "*")).tok })))
    -- `(b *x)` has no star before it
    ∷ pair (name 0 (codes "foo") ∷ at 3 kinds.Colon (codes ":") ∷ at 5 kinds.ParenL (codes "(")
    ∷ name 6 (codes "b") ∷ at 8 kinds.Asterisk (codes "*") ∷ name 9 (codes "x") ∷ at 10 kinds.ParenR (codes ")") ∷ after_foo)
    (Err (BreaksRule (record { rule = StarredArgumentOutsideMappedDependency; token = (at 8 kinds.Asterisk (codes "*")).tok })))
    -- `*(b *x *` is an error before what follows
    ∷ pair (name 0 (codes "foo") ∷ at 3 kinds.Colon (codes ":") ∷ at 5 kinds.Asterisk (codes "*") ∷ at 6 kinds.ParenL (codes "(")
    ∷ name 7 (codes "b") ∷ at 9 kinds.Asterisk (codes "*") ∷ name 10 (codes "x") ∷ at 12 kinds.Asterisk (codes "*") ∷ after_foo)
    (Err (BreaksRule (record { rule = MappedDependencyMultipleStarredArguments; token = (at 12 kinds.Asterisk (codes "*")).tok })))
    -- `foo +a b:` has a parameter after one that takes several arguments
    ∷ pair (name 0 (codes "foo") ∷ at 4 kinds.Plus (codes "+") ∷ name 5 (codes "a") ∷ name 7 (codes "b") ∷ at 8 kinds.Colon (codes ":") ∷ after_foo)
    (Err (AfterVariadic (name 7 (codes "b")).tok))
    -- `foo: &&` requires a dependency
    ∷ pair (name 0 (codes "foo") ∷ at 3 kinds.Colon (codes ":") ∷ at 5 kinds.AmpersandAmpersand (codes "&&") ∷ after_foo)
    (Err (Unexpected (Some (at 20 kinds.Eof []))))
    -- `@foo $a=x *b: c && d::e`
    ∷ pair (at 0 kinds.At (codes "@") ∷ name 1 (codes "foo") ∷ at 5 kinds.Dollar (codes "$") ∷ name 6 (codes "a") ∷ at 7 kinds.Equals (codes "=")
    ∷ name 8 (codes "x") ∷ at 10 kinds.Asterisk (codes "*") ∷ name 11 (codes "b") ∷ at 12 kinds.Colon (codes ":") ∷ name 14 (codes "c") ∷ at 16 kinds.AmpersandAmpersand (codes "&&")
    ∷ name 18 (codes "d") ∷ at 18 kinds.ColonColon (codes "::") ∷ name 19 (codes "e") ∷ after_foo)
    (Ok (Construct [] (tree.Recipe (bare_recipe whole_header None [])) ∷ [], []))
    -- `foo: *(b *x / y)` has two arguments, since a starred one is a value
    ∷ pair (name 0 (codes "foo") ∷ at 3 kinds.Colon (codes ":") ∷ at 5 kinds.Asterisk (codes "*") ∷ at 6 kinds.ParenL (codes "(")
    ∷ name 7 (codes "b") ∷ at 9 kinds.Asterisk (codes "*") ∷ name 10 (codes "x") ∷ at 12 kinds.Slash (codes "/") ∷ name 14 (codes "y") ∷ at 15 kinds.ParenR (codes ")") ∷ after_foo)
    (Ok (Construct [] (tree.Recipe (bare_recipe mapped_header None [])) ∷ [], []))
    ∷ [])
unfolding tree_of_tokens reader.file items_from items_rule line any_item construct attributes attribute_lines attribute_lines_from bracketed attribute kind_at arguments made bracket_end attributes_end line_end_after accept begin_with expect refused same_kind below recursive turns new_attribute kind_named same_attribute content accept_keyword_before accept_keyword is_word without_keyword recipe any_recipe header distinct_options parameters singulars singulars_rule last_parameter dependencies dependencies_rule subsequents accepted optional_body body_after next_recipe_number item_end after_item line_end after_numbered at_end arguments_from argument positional placed arguments_end read value_rule conjunct_rule binary_rule accept_operator literal literal_string cooked accept_marked backtick format_rule list_rule group_rule name_rule assert_rule assignment next_binding_number dependency bare_dependency path path_rest path_rest_rule parenthesized dependency_arguments dependency_arguments_rule dependency_argument plain_argument starred_argument prepend parameter named_parameter default_value variadic headers.expect_no_name
read_attributes_and_headers = refl

-- ---- what is printed, and what is unstable

-- a setting with this value
abbrev set_to : Keyword → (spelled : List ℕ) → SettingValue Tok Tok → Content Tok Tok ℕ Tok
set_to keyword spelled value = tree.Setting (record { keyword = keyword; name = (name 4 spelled).tok; value = value })

abbrev settings : WrittenTree
settings = alone (set_to words.Quiet (codes "quiet") (tree.Truth true)) ++ alone (set_to words.Lists (codes "lists") (tree.Truth false))

-- what a written tree uses
abbrev unstable_in : WrittenTree → List UnstableFeature
unstable_in written = used (ordered (views_tokens conditions.expander) written)
  where
    used : Option Tree → List UnstableFeature
    used None = []
    used (Some t) = unstable_features t

settings_use : unstable_in settings ≡ ListsSetting ∷ []
settings_use = refl

abbrev plain_path : Quoted Tok
plain_path = record { expanded = false; token = (string 5 (codes "'p'")).tok }

abbrev f_of_a_b : WrittenTree
f_of_a_b = alone (tree.Function (record {
  name = (name 0 (codes "f")).tok;
  parameters = (name 2 (codes "a")).tok ∷ (name 5 (codes "b")).tok ∷ [];
  body = tree.Variable (name 12 (codes "a")).tok;
}))

function_used : unstable_in f_of_a_b ≡ UserDefinedFunctions ∷ []
function_used = refl

printed_items : Gives printed (
    pair settings
    (codes "set quiet\nset lists := false\n")
    ∷ pair (alone (tree.Module (bare_module false (name 4 (codes "f")).tok (Some plain_path))))
    (codes "mod f 'p'\n")
    ∷ pair (alone (tree.Import (record { optional = false; path = record { expanded = true; token = (string 9 (codes "'p'")).tok } })))
    (codes "import x'p'\n")
    ∷ pair (alone (tree.Import (record { optional = true; path = plain_path })))
    (codes "import? 'p'\n")
    ∷ pair (alone (set_to words.Shell (codes "shell") (tree.Interpreter (tree.StringLiteral false (string 14 (codes "'bash'")).tok)
    (tree.more (tree.StringLiteral false (string 22 (codes "'-cu'")).tok) tree.none))))
    (codes "set shell := ['bash', '-cu']\n")
    ∷ pair f_of_a_b
    (codes "f(a, b) := a\n")
    -- a comment before a module is its doc, and a trailing one is none
    ∷ pair (tree.Comment (codes "# d") ∷ tree.Newline ∷ Construct [] (tree.Module (bare_module true (name 9 (codes "foo")).tok (Some plain_path))) ∷ tree.Newline
    ∷ alone (tree.Unexport (name 28 (codes "A")).tok)
    ++ Construct [] (tree.Alias (record { name = (name 36 (codes "b")).tok; target = (name 39 (codes "x")).tok ∷ (name 42 (codes "y")).tok ∷ [] }))
    ∷ tree.Comment (codes "# c") ∷ tree.Newline ∷ [])
    (codes "# d\nmod? foo 'p'\nunexport A\nalias b := x::y # c\n")
    ∷ [])
unfolding fixed_text kind_named same_attribute trim_start trim_end chars encode_utf8
printed_items = refl

-- ---- how a file is indented

abbrev indented_by : (lexeme : List ℕ) → Content Tok Tok ℕ (Unit {0})
indented_by lexeme = tree.Setting (record { keyword = words.Indentation; name = (name 4 (codes "indentation")).tok; value = tree.Value (tree.StringLiteral false (string 19 lexeme).tok) })

on_windows : Entry Tok Tok
on_windows = tree.bare_entry (name 1 (codes "windows")).tok (tree.Plain attributes_of.Windows)

-- a setting for another system does not count
enabled_counts : indentation_of (Construct (on_windows ∷ []) (indented_by (codes "\"\t\"")) ∷ tree.Newline ∷ Construct [] (indented_by (codes "'  '")) ∷ tree.Newline ∷ [])
    ≡ Some (string 19 (codes "'  '")).tok
unfolding same_attribute on_windows
enabled_counts = refl

-- ---- numbers

abbrev Counted : Type 0
Counted = Result Counters ReadError

abbrev counters_after : Result ((WrittenTree × Counters) × State) ReadError → Counted
counters_after (Ok x) = Ok x.0.1
counters_after (Err refusal) = Err refusal

-- after `f(a, b) := a`, `c := 'd'` and `r p:` four bindings and one recipe have numbers
numbers_drawn : counters_after (reader.file token_leaves token_attributes unnumbered (start_state conditions
    (name 0 (codes "f") ∷ at 1 kinds.ParenL (codes "(") ∷ name 2 (codes "a") ∷ at 3 kinds.Comma (codes ",") ∷ name 5 (codes "b") ∷ at 6 kinds.ParenR (codes ")")
    ∷ assigns 8 ∷ name 11 (codes "a") ∷ line_end_at 12 ∷ name 13 (codes "c") ∷ assigns 15 ∷ string 18 (codes "'d'") ∷ line_end_at 21
    ∷ name 22 (codes "r") ∷ name 24 (codes "p") ∷ at 25 kinds.Colon (codes ":") ∷ line_end_at 26 ∷ file_end_at 27 ∷ [])))
    ≡ Ok (record { bindings = 4; constants = 0; recipes = 1 })
unfolding reader.file items_from items_rule line any_item construct attributes attribute_lines attribute_lines_from bracketed attribute kind_at arguments made bracket_end attributes_end line_end_after accept begin_with expect refused same_kind below recursive turns new_attribute kind_named same_attribute content without_keyword recipe any_recipe header distinct_options parameters singulars singulars_rule last_parameter dependencies dependencies_rule subsequents accepted optional_body body_after next_recipe_number item_end after_item line_end after_numbered at_end read value_rule conjunct_rule binary_rule accept_operator literal literal_string cooked accept_keyword accept_marked backtick format_rule list_rule group_rule name_rule is_word assert_rule assignment next_binding_number accept_keyword_before alias function import imported any_module named_module setting unexport path path_rest path_rest_rule prepend file_path expansion_mark optional_path names names_rule names_end numbered_name setting_keyword keyword_named truth truth_of interpreter expression_value plain_value sequence_rule element_rule parameter named_parameter default_value
numbers_drawn = refl

-- ---- comments after attributes and headers, in texts that are lexed, parsed and printed

-- the printed text of the tree that a text derives, with an indentation of four blanks
abbrev reprinted : List ℕ → List ℕ
reprinted source = of_tokens (answer source (2 * length source + 1) [])
  where
    of_read : Result (WrittenTree × List (Noted Tok)) ReadError → List ℕ
    of_read (Ok x) = printed x.0
    of_read (Err refusal) = []

    of_tokens : Option (Result (List Tok) (LexicalFault × Tok)) → List ℕ
    of_tokens (Some (Ok tokens)) = of_read (tree_of_tokens conditions (significant_tokens tokens))
    of_tokens found = []

reprinted_texts : Gives reprinted (
    -- a comment after an attribute is kept, and isn't a doc
    (codes "#!/usr/bin/env just\nfoo:\n# bar\n[private] # gone\nbaz:\n", codes "#!/usr/bin/env just\nfoo:\n# bar\n[private] # gone\nbaz:\n")
    -- so is one between a header and a body
    ∷ (codes "foo: # dropped\n bar\n", codes "foo: # dropped\n    bar\n")
    -- it is that of the last attribute of its brackets
    ∷ (codes "[private,linux] # c \nfoo:", codes "[linux] # c\n[private]\nfoo:\n")
    -- each attribute keeps its own
    ∷ (codes "[linux] # a\n[private] # b\nfoo: x # d\n  y # z\n", codes "[linux] # a\n[private] # b\nfoo: x # d\n    y # z\n")
    -- after a header without a body a comment is an item
    ∷ (codes "foo: # a\n# b\n", codes "foo: # a\n# b\n")
    ∷ [])
unfolding tree_of_tokens reader.file items_from items_rule line any_item construct attributes attribute_lines attribute_lines_from bracketed attribute kind_at arguments made bracket_end attributes_end line_end_after accept begin_with expect refused same_kind below recursive turns new_attribute kind_named same_attribute content without_keyword recipe any_recipe header distinct_options parameters singulars singulars_rule last_parameter dependencies dependencies_rule dependency bare_dependency subsequents accepted optional_body body_after next_recipe_number item_end after_item line_end after_numbered at_end read value_rule conjunct_rule binary_rule accept_operator literal literal_string cooked accept_keyword accept_marked backtick format_rule list_rule group_rule name_rule is_word assert_rule assignment next_binding_number accept_keyword_before alias function import imported any_module named_module setting unexport path path_rest path_rest_rule prepend file_path expansion_mark optional_path names names_rule names_end numbered_name setting_keyword keyword_named truth truth_of interpreter expression_value plain_value sequence_rule element_rule parameter named_parameter default_value body body_line fragment line_rest line_rest_rule lines lines_rule answer token_at fault_of is_eof span_of class_of closes_levels pieces_len chars encode_utf8 is_utf8 column_at last_line_start line_of_offset body_token fixed_token token_by_class token_within_line layout literal_part next trim_start trim_end fixed_text
reprinted_texts = refl
