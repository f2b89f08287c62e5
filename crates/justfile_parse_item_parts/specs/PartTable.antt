-- The reader of the parts of items in a table, whose trees hold all that the parser's trees hold.
use Rattle.std.specs.Prelude.{ℕ, Bool, true, false, ◌||◌, List, [], ◌∷◌, ◌++◌, Option, Ok, Err, string_bytes}
use Rattle.justfile_vocabulary.specs.declared.keyword.Keyword.{Keyword}
use Rattle.justfile_token.specs.declared.string_literal.StringLiteral.{StringLiteral}
use Rattle.justfile_token.specs.declared.token.Token.{Token}
use Rattle.justfile_vocabulary.specs.declared.token_kind.TokenKind.{TokenKind}
use Rattle.justfile_vocabulary.specs.declared.token_kind.TokenKind.TheVariants as kinds
use Rattle.justfile_model.specs.Grammars.Conditions.{VersionNumbers}
use Rattle.justfile_model.specs.Readers.HeaderReader.{obeying}
use Rattle.justfile_model.specs.Readers.PartReader as parts
use Rattle.justfile_model.specs.Readers.ReaderState.{◌>>=◌, Counters, UnknownSetting, choose}
use Rattle.justfile_model.specs.Meanings.Rules.{Broken}
use Rattle.justfile_model.specs.Meanings.SettingRules as rules
use Rattle.justfile_model.specs.Grammars.Settings.{SettingForm}
use Rattle.justfile_model.specs.Trees.Tree as tree
use Rattle.justfile_model.specs.Trees.Tree.{Expr, Quoted, SettingValue}
use Rattle.justfile_parse_base.specs.SharedTable.{separator, view_of}
use Rattle.justfile_parse_expression.specs.TableReader.{Read, Sequence, State, accept, element, expect, leaves, next_are, read}
use Rattle.justfile_parse_expression.specs.Significant.{TableToken}
use Rattle.justfile_parse_item_parts.specs.declared.lookahead.Lookahead.{Lookahead}
use Rattle.justfile_parse_item_parts.specs.declared.lookahead.Lookahead.TheVariants as followings
use Rattle.justfile_expression.specs.LeafViews.{views_leaves}
use Rattle.justfile_expression.specs.LeafTree.{Leaf, Literal, literal_of}

-- ---- the keywords that items begin with

abbrev pub line_is : List TokenKind → State → Bool
line_is = parts.line_is leaves

abbrev pub accept_keyword_before : List ℕ → (follows : State → Bool) → State → Option (TableToken × State)
accept_keyword_before = parts.accept_keyword_before leaves

abbrev pub peek_assignment : State → Bool
peek_assignment = parts.peek_assignment leaves

abbrev pub begins_path : State → Bool
begins_path = parts.begins_path leaves

abbrev pub is_imported : State → Bool
is_imported = parts.is_imported leaves

abbrev pub is_module : State → Bool
is_module = parts.is_module leaves

abbrev pub is_set : State → Bool
is_set = parts.is_set leaves

-- whether what has to follow a keyword comes next
abbrev pub follows : Lookahead → State → Bool
follows followings.Assignment = peek_assignment
follows followings.Import = is_imported
follows followings.Line = line_is (kinds.Identifier ∷ [])
follows followings.Module = is_module
follows followings.Set = is_set

-- ---- the same, with the keyword before it

abbrev pub line_past : State → Bool
line_past = line_is (kinds.Identifier ∷ kinds.Identifier ∷ [])

abbrev pub assigned_past : State → Bool
assigned_past = next_are (kinds.Identifier ∷ kinds.Identifier ∷ kinds.ColonEquals ∷ [])

abbrev pub question_past : State → Bool
question_past = next_are (kinds.Identifier ∷ kinds.QuestionMark ∷ [])

abbrev pub marked_path_past : State → Bool
marked_path_past = next_are (kinds.Identifier ∷ kinds.Identifier ∷ kinds.StringToken ∷ [])

abbrev pub path_past : State → Bool
path_past s = next_are (kinds.Identifier ∷ kinds.StringToken ∷ []) s || marked_path_past s

abbrev pub imported_past : State → Bool
imported_past s = question_past s || path_past s

abbrev pub module_past : State → Bool
module_past s =
    question_past s || line_past s || marked_path_past s
    || next_are (kinds.Identifier ∷ kinds.Identifier ∷ kinds.Identifier ∷ kinds.StringToken ∷ []) s

-- whether what has to follow a keyword comes after the next token, which is a keyword
abbrev pub follows_past : Lookahead → State → Bool
follows_past followings.Assignment s = assigned_past s
follows_past followings.Import s = imported_past s
follows_past followings.Line s = line_past s
follows_past followings.Module s = module_past s
follows_past followings.Set s = assigned_past s || line_past s

-- ---- paths of files

abbrev pub expansion_mark : State → Read Bool
expansion_mark = parts.expansion_mark leaves

abbrev pub file_path : State → Read (TableToken × Quoted Leaf)
file_path = parts.file_path leaves

abbrev pub optional_path : State → Read (Option (Quoted Leaf))
optional_path = parts.optional_path leaves

-- ---- the parameters of functions

abbrev pub numbered_name : Counters → State → Read (Leaf × Counters)
numbered_name = parts.numbered_name leaves

abbrev pub names : Counters × State → Read (List Leaf × Counters)
names = parts.names leaves

-- a name with its number, appended to those before it
unfoldable pub one_name : (before : List Leaf) → Counters → State → Read (List Leaf × Counters)
one_name before n s = do
  name ← numbered_name n s
  Ok ((before ++ name.0.0 ∷ [], name.0.1), name.1)

-- the closing parenthesis, or a name and what follows it; whether the names are at their end
unfoldable pub names_step : (before : List Leaf) → Counters → State → Read ((List Leaf × Bool) × Counters)
names_step before n s =
    choose (accept kinds.ParenR s)
    (do
      names ← one_name before n s
      is_last ← separator kinds.ParenR names.1
      Ok (((names.0.0, is_last.0), names.0.1), is_last.1))
    (λ closer. Ok (((before, true), n), closer.1))

-- ---- settings

abbrev pub LeafValue : Type 0
LeafValue = SettingValue Leaf Token

abbrev pub setting_keyword : TableToken → State → Read Keyword
setting_keyword = parts.setting_keyword leaves

abbrev pub truth_of : TableToken × State → Read LeafValue
truth_of = parts.truth_of leaves

abbrev pub truth : State → Read LeafValue
truth = parts.truth leaves

abbrev pub interpreter : State → Read LeafValue
interpreter = parts.interpreter leaves

abbrev pub expression_value : State → Read LeafValue
expression_value = parts.expression_value leaves

abbrev pub plain_value : TableToken → Keyword → State → Read LeafValue
plain_value name keyword = parts.plain_value leaves view_of name keyword

abbrev pub setting_value : TableToken → Keyword → Option SettingForm → State → Read LeafValue
setting_value name keyword = parts.setting_value leaves view_of name keyword

-- `:=`, and what is read after it
abbrev pub after_operator : {X : Type 0} → (State → Read X) → State → Read X
after_operator next s = do
  operator ← expect kinds.ColonEquals s
  next operator.1

-- the read error for a keyword that isn't the name of a setting
abbrev pub no_setting : TableToken → State → Read LeafValue
no_setting name s = Err (UnknownSetting name.0)

-- what follows a command, which has no arguments if it is the last element
abbrev pub command_end : Expr Leaf Token → (is_last : Bool) → State → Read LeafValue
command_end command true s = Ok (tree.Interpreter command tree.none, s)
command_end command false s = do
  arguments ← read (Sequence kinds.BracketR s)
  Ok (tree.Interpreter command arguments.0, arguments.1)

-- a command and its arguments, after the opening bracket
unfoldable pub command_from : State → Read LeafValue
command_from s = do
  command ← element kinds.BracketR s
  command_end command.0.0 command.0.1 command.1

-- a value, if it breaks none of these rules
abbrev pub obeyed_value : List (Broken Token) → LeafValue → State → Read LeafValue
obeyed_value broken value s = do
  checked ← obeying broken s
  Ok (value, checked.1)

-- the value of a setting that takes a plain literal, under this running version
abbrev pub plain_made : VersionNumbers → (name : Token) → Keyword → Expr Leaf Token → State → Read LeafValue
plain_made current name keyword e =
    obeyed_value (rules.literal_broken current views_leaves keyword name (rules.plain_literal current views_leaves e)) (tree.Value e)

abbrev pub literal_setting : StringLiteral → LeafValue
literal_setting l = tree.Value (tree.StringLiteral l.expand (Literal (literal_of l)))

-- the value of a setting that takes a plain literal, from that literal, under this running version
abbrev pub literal_made : VersionNumbers → Keyword → StringLiteral → State → Read LeafValue
literal_made current keyword l = obeyed_value (rules.text_broken current keyword l.token (string_bytes l.cooked)) (literal_setting l)
