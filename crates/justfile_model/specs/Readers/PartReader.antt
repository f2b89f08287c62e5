-- Parses the parts of items other than recipe headers: paths of files, parameters of functions, values of settings; and recognizes the
-- keywords at the start of items.
use Rattle.std.specs.Prelude.{ℕ, Bool, true, false, ◌||◌, List, [], ◌∷◌, ◌++◌, length, Option, Some, None, Ok, Err, codes, if◌then◌else◌}
use Rattle.justfile_vocabulary.specs.Keyword.{keyword_named}
use Rattle.justfile_vocabulary.specs.declared.keyword.Keyword.{Keyword}
use Rattle.justfile_vocabulary.specs.declared.keyword.Keyword.TheVariants as words
use Rattle.justfile_vocabulary.specs.declared.token_kind.TokenKind.{TokenKind}
use Rattle.justfile_vocabulary.specs.declared.token_kind.TokenKind.TheVariants as kinds
use Rattle.justfile_model.specs.declared.level.Level.TheVariants as levels
use Rattle.justfile_model.specs.Readers.ExpressionReader as expressions
use Rattle.justfile_model.specs.Readers.ExpressionReader.{cooked, is_within}
use Rattle.justfile_model.specs.Readers.HeaderReader.{next_binding_number, expression, obeying}
use Rattle.justfile_model.specs.LiteralTexts.Literals.{string_of}
use Rattle.justfile_model.specs.Readers.ReaderState.{◌>>=◌, Counters, ExpectedKeyword, Leaves, Read, State, Taken, TooDeep, Unexpected, UnknownSetting, accept, accept_keyword, choose, expect, is_word, next_are, refused}
use Rattle.justfile_model.specs.Lists.Recursive.{recursive}
use Rattle.justfile_model.specs.Meanings.SettingRules.{value_broken}
use Rattle.justfile_model.specs.Grammars.Settings.{ExpressionForm, InterpreterForm, PlainForm, SettingForm, TruthForm}
use Rattle.justfile_model.specs.Trees.LeafView.{LeafView}
use Rattle.justfile_model.specs.Trees.Tree as tree
use Rattle.justfile_model.specs.Trees.Tree.{Expr, Exprs, Quoted, SettingValue}

-- these elements before the parsed ones, with the counters
unfoldable pub after_numbered : {R T B X : Type 0} → List X → Read R T B (List X × Counters) → Read R T B (List X × Counters)
after_numbered done found = do
  more ← found
  Ok ((done ++ more.0.0, more.0.1), more.1)

module _ {R T A B S : Type 0} (leaves : Leaves R T A B S) where
  -- ---- keywords at the start of items

  -- tokens of these kinds are next, and then a comment, a line end or the end of the file
  abbrev pub line_is : List TokenKind → State R T B → Bool
  line_is before s =
      next_are leaves (before ++ kinds.Comment ∷ []) s || next_are leaves (before ++ kinds.Eol ∷ []) s || next_are leaves (before ++ kinds.Eof ∷ []) s

  abbrev pub if_follows : (State R T B → Bool) → Taken R T B → Taken R T B
  if_follows follows None = None
  if_follows follows (Some word) = if follows word.1 then Some word else None

  -- the next token, if it is this word and the state after it passes the test
  unfoldable pub accept_keyword_before : List ℕ → (follows : State R T B → Bool) → State R T B → Taken R T B
  accept_keyword_before word follows s = if_follows follows (accept_keyword leaves word s)

  -- NAME `:=`
  abbrev pub peek_assignment : State R T B → Bool
  peek_assignment s = next_are leaves (kinds.Identifier ∷ kinds.ColonEquals ∷ []) s

  -- the path of a file is next, with or without a mark
  abbrev pub begins_path : State R T B → Bool
  begins_path s = next_are leaves (kinds.StringToken ∷ []) s || next_are leaves (kinds.Identifier ∷ kinds.StringToken ∷ []) s

  abbrev pub is_imported : State R T B → Bool
  is_imported s = next_are leaves (kinds.QuestionMark ∷ []) s || begins_path s

  -- the rest of a module is next: `?`, or a name that is alone on its line or before a path
  abbrev pub is_module : State R T B → Bool
  is_module s =
      next_are leaves (kinds.QuestionMark ∷ []) s || line_is (kinds.Identifier ∷ []) s
      || next_are leaves (kinds.Identifier ∷ kinds.StringToken ∷ []) s
      || next_are leaves (kinds.Identifier ∷ kinds.Identifier ∷ kinds.StringToken ∷ []) s

  -- the rest of a setting is next: a name that is before `:=` or alone on its line
  abbrev pub is_set : State R T B → Bool
  is_set s = peek_assignment s || line_is (kinds.Identifier ∷ []) s

  -- ---- paths of files

  -- whether the mark `x` is next; another name is an error
  unfoldable pub expansion_mark : State R T B → Read R T B Bool
  expansion_mark s =
      choose (accept leaves kinds.Identifier s) (Ok (false, s)) (λ mark.
      if is_word (codes "x") (leaves.see mark.0) then Ok (true, mark.1) else Err (ExpectedKeyword (words.X ∷ []) (leaves.position mark.0)))

  abbrev pub quoted_of : (expanded : Bool) → A → Quoted A
  quoted_of expanded token = record { expanded = expanded; token = token }

  -- a path, with the token of its literal
  abbrev pub path_at : T → Quoted A × State R T B → Read R T B (T × Quoted A)
  path_at literal path = Ok ((literal, path.0), path.1)

  unfoldable pub file_path : State R T B → Read R T B (T × Quoted A)
  file_path s = do
    mark ← expansion_mark s
    literal ← expect leaves kinds.StringToken mark.1
    path ← cooked leaves (quoted_of mark.0) (string_of mark.0) literal
    path_at literal.0 path

  -- a path, if one is next
  unfoldable pub optional_path : State R T B → Read R T B (Option (Quoted A))
  optional_path s =
      if begins_path s then (do
        path ← file_path s
        Ok (Some path.0.1, path.1))
      else Ok (None, s)

  -- ---- the parameters of functions

  -- the result of parsing parameters: their names, and the counters
  abbrev pub ReadNames : Type 0
  ReadNames = Read R T B (List A × Counters)

  -- a name with its number
  unfoldable pub numbered_name : Counters → State R T B → Read R T B (A × Counters)
  numbered_name n s = do
    name ← expect leaves kinds.Identifier s
    number ← next_binding_number leaves n name.1
    Ok ((leaves.function_parameter number.1.run name.0 number.0.0, number.0.1), number.1)

  -- the closing parenthesis after the last name
  unfoldable pub names_end : Counters → State R T B → ReadNames
  names_end n s = do
    closer ← expect leaves kinds.ParenR s
    Ok (([], n), closer.1)

  abbrev pub no_names : Counters × State R T B → ReadNames
  no_names x = Err (Unexpected None)

  -- the closing parenthesis, or a name and then a comma with more names or the closing parenthesis
  unfoldable pub names_rule : (Counters × State R T B → ReadNames) → Counters × State R T B → ReadNames
  names_rule read x =
      choose (accept leaves kinds.ParenR x.1)
      (do
        name ← numbered_name x.0 x.1
        after_numbered (name.0.0 ∷ []) (choose (accept leaves kinds.Comma name.1) (names_end name.0.1 name.1) (λ comma. read (name.0.1, comma.1))))
      (λ closer. Ok (([], x.0), closer.1))

  -- names with their numbers, up to and including the closing parenthesis
  unfoldable pub names : Counters × State R T B → ReadNames
  names = recursive (λ x. length x.1.left) no_names names_rule

  -- ---- settings

  abbrev pub keyword_or_none : T → State R T B → Option Keyword → Read R T B Keyword
  keyword_or_none name s None = Err (UnknownSetting (leaves.position name))
  keyword_or_none name s (Some keyword) = Ok (keyword, s)

  -- the keyword that is the name of a setting
  unfoldable pub setting_keyword : T → State R T B → Read R T B Keyword
  setting_keyword name s = keyword_or_none name s (keyword_named (leaves.see name).tok.lexeme)

  -- `true` or `false`
  unfoldable pub truth_of : T × State R T B → Read R T B (SettingValue A B)
  truth_of word =
      if is_word (codes "true") (leaves.see word.0) then Ok (tree.Truth true, word.1)
      else if is_word (codes "false") (leaves.see word.0) then Ok (tree.Truth false, word.1)
      else Err (ExpectedKeyword (words.True ∷ words.False ∷ []) (leaves.position word.0))

  -- nothing, which means `true`, or `:=` and a boolean
  unfoldable pub truth : State R T B → Read R T B (SettingValue A B)
  truth s = choose (accept leaves kinds.ColonEquals s) (Ok (tree.Truth true, s)) (λ operator. expect leaves kinds.Identifier operator.1 >>= truth_of)

  -- the command and its arguments; if there are none, what is next is refused as the command, which may be too deep
  abbrev pub some_command : (first : State R T B) → Exprs A B × State R T B → Read R T B (SettingValue A B)
  some_command first (tree.none, s) = if is_within (leaves.conditions first.run).limit levels.Expression first then Err (refused Unexpected first) else Err (refused TooDeep first)
  some_command first (tree.more e es, s) = Ok (tree.Interpreter e es, s)

  -- a list of expressions in brackets, at least one
  unfoldable pub interpreter : State R T B → Read R T B (SettingValue A B)
  interpreter s = do
    opener ← expect leaves kinds.BracketL s
    expressions.read leaves (expressions.Sequence kinds.BracketR opener.1) >>= some_command opener.1

  unfoldable pub expression_value : State R T B → Read R T B (SettingValue A B)
  expression_value s = do
    e ← expression leaves s
    Ok (tree.Value e.0, e.1)

  module _ (view : R → LeafView A B) (name : T) (keyword : Keyword) where
    -- an expression that has to be a plain literal
    unfoldable pub plain_value : State R T B → Read R T B (SettingValue A B)
    plain_value s = do
      value ← expression_value s
      checked ← obeying (value_broken (leaves.conditions value.1.run).current (view value.1.run) (Some PlainForm) keyword (leaves.position name) value.0) value.1
      Ok (value.0, checked.1)

    -- the value after `:=`, by the form; settings that are true or false are parsed before, and without a form the setting is unknown
    abbrev pub assigned_value : Option SettingForm → State R T B → Read R T B (SettingValue A B)
    assigned_value (Some ExpressionForm) s = expression_value s
    assigned_value (Some InterpreterForm) s = interpreter s
    assigned_value (Some PlainForm) s = plain_value s
    assigned_value (Some TruthForm) s = Err (UnknownSetting (leaves.position name))
    assigned_value None s = Err (UnknownSetting (leaves.position name))

    -- the value of a setting by its form; a keyword that isn't a setting is an error after `:=`
    abbrev pub setting_value : Option SettingForm → State R T B → Read R T B (SettingValue A B)
    setting_value (Some TruthForm) s = truth s
    setting_value form s = do
      operator ← expect leaves kinds.ColonEquals s
      assigned_value form operator.1
