-- A tree of tokens has no numbers: for any counters, the same tree is parsed.
use Rattle.std.proofs.Common.{◌≡◌, Bool, true, false, cond, List, [], ◌∷◌, length, Option, Some, None, Result, Ok, Err, codes, refl}
use Rattle.justfile_vocabulary.specs.declared.item_kind.ItemKind.TheVariants as item_kinds
use Rattle.justfile_vocabulary.specs.declared.token_kind.TokenKind.TheVariants as kinds
use Rattle.justfile_model.specs.declared.parameter_kind.ParameterKind.{ParameterKind}
use Rattle.justfile_model.specs.declared.parameter_kind.ParameterKind.TheVariants.{Plus, Singular, Star}
use Rattle.justfile_model.specs.Meanings.ReadAttribute.{ReadAttribute}
use Rattle.justfile_model.specs.Readers.Reader as reader
use Rattle.justfile_model.specs.Readers.HeaderReader as r
use Rattle.justfile_model.specs.Readers.HeaderReader.{next_binding_number, expression, header, obeying}
use Rattle.justfile_model.specs.Readers.PartReader.{accept_keyword_before, after_numbered, file_path, peek_assignment, is_imported, is_module, is_set, setting_keyword, line_is, names, names_end, names_rule, numbered_name, optional_path, setting_value}
use Rattle.justfile_model.specs.Grammars.Settings.{setting_form}
use Rattle.justfile_model.specs.Readers.Reader.{Start, after_byte_order_mark, alias, check_allowed, any_module, any_recipe, argument_rules, assignment, at_end, attributes, construct, content, next_recipe_number, end_of_tokens, item_end, function, has_body, import, imported, items, items_from, items_rule, line, named_module, check_exclusions, no_items, any_item, optional_body, recipe, setting, unexport, without_keyword}
use Rattle.justfile_model.specs.Grammars.Conditions.{Conditions}
use Rattle.justfile_model.specs.Grammars.Features.{Noted}
use Rattle.justfile_model.specs.Readers.ReaderState.{◌>>=◌, Counters, Unexpected, accept, accepted, choose, expect, next_are}
use Rattle.justfile_model.specs.Meanings.RecipeRules.{parameter_broken, undefined_broken}
use Rattle.justfile_model.specs.Trees.LeafView.{LeafView}
use Rattle.justfile_model.specs.Lexing.SignificantTokens.{SignificantToken}
use Rattle.justfile_model.specs.Lexing.Tok.{Tok}
use Rattle.justfile_model.specs.Trees.Tree.{ArgumentRules, Expr, Parameter, WrittenTree}
use Rattle.justfile_model.specs.Readers.TreeReader.{Read, ReadError, State, Taken, tree_of_tokens, start_state, token_attributes, token_leaves, unnumbered}
use Rattle.justfile_model.proofs.Lists.Turns.{both_recur}
use Rattle.justfile_model.proofs.Readers.ReadingSteps.{loop}

-- two readings that find one thing, but for the counters
data Alike {X : Type 0} : Read (X × Counters) → Read (X × Counters) → Type 0 where
  both : {x : X} {n m : Counters} {s : State} → Alike (Ok ((x, n), s)) (Ok ((x, m), s))
  neither : {e : ReadError} → Alike (Err e) (Err e)

bind : {X Y : Type 0} (found : Read X) (f g : X × State → Read (Y × Counters)) → ((x : X × State) → Alike (f x) (g x)) → Alike (found >>= f) (found >>= g)
bind (Ok x) f g h = h x
bind (Err e) f g h = neither

then : {X Y : Type 0} {found found' : Read (X × Counters)} (f g : (X × Counters) × State → Read (Y × Counters)) → Alike found found' → ((x : X) (n m : Counters) (s : State) → Alike (f ((x, n), s)) (g ((x, m), s))) → Alike (found >>= f) (found' >>= g)
then f g (both {x = x} {n = n} {m = m} {s = s}) h = h x n m s
then f g neither h = neither

pick : {Y : Type 0} (o : Taken) (x y : Read (Y × Counters)) (f g : SignificantToken × State → Read (Y × Counters)) → Alike x y → ((p : SignificantToken × State) → Alike (f p) (g p)) → Alike (choose o x f) (choose o y g)
pick None x y f g h k = h
pick (Some p) x y f g h k = k p

by_test : {Y : Type 0} (b : Bool) (x y z w : Read (Y × Counters)) → Alike x y → Alike z w → Alike (cond b x z) (cond b y w)
by_test true x y z w h k = h
by_test false x y z w h k = k

after : {X : Type 0} (done : List X) {found found' : Read (List X × Counters)} → Alike found found' → Alike (after_numbered done found) (after_numbered done found')
unfolding after_numbered
after done h = then _ _ h (λ x n m s. both)

-- the same state, with any counters
data Begins : Counters × State → Counters × State → Type 0 where
  begins : (n m : Counters) (s : State) → Begins (n, s) (m, s)

-- a loop from there
from : {X : Type 0} (rule : (Counters × State → Read (X × Counters)) → Counters × State → Read (X × Counters))
    → ((f g : Counters × State → Read (X × Counters)) → ((n m : Counters) (s : State) → Alike (f (n, s)) (g (m, s))) → (n m : Counters) (s : State) → Alike (rule f (n, s)) (rule g (m, s)))
    → (n m : Counters) (s : State) → Alike (loop (λ x. x.1) rule (n, s)) (loop (λ x. x.1) rule (m, s))
from {X} rule turn n m s =
    both_recur (λ (x : Counters × State). length x.1.left) (λ x. Err (Unexpected None)) rule (λ (x : Counters × State). length x.1.left) (λ x. Err (Unexpected None)) rule
    Begins same_size (λ x y found found'. Alike found found') (λ x y h. neither) turns (n, s) (m, s) (begins n m s)
  where
    same_size : (x y : Counters × State) → Begins x y → length x.1.left ≡ length y.1.left
    same_size x y (begins n m s) = refl

    turns : (f g : Counters × State → Read (X × Counters)) → ((x y : Counters × State) → Begins x y → Alike (f x) (g y)) → (x y : Counters × State) → Begins x y → Alike (rule f x) (rule g y)
    turns f g alike x y (begins n m s) = turn f g (λ n m s. alike (n, s) (m, s) (begins n m s)) n m s

assignments : (eager export : Bool) (ws : List ReadAttribute) (n m : Counters) (s : State)
    → Alike (assignment token_leaves token_attributes eager export ws n s) (assignment token_leaves token_attributes eager export ws m s)
unfolding assignment next_binding_number
assignments eager export ws n m s =
    bind (expect token_leaves kinds.Identifier s) _ _ (λ name. bind (expect token_leaves kinds.ColonEquals name.1) _ _ (λ operator.
    bind (expression token_leaves operator.1) _ _ (λ e. bind (check_allowed token_leaves token_attributes item_kinds.Assignment ws name.0 e.1) _ _ (λ checked. both))))

-- ---- the parameters of functions

each_name : (n m : Counters) (s : State) → Alike (numbered_name token_leaves n s) (numbered_name token_leaves m s)
unfolding numbered_name next_binding_number
each_name n m s = bind (expect token_leaves kinds.Identifier s) _ _ (λ name. both)

all_names : (n m : Counters) (s : State) → Alike (names token_leaves (n, s)) (names token_leaves (m, s))
unfolding names names_rule names_end
all_names =
    from (names_rule token_leaves) (λ f g alike n m s.
    pick (accept token_leaves kinds.ParenR s) _ _ _ _
    (then _ _ (each_name n m s) (λ name k j t. after (name ∷ []) (pick (accept token_leaves kinds.Comma t) _ _ _ _
    (bind (expect token_leaves kinds.ParenR t) _ _ (λ closer. both)) (λ comma. alike k j comma.1))))
    (λ closer. both))

-- ---- items without a number of their own

aliases : (ws : List ReadAttribute) (n m : Counters) (s : State) → Alike (alias token_leaves token_attributes ws n s) (alias token_leaves token_attributes ws m s)
unfolding alias
aliases ws n m s =
    bind (expect token_leaves kinds.Identifier s) _ _ (λ name. bind (expect token_leaves kinds.ColonEquals name.1) _ _ (λ operator.
    bind (r.path token_leaves operator.1) _ _ (λ target. bind (check_allowed token_leaves token_attributes item_kinds.Alias ws name.0 target.1) _ _ (λ checked. both))))

functions : (ws : List ReadAttribute) (n m : Counters) (s : State) → Alike (function token_leaves token_attributes ws n s) (function token_leaves token_attributes ws m s)
unfolding function
functions ws n m s =
    bind (expect token_leaves kinds.Identifier s) _ _ (λ name. bind (check_allowed token_leaves token_attributes item_kinds.Function ws name.0 name.1) _ _ (λ checked.
    bind (expect token_leaves kinds.ParenL checked.1) _ _ (λ opener. then _ _ (all_names n m opener.1) (λ ps k j t.
    bind (expect token_leaves kinds.ColonEquals t) _ _ (λ operator. bind (expression token_leaves operator.1) _ _ (λ body. both))))))

all_imported : (optional : Bool) (ws : List ReadAttribute) (n m : Counters) (s : State)
    → Alike (imported token_leaves token_attributes optional ws n s) (imported token_leaves token_attributes optional ws m s)
unfolding imported
all_imported optional ws n m s =
    bind (file_path token_leaves s) _ _ (λ path. bind (check_allowed token_leaves token_attributes item_kinds.Import ws path.0.0 path.1) _ _ (λ checked. both))

named_modules : (optional : Bool) (ws : List ReadAttribute) (n m : Counters) (s : State)
    → Alike (named_module token_leaves token_attributes optional ws n s) (named_module token_leaves token_attributes optional ws m s)
unfolding named_module
named_modules optional ws n m s =
    bind (expect token_leaves kinds.Identifier s) _ _ (λ name. bind (optional_path token_leaves name.1) _ _ (λ path.
    bind (check_allowed token_leaves token_attributes item_kinds.Module ws name.0 path.1) _ _ (λ checked. both)))

settings : (ws : List ReadAttribute) (n m : Counters) (s : State) → Alike (setting token_leaves token_attributes ws n s) (setting token_leaves token_attributes ws m s)
unfolding setting
settings ws n m s =
    bind (expect token_leaves kinds.Identifier s) _ _ (λ name. bind (setting_keyword token_leaves name.0 name.1) _ _ (λ keyword.
    bind (check_allowed token_leaves token_attributes item_kinds.Setting ws name.0 keyword.1) _ _ (λ checked.
    bind (setting_value token_leaves token_attributes.view name.0 keyword.0 (setting_form keyword.0) checked.1) _ _ (λ value. both))))

unexports : (ws : List ReadAttribute) (n m : Counters) (s : State) → Alike (unexport token_leaves token_attributes ws n s) (unexport token_leaves token_attributes ws m s)
unfolding unexport
unexports ws n m s =
    bind (expect token_leaves kinds.Identifier s) _ _ (λ name. bind (check_allowed token_leaves token_attributes item_kinds.Unexport ws name.0 name.1) _ _ (λ checked. both))

-- ---- headers

module _ (view : Conditions → LeafView Tok Tok) (rules : List (ArgumentRules Tok Tok)) where
  abbrev Place : Type 0
  Place = r.ParameterPlace token_leaves view rules

  numbers : (kind : ParameterKind) (export : Bool) (ps : List (Parameter Tok Tok)) (n m : Counters) (name : SignificantToken) (default : Option (Expr Tok Tok)) (s : State)
      → Alike (next_binding_number token_leaves n s >>= r.numbered token_leaves view rules kind export ps name default)
      (next_binding_number token_leaves m s >>= r.numbered token_leaves view rules kind export ps name default)
  unfolding next_binding_number
  numbers kind export ps n m name default s = both

  named_parameters : (kind : ParameterKind) (export : Bool) (ps : List (Parameter Tok Tok)) (n m : Counters) (s : State)
      → Alike (r.named_parameter token_leaves view rules kind export (ps, n) s) (r.named_parameter token_leaves view rules kind export (ps, m) s)
  unfolding r.named_parameter
  named_parameters kind export ps n m s =
      bind (expect token_leaves kinds.Identifier s) _ _ (λ name. bind (r.default_value token_leaves name.1) _ _ (λ default.
      bind (obeying (parameter_broken (view default.1.run) rules ps (r.parameter_of token_leaves kind export (token_leaves.name name.0) default.0)) default.1) _ _
      (λ checked. numbers kind export ps n m name.0 default.0 checked.1)))

  each_parameter : (kind : ParameterKind) (ps : List (Parameter Tok Tok)) (n m : Counters) (s : State)
      → Alike (r.parameter token_leaves view rules kind ((ps, n), s)) (r.parameter token_leaves view rules kind ((ps, m), s))
  unfolding r.parameter
  each_parameter kind ps n m s = named_parameters kind (accepted token_leaves kinds.Dollar s).0 ps n m (accepted token_leaves kinds.Dollar s).1

  -- the start of a parameter, with any counters
  data Stands : Place → Place → Type 0 where
    stands : (ps : List (Parameter Tok Tok)) (n m : Counters) (s : State) → Stands ((ps, n), s) ((ps, m), s)

  singular_rules : (f g : Place → Read (r.Parameters token_leaves view rules)) → ((x y : Place) → Stands x y → Alike (f x) (g y)) → (x y : Place) → Stands x y
      → Alike (r.singulars_rule token_leaves view rules f x) (r.singulars_rule token_leaves view rules g y)
  unfolding r.singulars_rule
  singular_rules f g alike x y (stands ps n m s) =
      by_test (r.begins_parameter token_leaves s) _ _ _ _
      (then _ _ (each_parameter Singular ps n m s) (λ qs k j t. alike ((qs, k), t) ((qs, j), t) (stands qs k j t)))
      both

  all_singulars : (ps : List (Parameter Tok Tok)) (n m : Counters) (s : State)
      → Alike (r.singulars token_leaves view rules ((ps, n), s)) (r.singulars token_leaves view rules ((ps, m), s))
  unfolding r.singulars
  all_singulars ps n m s =
      both_recur (λ (x : Place). length x.1.left) (r.no_parameters token_leaves view rules) (r.singulars_rule token_leaves view rules)
      (λ (x : Place). length x.1.left) (r.no_parameters token_leaves view rules) (r.singulars_rule token_leaves view rules)
      Stands same_size (λ x y found found'. Alike found found') (λ x y h. neither) singular_rules ((ps, n), s) ((ps, m), s) (stands ps n m s)
    where
      same_size : (x y : Place) → Stands x y → length x.1.left ≡ length y.1.left
      same_size x y (stands ps n m s) = refl

  variadics : (kind : ParameterKind) (ps : List (Parameter Tok Tok)) (n m : Counters) (s : State)
      → Alike (r.variadic token_leaves view rules kind ((ps, n), s)) (r.variadic token_leaves view rules kind ((ps, m), s))
  unfolding r.variadic
  variadics kind ps n m s =
      then _ _ (each_parameter kind ps n m s) (λ qs k j t. bind (r.expect_no_name token_leaves t) _ _ (λ end. both))

  last_parameters : (ps : List (Parameter Tok Tok)) (n m : Counters) (s : State)
      → Alike (r.last_parameter token_leaves view rules ((ps, n), s)) (r.last_parameter token_leaves view rules ((ps, m), s))
  unfolding r.last_parameter
  last_parameters ps n m s =
      pick (accept token_leaves kinds.Plus s) _ _ _ _
      (pick (accept token_leaves kinds.Asterisk s) _ _ _ _ both (λ prefix. variadics Star ps n m prefix.1))
      (λ prefix. variadics Plus ps n m prefix.1)

  all_parameters : (n m : Counters) (s : State)
      → Alike (r.parameters token_leaves view rules n s) (r.parameters token_leaves view rules m s)
  unfolding r.parameters
  all_parameters n m s =
      then _ _ (all_singulars [] n m s) (λ ps k j t. then _ _ (last_parameters ps k j t) (λ qs k j u.
      bind (expect token_leaves kinds.Colon u) _ _ (λ colon. both)))

  headers : (n m : Counters) (s : State) → Alike (header token_leaves view rules n s) (header token_leaves view rules m s)
  unfolding r.header
  headers n m s =
      bind (expect token_leaves kinds.Identifier s) _ _ (λ name. bind (r.distinct_options token_leaves view rules name.0 name.1) _ _ (λ options.
      then _ _ (all_parameters n m options.1) (λ ps k j t. bind (obeying (undefined_broken (view t.run) ps rules) t) _ _ (λ checked.
      bind (r.dependencies token_leaves checked.1) _ _ (λ priors. bind (r.subsequents token_leaves priors.1) _ _ (λ others. both))))))

-- ---- items

recipes : (quiet : Bool) (ws : List ReadAttribute) (n m : Counters) (s : State)
    → Alike (recipe token_leaves token_attributes quiet ws n s) (recipe token_leaves token_attributes quiet ws m s)
unfolding recipe next_recipe_number
recipes quiet ws n m s =
    then _ _ (headers token_attributes.view (argument_rules token_leaves token_attributes s.run ws) n m s) (λ h k j t.
    bind (optional_body token_leaves t) _ _ (λ b. bind (check_exclusions token_leaves token_attributes ws h.name b.1) _ _ (λ checked. both)))

any_recipes : (ws : List ReadAttribute) (n m : Counters) (s : State)
    → Alike (any_recipe token_leaves token_attributes ws n s) (any_recipe token_leaves token_attributes ws m s)
unfolding any_recipe
any_recipes ws n m s = pick (accept token_leaves kinds.At s) _ _ _ _ (recipes false ws n m s) (λ at. recipes true ws n m at.1)

without_word : (ws : List ReadAttribute) (n m : Counters) (s : State) → Alike (without_keyword token_leaves token_attributes ws n s) (without_keyword token_leaves token_attributes ws m s)
unfolding without_keyword
without_word ws n m s =
    by_test (next_are token_leaves (kinds.Identifier ∷ kinds.ParenL ∷ []) s) _ _ _ _ (functions ws n m s)
    (by_test (peek_assignment token_leaves s) _ _ _ _ (assignments false false ws n m s) (any_recipes ws n m s))

contents : (ws : List ReadAttribute) (n m : Counters) (s : State) → Alike (content token_leaves token_attributes ws n s) (content token_leaves token_attributes ws m s)
unfolding content import any_module
contents ws n m s =
    pick (accept_keyword_before token_leaves (codes "alias") (peek_assignment token_leaves) s) _ _ _ _
    (pick (accept_keyword_before token_leaves (codes "eager") (peek_assignment token_leaves) s) _ _ _ _
    (pick (accept_keyword_before token_leaves (codes "export") (peek_assignment token_leaves) s) _ _ _ _
    (pick (accept_keyword_before token_leaves (codes "unexport") (line_is token_leaves (kinds.Identifier ∷ [])) s) _ _ _ _
    (pick (accept_keyword_before token_leaves (codes "import") (is_imported token_leaves) s) _ _ _ _
    (pick (accept_keyword_before token_leaves (codes "mod") (is_module token_leaves) s) _ _ _ _
    (pick (accept_keyword_before token_leaves (codes "set") (is_set token_leaves) s) _ _ _ _
    (without_word ws n m s)
    (λ word. settings ws n m word.1))
    (λ word. named_modules (accepted token_leaves kinds.QuestionMark word.1).0 ws n m (accepted token_leaves kinds.QuestionMark word.1).1))
    (λ word. all_imported (accepted token_leaves kinds.QuestionMark word.1).0 ws n m (accepted token_leaves kinds.QuestionMark word.1).1))
    (λ word. unexports ws n m word.1))
    (λ word. assignments false true ws n m word.1))
    (λ word. assignments true false ws n m word.1))
    (λ word. aliases ws n m word.1)

constructs : (n m : Counters) (s : State) → Alike (construct token_leaves token_attributes n s) (construct token_leaves token_attributes m s)
unfolding construct
constructs n m s = bind (attributes token_leaves token_attributes s) _ _ (λ ws. contents ws.0 n m ws.1)

on_lines : (n m : Counters) (s : State) → Alike (any_item token_leaves token_attributes n s) (any_item token_leaves token_attributes m s)
unfolding any_item
on_lines n m s = pick (accept token_leaves kinds.Comment s) _ _ _ _ (constructs n m s) (λ c. both)

lines : (n m : Counters) (s : State) → Alike (line token_leaves token_attributes n s) (line token_leaves token_attributes m s)
unfolding line
lines n m s =
    pick (accept token_leaves kinds.Eol s) _ _ _ _
    (then _ _ (on_lines n m s) (λ i k l t. bind (item_end token_leaves token_attributes (has_body i) t) _ _ (λ b. both)))
    (λ newline. both)

ends : (n m : Counters) (s : State) (ts : List SignificantToken) → Alike (end_of_tokens token_leaves token_attributes n s ts) (end_of_tokens token_leaves token_attributes m s ts)
ends n m s [] = both
ends n m s (t ∷ ts) = neither

all_items : (n m : Counters) (s : State) → Alike (items token_leaves token_attributes n s) (items token_leaves token_attributes m s)
unfolding items_from items_rule at_end
all_items =
    from (items_rule token_leaves token_attributes) (λ f g alike n m s.
    pick (accept token_leaves kinds.Eof s) _ _ _ _
    (then _ _ (lines n m s) (λ l k j t. after l (alike k j t)))
    (λ end. ends n m end.1 end.1.left))

-- the tree and its features, as a file is read
abbrev pub whole : Read (WrittenTree × Counters) → Result (WrittenTree × List (Noted Tok)) ReadError
whole found = found >>= λ x. Ok (x.0.0, x.1.noted)

same_whole : {found found' : Read (WrittenTree × Counters)} → Alike found found' → whole found ≡ whole found'
same_whole both = refl
same_whole neither = refl

-- a file is read alike from any counters
pub file_by : (n : Counters) (conditions : Conditions) (tokens : List SignificantToken) → whole (reader.file token_leaves token_attributes n (start_state conditions tokens)) ≡ tree_of_tokens conditions tokens
unfolding reader.file tree_of_tokens
file_by n conditions tokens = same_whole (all_items n unnumbered (after_byte_order_mark token_leaves token_attributes (start_state conditions tokens)))
