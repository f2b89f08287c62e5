-- Parses the tokens of a file from left to right, up to the first error, and numbers bindings and recipes. A law states that this agrees
-- with the grammar.
use Rattle.std.specs.Prelude.{ℕ, ◌+◌, Bool, true, false, ◌||◌, List, [], ◌∷◌, length, drop, map, Option, None, Ok, Err, codes, if◌then◌else◌}
use Rattle.std.specs.Option.{option_map}
use Rattle.justfile_vocabulary.specs.declared.item_kind.ItemKind.{ItemKind}
use Rattle.justfile_vocabulary.specs.declared.item_kind.ItemKind.TheVariants as item_kinds
use Rattle.justfile_vocabulary.specs.declared.token_kind.TokenKind.TheVariants as kinds
use Rattle.justfile_model.specs.Readers.AttributeReader as attribute_reader
use Rattle.justfile_model.specs.Readers.AttributeReader.{AttributeLeaves}
use Rattle.justfile_model.specs.Meanings.AttributeRules.{allowed_broken, arg_rules}
use Rattle.justfile_model.specs.Trees.ContentKeys.{entry_cmp}
use Rattle.justfile_model.specs.Lists.Order.{in_order}
use Rattle.justfile_model.specs.Meanings.RecipeRules.{exclusions_broken}
use Rattle.justfile_model.specs.Trees.Tree as tree
use Rattle.justfile_model.specs.Grammars.Expressions.{front}
use Rattle.justfile_model.specs.Readers.HeaderReader.{ReadHeader, next_binding_number, expression, header, obeying, path}
use Rattle.justfile_model.specs.Trees.Tree.{ArgumentRules, BodyLine, Construct, Content, Entry, Expr, Fragment, Header, Item, Line, RecipeParts, assignment_of, bare_module, bare_recipe, trimmed}
use Rattle.justfile_model.specs.Lists.Recursive.{recursive}
use Rattle.justfile_model.specs.Readers.ReaderState.{◌>>=◌, Counters, Extraneous, Leaves, NoNumber, Read, State, Unexpected, accept, accepted, prepend, at, choose, comment_in, expect, next_are, refused}
use Rattle.justfile_model.specs.Readers.PartReader.{accept_keyword_before, after_numbered, file_path, peek_assignment, is_imported, is_module, is_set, setting_keyword, line_is, names, optional_path, setting_value}
use Rattle.justfile_model.specs.Grammars.Settings.{setting_form}

abbrev pub with_recipes : ℕ → Counters → Counters
with_recipes recipes n = record { bindings = n.bindings; constants = n.constants; recipes = recipes }

-- a body has at least one line
abbrev pub some_line : {A B C : Type 0} → List (BodyLine A B C) → Bool
some_line [] = false
some_line (l ∷ lines) = true

-- the construct is a recipe with a body
abbrev pub content_has_body : {A B C S : Type 0} → Content A B C S → Bool
content_has_body (tree.Alias parts) = false
content_has_body (tree.Assignment parts) = false
content_has_body (tree.Function parts) = false
content_has_body (tree.Import parts) = false
content_has_body (tree.Module parts) = false
content_has_body (tree.Recipe parts) = some_line parts.body
content_has_body (tree.Setting parts) = false
content_has_body (tree.Unexport name) = false

abbrev pub has_body : {A B C S D : Type 0} → Item A B C S D → Bool
has_body tree.Newline = false
has_body (tree.Comment text) = false
has_body (Construct attributes content) = content_has_body content

module _ {R T A B S : Type 0} (leaves : Leaves R T A B S) where
  -- the line on which the next token begins
  abbrev pub line_at : List T → ℕ
  line_at [] = 0
  line_at (t ∷ ts) = (leaves.see t).tok.line

  -- ---- numbers

  -- the number of the next recipe
  unfoldable pub next_recipe_number : Counters → State R T B → Read R T B (ℕ × Counters)
  next_recipe_number n s = if leaves.has_number n.recipes then Ok ((n.recipes, with_recipes (n.recipes + 1) n), s) else Err (NoNumber n)

  -- ---- bodies

  -- a text, or an expression between `{{` and `}}`
  unfoldable pub fragment : State R T B → Read R T B (Fragment A B)
  fragment s =
      choose (accept leaves kinds.Text s)
      (do
        start ← expect leaves kinds.InterpolationStart s
        e ← expression leaves start.1
        end ← expect leaves kinds.InterpolationEnd e.1
        Ok (tree.Interpolation e.0, end.1))
      (λ t. Ok (tree.Text (leaves.text t.0), t.1))

  abbrev pub no_line_rest : State R T B → Read R T B (List (Fragment A B))
  no_line_rest s = Err (Unexpected None)

  unfoldable pub line_rest_rule : (State R T B → Read R T B (List (Fragment A B))) → State R T B → Read R T B (List (Fragment A B))
  line_rest_rule read s =
      choose (accept leaves kinds.Eol s)
      (if next_are leaves (kinds.Dedent ∷ []) s then Ok ([], s)
      else (do
        f ← fragment s
        prepend (f.0 ∷ []) (read f.1)))
      (λ newline. Ok ([], newline.1))

  -- the rest of a body line; the line's end is taken, the end of the body isn't
  unfoldable pub line_rest : State R T B → Read R T B (List (Fragment A B))
  line_rest = recursive (λ s. length s.left) no_line_rest line_rest_rule

  unfoldable pub body_line : State R T B → Read R T B (BodyLine A B ℕ)
  body_line s = do
    fragments ← line_rest s
    Ok (Line (line_at s.left) fragments.0, fragments.1)

  abbrev pub no_lines : State R T B → Read R T B (List (BodyLine A B ℕ))
  no_lines s = Err (Unexpected None)

  unfoldable pub lines_rule : (State R T B → Read R T B (List (BodyLine A B ℕ))) → State R T B → Read R T B (List (BodyLine A B ℕ))
  lines_rule read s =
      choose (accept leaves kinds.Dedent s)
      (do
        l ← body_line s
        prepend (l.0 ∷ []) (read l.1))
      (λ end. Ok ([], end.1))

  -- the lines of a body, and the end of the body
  unfoldable pub lines : State R T B → Read R T B (List (BodyLine A B ℕ))
  lines = recursive (λ s. length s.left) no_lines lines_rule

  -- the lines of a body, at least one of which isn't empty
  abbrev pub some_lines : List (BodyLine A B ℕ) → State R T B → Read R T B (List (BodyLine A B ℕ))
  some_lines [] s = Err (refused Unexpected s)
  some_lines (l ∷ ls) s = Ok (l ∷ ls, s)

  -- a body, from its first line
  unfoldable pub body : State R T B → Read R T B (List (BodyLine A B ℕ))
  body s = do
    ls ← lines s
    some_lines (trimmed ls.0) ls.1

  -- the optional comment before a body, and the body
  abbrev pub CommentedBody : Type 0
  CommentedBody = Option T × List (BodyLine A B ℕ)

  -- a body from its first line, with the optional comment before it
  unfoldable pub body_after : (comment : Option T) → State R T B → Read R T B CommentedBody
  body_after comment s = do
    ls ← body s
    Ok ((comment, ls.0), ls.1)

  -- the body of a recipe and the comment before it, from the end of the header; neither if the recipe has no body
  unfoldable pub optional_body : State R T B → Read R T B CommentedBody
  optional_body s =
      if next_are leaves (kinds.Eol ∷ kinds.Indent ∷ []) s then body_after None (at s (drop 2 s.left))
      else if next_are leaves (kinds.Comment ∷ kinds.Eol ∷ kinds.Indent ∷ []) s then body_after (front s.left) (at s (drop 3 s.left))
      else Ok ((None, []), s)

module _ {R T A B S D W : Type 0} (leaves : Leaves R T A B S) (kept : AttributeLeaves R A B D W) where
  -- ---- attributes

  -- the meaning of attributes, in content order
  abbrev pub entries_read : R → List W → List (Entry A B)
  entries_read run ws = in_order (entry_cmp (kept.view run)) (map kept.entry ws)

  -- a blank line or a comment comes next
  abbrev pub stands_alone : State R T B → Bool
  stands_alone s = next_are leaves (kinds.Eol ∷ []) s || next_are leaves (kinds.Comment ∷ []) s

  -- Attributes before a blank line or a comment are an error at their first bracket.
  abbrev pub before_item : (opener : T) → List W × State R T B → Read R T B (List W)
  before_item opener x = if stands_alone x.1 then Err (Extraneous (length x.0) (leaves.position opener)) else Ok x

  -- the attributes before a construct, which has to follow them
  unfoldable pub attributes : State R T B → Read R T B (List W)
  attributes s =
      choose (accept leaves kinds.BracketL s) (Ok ([], s)) (λ opener. do
        ws ← attribute_reader.attribute_lines leaves kept.view kept.keep kept.entry kept.comment s
        before_item opener.0 ws)

  -- ---- items

  -- a comment without trailing whitespace
  abbrev pub comment_item : T → Item A B ℕ S D
  comment_item t = tree.Comment (comment_in leaves t)

  -- an item with its attributes, and the counters
  abbrev pub ReadItem : Type 0
  ReadItem = Read R T B (Item A B ℕ S D × Counters)

  -- a construct with its attributes as an item
  abbrev pub constructed : List W → Content A B ℕ S → Counters → State R T B → ReadItem
  constructed ws content n s = Ok ((Construct (kept.attributes s.run ws) content, n), s)

  -- refuses attributes that an item of this kind can't have, at its name
  abbrev pub check_allowed : ItemKind → List W → T → State R T B → Read R T B (Unit {0})
  check_allowed item ws name s = obeying (allowed_broken (kept.view s.run) item (leaves.position name) (entries_read s.run ws)) s

  -- an alias, after its attributes and its keyword
  unfoldable pub alias : List W → Counters → State R T B → ReadItem
  alias ws n s = do
    name ← expect leaves kinds.Identifier s
    operator ← expect leaves kinds.ColonEquals name.1
    target ← path leaves operator.1
    checked ← check_allowed item_kinds.Alias ws name.0 target.1
    constructed ws (tree.Alias (record { name = leaves.name name.0; target = target.0 })) n checked.1

  -- an assignment with its attributes and its number
  abbrev pub assigned : (eager export : Bool) → List W → T → Expr A B → (ℕ × Counters) × State R T B → ReadItem
  assigned eager export ws name value x =
      constructed ws (tree.Assignment (assignment_of eager export (leaves.assignment x.1.run name x.0.0) value)) x.0.1 x.1

  -- an assignment, after its attributes and its optional keyword
  unfoldable pub assignment : (eager export : Bool) → List W → Counters → State R T B → ReadItem
  assignment eager export ws n s = do
    name ← expect leaves kinds.Identifier s
    operator ← expect leaves kinds.ColonEquals name.1
    e ← expression leaves operator.1
    checked ← check_allowed item_kinds.Assignment ws name.0 e.1
    number ← next_binding_number leaves n checked.1
    assigned eager export ws name.0 e.0 number

  -- a function, after its attributes
  unfoldable pub function : List W → Counters → State R T B → ReadItem
  function ws n s = do
    name ← expect leaves kinds.Identifier s
    checked ← check_allowed item_kinds.Function ws name.0 name.1
    opener ← expect leaves kinds.ParenL checked.1
    parameters ← names leaves (n, opener.1)
    operator ← expect leaves kinds.ColonEquals parameters.1
    body ← expression leaves operator.1
    constructed ws (tree.Function (record { name = leaves.name name.0; parameters = parameters.0.0; body = body.0 })) parameters.0.1 body.1

  -- an import, after its attributes, its keyword and the optional `?`
  unfoldable pub imported : (optional : Bool) → List W → Counters → State R T B → ReadItem
  imported optional ws n s = do
    path ← file_path leaves s
    checked ← check_allowed item_kinds.Import ws path.0.0 path.1
    constructed ws (tree.Import (record { optional = optional; path = path.0.1 })) n checked.1

  -- an import, after its attributes and its keyword
  unfoldable pub import : List W → Counters → State R T B → ReadItem
  import ws n s = imported (accepted leaves kinds.QuestionMark s).0 ws n (accepted leaves kinds.QuestionMark s).1

  -- a module, after its attributes, its keyword and the optional `?`
  unfoldable pub named_module : (optional : Bool) → List W → Counters → State R T B → ReadItem
  named_module optional ws n s = do
    name ← expect leaves kinds.Identifier s
    path ← optional_path leaves name.1
    checked ← check_allowed item_kinds.Module ws name.0 path.1
    constructed ws (tree.Module (bare_module optional (leaves.name name.0) path.0)) n checked.1

  -- a module, after its attributes and its keyword
  unfoldable pub any_module : List W → Counters → State R T B → ReadItem
  any_module ws n s = named_module (accepted leaves kinds.QuestionMark s).0 ws n (accepted leaves kinds.QuestionMark s).1

  -- a setting, after its attributes and its keyword
  unfoldable pub setting : List W → Counters → State R T B → ReadItem
  setting ws n s = do
    name ← expect leaves kinds.Identifier s
    keyword ← setting_keyword leaves name.0 name.1
    checked ← check_allowed item_kinds.Setting ws name.0 keyword.1
    value ← setting_value leaves kept.view name.0 keyword.0 (setting_form keyword.0) checked.1
    constructed ws (tree.Setting (record { keyword = keyword.0; name = leaves.name name.0; value = value.0 })) n value.1

  -- a variable that isn't exported, after its attributes and its keyword
  unfoldable pub unexport : List W → Counters → State R T B → ReadItem
  unexport ws n s = do
    name ← expect leaves kinds.Identifier s
    checked ← check_allowed item_kinds.Unexport ws name.0 name.1
    constructed ws (tree.Unexport (leaves.name name.0)) n checked.1

  -- the header of a recipe, whose name is the projection that was made at the end of the recipe
  abbrev pub header_kept : (quiet : Bool) → ReadHeader T A B S → A → Header A B S
  header_kept quiet h name = record { quiet = quiet; name = name; parameters = h.parameters; priors = h.priors; subsequents = h.subsequents }

  -- the recipe with this header and body, and with this projection of its name
  abbrev pub recipe_kept : (quiet : Bool) → ReadHeader T A B S → CommentedBody leaves → A → RecipeParts A B ℕ S
  recipe_kept quiet h b name = bare_recipe (header_kept quiet h name) (option_map (comment_in leaves) b.0) b.1

  -- a recipe with its attributes and its number
  abbrev pub headed : (quiet : Bool) → List W → ReadHeader T A B S → CommentedBody leaves → (ℕ × Counters) × State R T B → Read R T B (Item A B ℕ S D × Counters)
  headed quiet ws h b x =
      Ok ((Construct (kept.attributes x.1.run ws) (tree.Recipe (recipe_kept quiet h b (leaves.recipe x.1.run h.name x.0.0 b.1))), x.0.1), x.1)

  -- The attributes of the recipe with this name don't exclude each other.
  abbrev pub check_exclusions : List W → T → State R T B → Read R T B (Unit {0})
  check_exclusions ws name s = obeying (exclusions_broken (kept.view s.run) (leaves.position name) (entries_read s.run ws)) s

  -- what `arg` attributes set for parameters
  abbrev pub argument_rules : R → List W → List (ArgumentRules A B)
  argument_rules run ws = arg_rules (entries_read run ws)

  -- a recipe after its attributes and the optional `@`; it gets its number at its end
  unfoldable pub recipe : (quiet : Bool) → List W → Counters → State R T B → Read R T B (Item A B ℕ S D × Counters)
  recipe quiet ws n s = do
    h ← header leaves kept.view (argument_rules s.run ws) n s
    b ← optional_body leaves h.1
    checked ← check_exclusions ws h.0.0.name b.1
    number ← next_recipe_number leaves h.0.1 checked.1
    headed quiet ws h.0.0 b.0 number

  -- a recipe, after its attributes
  unfoldable pub any_recipe : List W → Counters → State R T B → Read R T B (Item A B ℕ S D × Counters)
  any_recipe ws n s = choose (accept leaves kinds.At s) (recipe false ws n s) (λ at. recipe true ws n at.1)

  -- a construct that doesn't begin with a keyword, after its attributes
  unfoldable pub without_keyword : List W → Counters → State R T B → ReadItem
  without_keyword ws n s =
      if next_are leaves (kinds.Identifier ∷ kinds.ParenL ∷ []) s then function ws n s
      else if peek_assignment leaves s then assignment false false ws n s
      else any_recipe ws n s

  -- a construct after its attributes; a keyword at its start is a name unless it is followed by what the keyword requires
  unfoldable pub content : List W → Counters → State R T B → ReadItem
  content ws n s =
      choose (accept_keyword_before leaves (codes "alias") (peek_assignment leaves) s)
      (choose (accept_keyword_before leaves (codes "eager") (peek_assignment leaves) s)
      (choose (accept_keyword_before leaves (codes "export") (peek_assignment leaves) s)
      (choose (accept_keyword_before leaves (codes "unexport") (line_is leaves (kinds.Identifier ∷ [])) s)
      (choose (accept_keyword_before leaves (codes "import") (is_imported leaves) s)
      (choose (accept_keyword_before leaves (codes "mod") (is_module leaves) s)
      (choose (accept_keyword_before leaves (codes "set") (is_set leaves) s)
      (without_keyword ws n s)
      (λ word. setting ws n word.1))
      (λ word. any_module ws n word.1))
      (λ word. import ws n word.1))
      (λ word. unexport ws n word.1))
      (λ word. assignment false true ws n word.1))
      (λ word. assignment true false ws n word.1))
      (λ word. alias ws n word.1)

  -- a construct with its attributes
  unfoldable pub construct : Counters → State R T B → Read R T B (Item A B ℕ S D × Counters)
  construct n s = do
    ws ← attributes s
    content ws.0 n ws.1

  -- an item at the start of a line: a comment, or a construct
  unfoldable pub any_item : Counters → State R T B → Read R T B (Item A B ℕ S D × Counters)
  any_item n s = choose (accept leaves kinds.Comment s) (construct n s) (λ c. Ok ((comment_item c.0, n), c.1))

  -- a line end, which is an item; or the end of the file, which isn't an item and isn't taken
  unfoldable pub line_end : State R T B → Read R T B (List (Item A B ℕ S D))
  line_end s =
      choose (accept leaves kinds.Eof s)
      (do
        newline ← expect leaves kinds.Eol s
        Ok (tree.Newline ∷ [], newline.1))
      (λ x. Ok ([], s))

  -- an optional comment after an item, and the end of the line
  unfoldable pub after_item : State R T B → Read R T B (List (Item A B ℕ S D))
  after_item s =
      choose (accept leaves kinds.Comment s)
      (line_end s)
      (λ c. do
        end ← line_end c.1
        Ok (comment_item c.0 ∷ end.0, end.1))

  -- the end of an item with or without a body; after a body a new line starts, so its line end is added
  unfoldable pub item_end : (has_body : Bool) → State R T B → Read R T B (List (Item A B ℕ S D))
  item_end has_body s = if has_body then Ok (tree.Newline ∷ [], s) else after_item s

  -- the items of a line: its end alone, or an item and the end after it
  unfoldable pub line : Counters → State R T B → Read R T B (List (Item A B ℕ S D) × Counters)
  line n s =
      choose (accept leaves kinds.Eol s)
      (do
        i ← any_item n s
        b ← item_end (has_body i.0.0) i.1
        Ok ((i.0.0 ∷ b.0, i.0.1), b.1))
      (λ newline. Ok ((tree.Newline ∷ [], n), newline.1))

  -- There are no tokens after the end of the file.
  abbrev pub end_of_tokens : Counters → State R T B → List T → Read R T B (List (Item A B ℕ S D) × Counters)
  end_of_tokens n s [] = Ok (([], n), s)
  end_of_tokens n s (t ∷ ts) = Err (refused Unexpected s)

  unfoldable pub at_end : Counters → State R T B → Read R T B (List (Item A B ℕ S D) × Counters)
  at_end n s = end_of_tokens n s s.left

  -- the start of a line: the counters, and the state
  abbrev pub Start : Type 0
  Start = Counters × State R T B

  unfoldable pub items_rule : (Start → Read R T B (List (Item A B ℕ S D) × Counters)) → Start → Read R T B (List (Item A B ℕ S D) × Counters)
  items_rule read x =
      choose (accept leaves kinds.Eof x.1)
      (do
        l ← line x.0 x.1
        after_numbered l.0.0 (read (l.0.1, l.1)))
      (λ end. at_end x.0 end.1)

  abbrev pub no_items : Start → Read R T B (List (Item A B ℕ S D) × Counters)
  no_items x = Err (Unexpected None)

  -- the items from the start of a line to the end of the file
  unfoldable pub items_from : Start → Read R T B (List (Item A B ℕ S D) × Counters)
  items_from = recursive (λ x. length x.1.left) no_items items_rule

  abbrev pub items : Counters → State R T B → Read R T B (List (Item A B ℕ S D) × Counters)
  items n s = items_from (n, s)

  -- the state after a byte order mark, if one is next
  abbrev pub after_byte_order_mark : State R T B → State R T B
  after_byte_order_mark s = choose (accept leaves kinds.ByteOrderMark s) s (λ mark. mark.1)

  unfoldable pub file : Counters → State R T B → Read R T B (List (Item A B ℕ S D) × Counters)
  file n s = items n (after_byte_order_mark s)
