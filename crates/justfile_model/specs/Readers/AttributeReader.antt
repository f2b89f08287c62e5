-- Parses attributes from left to right, up to the first error. Each attribute is made and compared with the earlier ones as soon as it is
-- parsed.
use Rattle.std.specs.Prelude.{ℕ, Bool, true, false, ◌&&◌, not, List, [], ◌∷◌, ◌++◌, length, map, Option, Some, None, Ok, Err, codes, if◌then◌else◌}
use Rattle.std.specs.Option.{is_some, option_map}
use Rattle.justfile_vocabulary.specs.AttributeKind.{kind_named, takes_keys}
use Rattle.justfile_vocabulary.specs.declared.attribute_kind.AttributeKind.{AttributeKind}
use Rattle.justfile_vocabulary.specs.declared.token_kind.TokenKind.TheVariants as kinds
use Rattle.justfile_model.specs.declared.level.Level.TheVariants.{Expression}
use Rattle.justfile_model.specs.Readers.ExpressionReader as expressions
use Rattle.justfile_model.specs.Grammars.Expressions.{front}
use Rattle.justfile_model.specs.Meanings.Meaning.{at_key, by_key, by_position}
use Rattle.justfile_model.specs.Readers.NewAttribute.{Made, new_entry}
use Rattle.justfile_model.specs.Readers.ReaderState.{◌>>=◌, BreaksRule, Leaves, Read, State, Unexpected, accept, accept_marked, choose, comment_in, expect, next_are}
use Rattle.justfile_model.specs.Lists.Recursive.{recursive}
use Rattle.justfile_model.specs.Meanings.Rules.{Rule, UnknownAttribute, AttributePositionalFollowsKeyword, DuplicateAttributeKey}
use Rattle.justfile_model.specs.Trees.LeafView.{LeafView}
use Rattle.justfile_model.specs.Trees.Tree as tree
use Rattle.justfile_model.specs.Trees.Tree.{Argument, Entry, Expr, WrittenAttribute, bare_attribute, commented}

-- a broken rule as a read error
abbrev pub read_made : {R T B X : Type 0} → Made B X → State R T B → Read R T B X
read_made (Ok x) s = Ok (x, s)
read_made (Err rule) s = Err (BreaksRule rule)

abbrev pub breaks : {R T B X : Type 0} → Rule B → B → Read R T B X
breaks rule token = Err (BreaksRule (record { rule = rule; token = token }))

-- How attributes are parsed: the view of leaves, the representation `W` of an attribute, and the representation `D` of all attributes of a
-- construct.
pub record AttributeLeaves (R A B D W : Type 0) : Type 0 where
  -- the view of the leaves of a tree
  pub view : R → LeafView A B
  -- the representation of an attribute, from its written form and its meaning
  pub keep : WrittenAttribute A B → Entry A B → W
  -- the meaning of an attribute
  pub entry : W → Entry A B
  -- the attribute with this comment
  pub comment : List ℕ → W → W
  -- the attributes of a construct, from those that were parsed
  pub attributes : R → List W → D

-- `view` is the view of leaves; `W` represents an attribute by its written form, its meaning, or both
module _ {R T A B S W : Type 0} (leaves : Leaves R T A B S) (view : R → LeafView A B) (keep : WrittenAttribute A B → Entry A B → W) (entry_in : W → Entry A B) where
  abbrev pub expression : State R T B → Read R T B (Expr A B)
  expression s = expressions.read leaves (expressions.At Expression false s)

  -- ---- arguments

  -- a positional argument, with the position of its first token
  abbrev pub placed_at : Option T → Expr A B × State R T B → Read R T B (Argument A B)
  placed_at None e = Err (Unexpected None)
  placed_at (Some first) e = Ok (tree.Positional (leaves.position first) e.0, e.1)

  -- an expression as a positional argument
  unfoldable pub placed : State R T B → Read R T B (Argument A B)
  placed s = do
    e ← expression s
    placed_at (front s.left) e

  -- A positional argument after one by key is an error.
  abbrev pub after_keys : (has_key : Bool) → Argument A B × State R T B → Read R T B (Argument A B)
  after_keys true (tree.Positional first value, s) = breaks AttributePositionalFollowsKeyword first
  after_keys has_key x = Ok x

  abbrev pub some_key : {X : Type 0} → List X → Bool
  some_key [] = false
  some_key (k ∷ keys) = true

  unfoldable pub positional : (before : List (Argument A B)) → State R T B → Read R T B (Argument A B)
  positional before s = do
    x ← placed s
    after_keys (some_key (by_key before)) x

  abbrev pub argument_of_key : A → Option (Expr A B) → Argument A B
  argument_of_key key None = tree.Bare key
  argument_of_key key (Some value) = tree.Keyed key value

  -- the value of a key after `=`, if there is one
  unfoldable pub key_value : State R T B → Read R T B (Option (Expr A B))
  key_value s =
      choose (accept leaves kinds.Equals s) (Ok (None, s)) (λ equals. do
        e ← expression equals.1
        Ok (Some e.0, e.1))

  -- an earlier argument has this key
  abbrev pub is_repeated : R → (before : List (Argument A B)) → T → Bool
  is_repeated run before key = is_some (at_key (view run) ((view run).bytes (leaves.name key)) (by_key before))

  abbrev pub distinct : (name : T) (before : List (Argument A B)) (key : T) → Option (Expr A B) × State R T B → Read R T B (Argument A B)
  distinct name before key value =
      if is_repeated value.1.run before key then breaks (DuplicateAttributeKey (leaves.position name) (leaves.position key)) (leaves.position key)
      else Ok (argument_of_key (leaves.name key) value.0, value.1)

  -- an argument by key of the attribute with this name
  unfoldable pub keyed : (name : T) (before : List (Argument A B)) → State R T B → Read R T B (Argument A B)
  keyed name before s = do
    key ← expect leaves kinds.Identifier s
    value ← key_value key.1
    distinct name before key.0 value

  -- the next token is a name, and doesn't mark a string after it
  abbrev pub begins_key : State R T B → Bool
  begins_key s = next_are leaves (kinds.Identifier ∷ []) s && not (is_some (accept_marked leaves (codes "x") kinds.StringToken s))

  unfoldable pub argument : (name : T) (keys : Bool) (before : List (Argument A B)) → State R T B → Read R T B (Argument A B)
  argument name keys before s = if keys && begins_key s then keyed name before s else positional before s

  -- the arguments so far, and the state after them
  abbrev pub ArgumentPlace : Type 0
  ArgumentPlace = List (Argument A B) × State R T B

  abbrev pub ReadArguments : Type 0
  ReadArguments = Read R T B (List (Argument A B))

  abbrev pub no_arguments : ArgumentPlace → ReadArguments
  no_arguments x = Err (Unexpected None)

  -- the closing parenthesis after the last argument
  unfoldable pub arguments_end : List (Argument A B) → State R T B → ReadArguments
  arguments_end all s = do
    closer ← expect leaves kinds.ParenR s
    Ok (all, closer.1)

  -- the closing parenthesis, or an argument and then a comma with more arguments or the closing parenthesis
  abbrev pub arguments_rule : (name : T) (keys : Bool) → (ArgumentPlace → ReadArguments) → ArgumentPlace → ReadArguments
  arguments_rule name keys read x =
      choose (accept leaves kinds.ParenR x.1)
      (do
        a ← argument name keys x.0 x.1
        choose (accept leaves kinds.Comma a.1) (arguments_end (x.0 ++ a.0 ∷ []) a.1) (λ comma. read (x.0 ++ a.0 ∷ [], comma.1)))
      (λ closer. Ok (x.0, closer.1))

  -- the arguments after those so far, up to and including the closing parenthesis
  unfoldable pub arguments_from : (name : T) (keys : Bool) → ArgumentPlace → ReadArguments
  arguments_from name keys = recursive (λ x. length x.1.left) no_arguments (arguments_rule name keys)

  -- the arguments after the name of an attribute
  unfoldable pub arguments : (name : T) (keys : Bool) → State R T B → ReadArguments
  arguments name keys s =
      choose (accept leaves kinds.Colon s)
      (choose (accept leaves kinds.ParenL s) (Ok ([], s)) (λ opener. arguments_from name keys ([], opener.1)))
      (λ colon. do
        a ← placed colon.1
        Ok (a.0 ∷ [], a.1))

  -- ---- attributes

  unfoldable pub kind_at : T → State R T B → Read R T B AttributeKind
  kind_at name s = kind_or_none (kind_named (leaves.see name).tok.lexeme)
    where
      kind_or_none : Option AttributeKind → Read R T B AttributeKind
      kind_or_none None = breaks (UnknownAttribute (leaves.position name)) (leaves.position name)
      kind_or_none (Some kind) = Ok (kind, s)

  -- the attribute with this name and these arguments, after the earlier ones
  unfoldable pub made : (before : List W) → T → AttributeKind → List (Argument A B) → State R T B → Read R T B W
  made before name kind arguments s = do
    e ← read_made (new_entry (view s.run) (map entry_in before) (leaves.position name) kind (by_position arguments) (by_key arguments)) s
    Ok (keep (bare_attribute (leaves.name name) arguments) e.0, e.1)

  -- an attribute after the earlier ones
  unfoldable pub attribute : (before : List W) → State R T B → Read R T B W
  attribute before s = do
    name ← expect leaves kinds.Identifier s
    kind ← kind_at name.0 name.1
    all ← arguments name.0 (takes_keys kind.0) kind.1
    made before name.0 kind.0 all.0 all.1

  -- the attributes so far, and the state after them
  abbrev pub AttributePlace : Type 0
  AttributePlace = List W × State R T B

  abbrev pub ReadAttributes : Type 0
  ReadAttributes = Read R T B (List W)

  abbrev pub no_attributes : AttributePlace → ReadAttributes
  no_attributes x = Err (Unexpected None)

  -- the closing bracket after the last attribute
  unfoldable pub bracket_end : List W → State R T B → ReadAttributes
  bracket_end all s = do
    closer ← expect leaves kinds.BracketR s
    Ok (all, closer.1)

  abbrev pub bracketed_rule : (AttributePlace → ReadAttributes) → AttributePlace → ReadAttributes
  bracketed_rule read x = do
    w ← attribute x.0 x.1
    choose (accept leaves kinds.Comma w.1) (bracket_end (x.0 ++ w.0 ∷ []) w.1) (λ comma. read (x.0 ++ w.0 ∷ [], comma.1))

  -- the attributes after those so far, up to and including the closing bracket
  unfoldable pub bracketed : AttributePlace → ReadAttributes
  bracketed = recursive (λ x. length x.1.left) no_attributes bracketed_rule

  -- the line end after this optional comment
  unfoldable pub line_end_after : (comment : Option T) → State R T B → Read R T B (Option T)
  line_end_after comment s = do
    newline ← expect leaves kinds.Eol s
    Ok (comment, newline.1)

  -- the end of a line of attributes, and the comment on it if there is one
  unfoldable pub attributes_end : State R T B → Read R T B (Option T)
  attributes_end s = choose (accept leaves kinds.Comment s) (line_end_after None s) (λ comment. line_end_after (Some comment.0) comment.1)

  -- `put` adds a comment to an attribute
  module _ (put : List ℕ → W → W) where
    -- the attributes, of which the last one gets the comment at the end of its line, if there is one
    abbrev pub commented_by : (comment : Option T) → List W → List W
    commented_by comment ws = commented put (option_map (comment_in leaves) comment) ws

    abbrev pub attribute_lines_rule : (AttributePlace → ReadAttributes) → AttributePlace → ReadAttributes
    attribute_lines_rule read x =
        choose (accept leaves kinds.BracketL x.1) (Ok x) (λ opener. do
          ws ← bracketed (x.0, opener.1)
          end ← attributes_end ws.1
          read (commented_by end.0 ws.0, end.1))

    -- the lines of attributes after the attributes so far
    unfoldable pub attribute_lines_from : AttributePlace → ReadAttributes
    attribute_lines_from = recursive (λ x. length x.1.left) no_attributes attribute_lines_rule

    -- the lines of attributes before a construct
    unfoldable pub attribute_lines : State R T B → ReadAttributes
    attribute_lines s = attribute_lines_from ([], s)
