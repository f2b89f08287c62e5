-- The parser of attribute lines, one rule at a time: it leaves fewer tokens, and the same fixed part and depth.
use Rattle.std.proofs.Common.{◌≡◌, ℕ, Bool, true, false, ◌&&◌, List, [], ◌∷◌, ◌++◌, map, Option, Some, None, Ok, Err, refl}
use Rattle.justfile_vocabulary.specs.AttributeKind.{kind_named, takes_keys}
use Rattle.justfile_vocabulary.specs.declared.attribute_kind.AttributeKind.{AttributeKind}
use Rattle.justfile_vocabulary.specs.declared.token_kind.TokenKind.TheVariants as kinds
use Rattle.justfile_model.specs.declared.level.Level.TheVariants.{Expression}
use Rattle.justfile_model.specs.Readers.AttributeReader as r
use Rattle.justfile_model.specs.Readers.AttributeReader.{read_made, breaks}
use Rattle.justfile_model.specs.Readers.ExpressionReader as expressions
use Rattle.justfile_model.specs.Grammars.Expressions.{front}
use Rattle.justfile_model.specs.Meanings.Meaning.{by_key, by_position}
use Rattle.justfile_model.specs.Readers.NewAttribute.{Made, new_entry}
use Rattle.justfile_model.specs.Readers.ReaderState.{Leaves, Read, State, accept, expect}
use Rattle.justfile_model.specs.Meanings.Rules.{UnknownAttribute}
use Rattle.justfile_model.specs.Trees.LeafView.{LeafView}
use Rattle.justfile_model.specs.Trees.Tree as tree
use Rattle.justfile_model.specs.Trees.Tree.{Argument, Entry, Expr, WrittenAttribute}
use Rattle.justfile_model.proofs.Readers.ExpressionReading.{advances}
use Rattle.justfile_model.proofs.Readers.ReadingSteps.{Goes, Keeps, accepts, after_test, after_then, bind_alike, choose_alike, either, either_goes, expects, first, keeps, loop_goes, loop_is, loop_keeps, past, past_then, then, there, weaken}

module _ {R T A B S W : Type 0} (leaves : Leaves R T A B S) (view : R → LeafView A B) (keep : WrittenAttribute A B → Entry A B → W) (entry_in : W → Entry A B)
  where
    abbrev ReadArgument : Type 0
    ReadArgument = Read R T B (Argument A B)

    abbrev ReadArguments : Type 0
    ReadArguments = Read R T B (List (Argument A B))

    abbrev ReadAttributes : Type 0
    ReadAttributes = Read R T B (List W)

    abbrev ArgumentPlace : Type 0
    ArgumentPlace = List (Argument A B) × State R T B

    abbrev AttributePlace : Type 0
    AttributePlace = List W × State R T B

    -- ---- an argument

    expression_goes : (s : State R T B) → Goes s (r.expression leaves view keep entry_in s)
    expression_goes s = advances leaves (expressions.At Expression false s)

    placed_keeps : (o : Option T) (e : Expr A B × State R T B) → Keeps e.1 (r.placed_at leaves view keep entry_in o e)
    placed_keeps None e = tt
    placed_keeps (Some t) e = there e.1

    pub placed_goes : (s : State R T B) → Goes s (r.placed leaves view keep entry_in s)
    unfolding r.placed
    placed_goes s = first s (r.expression leaves view keep entry_in s) _ (expression_goes s) (λ e. placed_keeps (front s.left) e)

    ordered_keeps : (b : Bool) (x : Argument A B × State R T B) → Keeps x.1 (r.after_keys leaves view keep entry_in b x)
    ordered_keeps true (tree.Positional t value, s) = tt
    ordered_keeps true (tree.Bare key, s) = there s
    ordered_keeps true (tree.Keyed key value, s) = there s
    ordered_keeps false x = there x.1

    pub positional_goes : (before : List (Argument A B)) (s : State R T B) → Goes s (r.positional leaves view keep entry_in before s)
    unfolding r.positional
    positional_goes before s =
        first s (r.placed leaves view keep entry_in s) _ (placed_goes s) (λ x. ordered_keeps (r.some_key leaves view keep entry_in (by_key before)) x)

    pub key_value_keeps : (s : State R T B) → Keeps s (r.key_value leaves view keep entry_in s)
    unfolding r.key_value
    key_value_keeps s =
        either s (accept leaves kinds.Equals s) _ _ (accepts leaves kinds.Equals s) (there s)
        (λ equals. then equals.1 (r.expression leaves view keep entry_in equals.1) _ (keeps equals.1 _ (expression_goes equals.1)) (λ e. there e.1))

    distinct_keeps : (name : T) (before : List (Argument A B)) (key : T) (x : Option (Expr A B) × State R T B)
        → Keeps x.1 (r.distinct leaves view keep entry_in name before key x)
    distinct_keeps name before key x =
        after_test (r.is_repeated leaves view keep entry_in x.1.run before key) _ _ (Keeps {X = Argument A B} x.1) (λ _. tt) (λ _. there x.1)

    pub keyed_goes : (name : T) (before : List (Argument A B)) (s : State R T B) → Goes s (r.keyed leaves view keep entry_in name before s)
    unfolding r.keyed
    keyed_goes name before s =
        first s (expect leaves kinds.Identifier s) _ (expects leaves kinds.Identifier s)
        (λ key. then key.1 (r.key_value leaves view keep entry_in key.1) _ (key_value_keeps key.1) (λ value. distinct_keeps name before key.0 value))

    pub argument_goes : (name : T) (keys : Bool) (before : List (Argument A B)) (s : State R T B)
        → Goes s (r.argument leaves view keep entry_in name keys before s)
    unfolding r.argument
    argument_goes name keys before s =
        after_test (keys && r.begins_key leaves view keep entry_in s) _ _ (Goes {X = Argument A B} s) (λ _. keyed_goes name before s)
        (λ _. positional_goes before s)

    -- ---- arguments

    pub arguments_from_goes : (name : T) (keys : Bool) (x : ArgumentPlace) → Goes x.1 (r.arguments_from leaves view keep entry_in name keys x)
    unfolding r.arguments_from r.arguments_end
    arguments_from_goes name keys =
        loop_goes (λ x. x.1) (r.arguments_rule leaves view keep entry_in name keys) (λ f h x.
        either_goes x.1 (accept leaves kinds.ParenR x.1) _ _ (accepts leaves kinds.ParenR x.1)
        (first x.1 (r.argument leaves view keep entry_in name keys x.0 x.1) _ (argument_goes name keys x.0 x.1) (λ a.
        either a.1 (accept leaves kinds.Comma a.1) _ _ (accepts leaves kinds.Comma a.1)
        (then a.1 (expect leaves kinds.ParenR a.1) _ (keeps a.1 _ (expects leaves kinds.ParenR a.1)) (λ closer. there closer.1))
        (λ comma. keeps comma.1 (f (x.0 ++ a.0 ∷ [], comma.1)) (h (x.0 ++ a.0 ∷ [], comma.1)))))
        (λ closer. there closer.1))

    pub arguments_from_is : (name : T) (keys : Bool) (x : ArgumentPlace)
        → r.arguments_from leaves view keep entry_in name keys x ≡ r.arguments_rule leaves view keep entry_in name keys
        (r.arguments_from leaves view keep entry_in name keys) x
    unfolding r.arguments_from
    arguments_from_is name keys x =
        loop_is (λ x. x.1) (r.arguments_rule leaves view keep entry_in name keys) (λ x f g same.
        choose_alike (accept leaves kinds.ParenR x.1) _ _ _ _
        (λ _. bind_alike (r.argument leaves view keep entry_in name keys x.0 x.1) _ _ (λ a is. choose_alike (accept leaves kinds.Comma a.1) _ _ _ _ (λ _. refl)
        (λ comma taken. same (x.0 ++ a.0 ∷ [], comma.1)
        (past_then x.1 a.1 comma.1 (past x.1 _ a (argument_goes name keys x.0 x.1) is) (weaken a.1 comma.1 (accepts leaves kinds.Comma a.1 comma taken))).0)))
        (λ _ _. refl)) x

    pub arguments_keep : (name : T) (keys : Bool) (s : State R T B) → Keeps s (r.arguments leaves view keep entry_in name keys s)
    unfolding r.arguments
    arguments_keep name keys s =
        either s (accept leaves kinds.Colon s) _ _ (accepts leaves kinds.Colon s)
        (either s (accept leaves kinds.ParenL s) _ _ (accepts leaves kinds.ParenL s) (there s)
        (λ opener. keeps opener.1 _ (arguments_from_goes name keys ([], opener.1))))
        (λ colon. then colon.1 (r.placed leaves view keep entry_in colon.1) _ (keeps colon.1 _ (placed_goes colon.1)) (λ a. there a.1))

    -- ---- an attribute

    -- the kind of this name, if there is one
    abbrev pub kind_or_refused : T → State R T B → Option AttributeKind → Read R T B AttributeKind
    kind_or_refused name s None = breaks (UnknownAttribute (leaves.position name)) (leaves.position name)
    kind_or_refused name s (Some kind) = Ok (kind, s)

    by_kind : (name : T) (s : State R T B) (o : Option AttributeKind) → kind_named (leaves.see name).tok.lexeme ≡ o
        → r.kind_at leaves view keep entry_in name s ≡ kind_or_refused name s o
    unfolding r.kind_at
    by_kind name s None e = rw e refl
    by_kind name s (Some kind) e = rw e refl

    pub kind_at_is : (name : T) (s : State R T B) → r.kind_at leaves view keep entry_in name s ≡ kind_or_refused name s
        (kind_named (leaves.see name).tok.lexeme)
    kind_at_is name s = by_kind name s (kind_named (leaves.see name).tok.lexeme) refl

    kind_keeps : (name : T) (s : State R T B) (o : Option AttributeKind) → Keeps s (kind_or_refused name s o)
    kind_keeps name s None = tt
    kind_keeps name s (Some kind) = there s

    kind_at_keeps : (name : T) (s : State R T B) → Keeps s (r.kind_at leaves view keep entry_in name s)
    kind_at_keeps name s = rw (kind_at_is name s) (kind_keeps name s (kind_named (leaves.see name).tok.lexeme))

    read_made_keeps : {X : Type 0} (found : Made B X) (s : State R T B) → Keeps s (read_made found s)
    read_made_keeps (Ok x) s = there s
    read_made_keeps (Err e) s = tt

    pub made_keeps : (before : List W) (name : T) (kind : AttributeKind) (all : List (Argument A B)) (s : State R T B)
        → Keeps s (r.made leaves view keep entry_in before name kind all s)
    unfolding r.made
    made_keeps before name kind all s =
        let entry : Made B (Entry A B) = new_entry (view s.run) (map entry_in before) (leaves.position name) kind (by_position all) (by_key all) in
        then s (read_made entry s) _ (read_made_keeps entry s) (λ e. there e.1)

    pub attribute_goes : (before : List W) (s : State R T B) → Goes s (r.attribute leaves view keep entry_in before s)
    unfolding r.attribute
    attribute_goes before s =
        first s (expect leaves kinds.Identifier s) _ (expects leaves kinds.Identifier s) (λ name.
        then name.1 (r.kind_at leaves view keep entry_in name.0 name.1) _ (kind_at_keeps name.0 name.1) (λ kind.
        then kind.1 (r.arguments leaves view keep entry_in name.0 (takes_keys kind.0) kind.1) _ (arguments_keep name.0 (takes_keys kind.0) kind.1) (λ all.
        made_keeps before name.0 kind.0 all.0 all.1)))

    -- ---- the attributes of a bracket

    pub bracketed_goes : (x : AttributePlace) → Goes x.1 (r.bracketed leaves view keep entry_in x)
    unfolding r.bracketed r.bracket_end
    bracketed_goes =
        loop_goes (λ x. x.1) (r.bracketed_rule leaves view keep entry_in) (λ f h x.
        first x.1 (r.attribute leaves view keep entry_in x.0 x.1) _ (attribute_goes x.0 x.1) (λ w.
        either w.1 (accept leaves kinds.Comma w.1) _ _ (accepts leaves kinds.Comma w.1)
        (then w.1 (expect leaves kinds.BracketR w.1) _ (keeps w.1 _ (expects leaves kinds.BracketR w.1)) (λ closer. there closer.1))
        (λ comma. keeps comma.1 (f (x.0 ++ w.0 ∷ [], comma.1)) (h (x.0 ++ w.0 ∷ [], comma.1)))))

    pub bracketed_is : (x : AttributePlace) → r.bracketed leaves view keep entry_in x ≡ r.bracketed_rule leaves view keep
        entry_in (r.bracketed leaves view keep entry_in) x
    unfolding r.bracketed
    bracketed_is x =
        loop_is (λ x. x.1) (r.bracketed_rule leaves view keep entry_in) (λ x f g same.
        bind_alike (r.attribute leaves view keep entry_in x.0 x.1) _ _
        (λ w is. choose_alike (accept leaves kinds.Comma w.1) _ _ _ _ (λ _. refl)
        (λ comma taken. same (x.0 ++ w.0 ∷ [], comma.1)
        (past_then x.1 w.1 comma.1 (past x.1 _ w (attribute_goes x.0 x.1) is) (weaken w.1 comma.1 (accepts leaves kinds.Comma w.1 comma taken))).0))) x

    -- ---- lines of attributes

    line_end_goes : (comment : Option T) (s : State R T B) → Goes s (r.line_end_after leaves view keep entry_in comment s)
    unfolding r.line_end_after
    line_end_goes comment s = first s (expect leaves kinds.Eol s) _ (expects leaves kinds.Eol s) (λ newline. there newline.1)

    pub attributes_end_goes : (s : State R T B) → Goes s (r.attributes_end leaves view keep entry_in s)
    unfolding r.attributes_end
    attributes_end_goes s =
        either_goes s (accept leaves kinds.Comment s) _ _ (accepts leaves kinds.Comment s) (line_end_goes None s)
        (λ comment. keeps comment.1 _ (line_end_goes (Some comment.0) comment.1))

    -- `put` adds a comment to the part of an attribute that is kept
    module _ (put : List ℕ → W → W) where
      pub attribute_lines_from_keep : (x : AttributePlace) → Keeps x.1 (r.attribute_lines_from leaves view keep entry_in put x)
      unfolding r.attribute_lines_from
      attribute_lines_from_keep =
          loop_keeps (λ x. x.1) (r.attribute_lines_rule leaves view keep entry_in put) (λ f h x.
          either x.1 (accept leaves kinds.BracketL x.1) _ _ (accepts leaves kinds.BracketL x.1) (there x.1) (λ opener.
          then opener.1 (r.bracketed leaves view keep entry_in (x.0, opener.1)) _ (keeps opener.1 _ (bracketed_goes (x.0, opener.1))) (λ ws.
          then ws.1 (r.attributes_end leaves view keep entry_in ws.1) _ (keeps ws.1 _ (attributes_end_goes ws.1)) (λ end. h (r.commented_by leaves view keep entry_in put end.0 ws.0, end.1)))))

      -- a construct can have no attributes, and then no token is taken
      pub attribute_lines_keep : (s : State R T B) → Keeps s (r.attribute_lines leaves view keep entry_in put s)
      unfolding r.attribute_lines
      attribute_lines_keep s = attribute_lines_from_keep ([], s)

      pub attribute_lines_from_is : (x : AttributePlace)
          → r.attribute_lines_from leaves view keep entry_in put x ≡ r.attribute_lines_rule leaves view keep
          entry_in put (r.attribute_lines_from leaves view keep entry_in put) x
      unfolding r.attribute_lines_from
      attribute_lines_from_is x =
          loop_is (λ x. x.1) (r.attribute_lines_rule leaves view keep entry_in put) (λ x f g same.
          choose_alike (accept leaves kinds.BracketL x.1) _ _ _ _ (λ _. refl)
          (λ opener taken. bind_alike (r.bracketed leaves view keep entry_in (x.0, opener.1)) _ _ (λ ws is.
          bind_alike (r.attributes_end leaves view keep entry_in ws.1) _ _ (λ end is2. same (r.commented_by leaves view keep entry_in put end.0 ws.0, end.1)
          (past_then x.1 opener.1 end.1 (accepts leaves kinds.BracketL x.1 opener taken)
          (after_then opener.1 ws.1 end.1 (weaken opener.1 ws.1 (past opener.1 _ ws (bracketed_goes (x.0, opener.1)) is))
          (weaken ws.1 end.1 (past ws.1 _ end (attributes_end_goes ws.1) is2)))).0)))) x
