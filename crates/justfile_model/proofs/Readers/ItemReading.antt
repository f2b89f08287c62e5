-- The parser of items and bodies, one rule at a time, and the steps of its loops.
use Rattle.std.proofs.Common.{◌≡◌, ℕ, true, false, Bool, ◌&&◌, cond, List, [], ◌∷◌, ◌++◌, drop, Option, Some, None, Ok, Err, codes, refl, sym, ap, arith}
use Rattle.std.proofs.lemmas.List.{append-nil, append_assoc, length-drop}
use Rattle.justfile_vocabulary.specs.declared.item_kind.ItemKind.TheVariants as item_kinds
use Rattle.justfile_vocabulary.specs.declared.token_kind.TokenKind.{TokenKind}
use Rattle.justfile_vocabulary.specs.declared.token_kind.TokenKind.TheVariants as kinds
use Rattle.justfile_model.specs.Readers.AttributeReader.{AttributeLeaves, attribute_lines}
use Rattle.justfile_model.specs.Readers.HeaderReader.{next_binding_number, expression, header, path}
use Rattle.justfile_model.specs.Readers.PartReader.{accept_keyword_before, after_numbered, file_path, peek_assignment, is_imported, is_module, is_set, setting_keyword, line_is, names, optional_path, setting_value}
use Rattle.justfile_model.specs.Grammars.Settings.{setting_form}
use Rattle.justfile_model.specs.Grammars.Expressions.{front}
use Rattle.justfile_model.specs.Readers.Reader.{CommentedBody, alias, check_allowed, any_module, any_recipe, argument_rules, assignment, at_end, attributes, before_item, body, body_after, body_line, construct, content, next_recipe_number, item_end, fragment, function, has_body, import, imported, after_item, items, items_from, items_rule, line, line_end, line_rest, line_rest_rule, lines, lines_rule, named_module, check_exclusions, any_item, optional_body, recipe, setting, some_lines, stands_alone, unexport, without_keyword}
use Rattle.justfile_model.specs.Readers.ReaderState.{◌>>=◌, Counters, Leaves, Read, ReadError, State, Taken, accept, accept_by, accepted, prepend, at, begin_with, choose, expect, next_are, same_kind}
use Rattle.justfile_model.specs.Trees.Tree.{Fragment, BodyLine, Item, trimmed}
use Rattle.justfile_model.proofs.Readers.AttributeReading.{attribute_lines_keep}
use Rattle.justfile_model.proofs.Readers.HeaderReading.{accepted_keeps, header_goes, obeying_keeps, path_goes}
pub use Rattle.justfile_model.proofs.Readers.HeaderReading.{binding_keeps, expression_goes}
use Rattle.justfile_model.proofs.Readers.PartReading.{accepts_before, file_path_goes, keyword_at_keeps, names_go, optional_path_keeps, setting_value_keeps}
use Rattle.justfile_model.proofs.Lists.Prepended.{after_goes, after_keeps}
pub use Rattle.justfile_model.proofs.Lists.Prepended.{after_begin, after_nothing, after_refused, after_regroups}
use Rattle.justfile_model.proofs.Readers.ReadingSteps.{Goes, ItemRest, Keeps, accepts, after_test, bind_alike, choose_alike, either, either_goes, expects, first, from_there, goes_after, keeps, loop_goes, loop_is, loop_keeps, past, test_alike, then, then_goes, there}

-- ---- what was read before, and what is read after it

module _ {R T B : Type 0} where
  -- nothing before what is read with its numbers leaves it as it is
  pub numbered_begin : {X : Type 0} (found : Read R T B (List X × Counters)) → after_numbered [] found ≡ found
  unfolding after_numbered
  numbered_begin (Ok x) = refl
  numbered_begin (Err e) = refl

  pub numbered_regroups : {X : Type 0} (done more : List X) (found : Read R T B (List X × Counters)) → after_numbered done (after_numbered more found) ≡ after_numbered (done ++ more) found
  unfolding after_numbered
  numbered_regroups {X} done more (Ok x) = ap (λ (l : List X). Ok ((l, x.0.1), x.1)) (sym (append_assoc done more x.0.0))
  numbered_regroups done more (Err e) = refl

  pub numbered_nothing : {X : Type 0} (done : List X) (n : Counters) (rest : State R T B) → after_numbered done (Ok (([], n), rest)) ≡ Ok ((done, n), rest)
  unfolding after_numbered
  numbered_nothing {X} done n rest = ap (λ (l : List X). Ok ((l, n), rest)) (append-nil done)

  pub numbered_refused : {X : Type 0} (done : List X) (e : ReadError T B) → after_numbered {R = R} done (Err e) ≡ Err e
  unfolding after_numbered
  numbered_refused done e = refl

  at_drop : (n : ℕ) (s : State R T B) → ItemRest s (at s (drop n s.left))
  at_drop n s = (omega (arith, length-drop n s.left), refl, refl)

module _ {R T A B S : Type 0} (leaves : Leaves R T A B S) where
  -- ---- what is read leaves fewer tokens, in the same run and at the same depth

  pub fragment_goes : (s : State R T B) → Goes s (fragment leaves s)
  unfolding fragment
  fragment_goes s =
      either_goes s (accept leaves kinds.Text s) _ _ (accepts leaves kinds.Text s)
      (first s (expect leaves kinds.InterpolationStart s) _ (expects leaves kinds.InterpolationStart s) (λ start.
      then start.1 (expression leaves start.1) _ (keeps start.1 _ (expression_goes leaves start.1)) (λ e.
      then e.1 (expect leaves kinds.InterpolationEnd e.1) _ (keeps e.1 _ (expects leaves kinds.InterpolationEnd e.1)) (λ end. there end.1))))
      (λ t. there t.1)

  -- the end of a body is left
  pub line_rest_keeps : (s : State R T B) → Keeps s (line_rest leaves s)
  unfolding line_rest line_rest_rule
  line_rest_keeps =
      loop_keeps (λ s. s) (line_rest_rule leaves) (λ f h s.
      either s (accept leaves kinds.Eol s) _ _ (accepts leaves kinds.Eol s)
      (after_test (next_are leaves (kinds.Dedent ∷ []) s) _ _ (Keeps {X = List (Fragment A B)} s) (λ _. there s)
      (λ _. then s (fragment leaves s) _ (keeps s _ (fragment_goes s)) (λ x. after_keeps (x.0 ∷ []) x.1 (f x.1) (h x.1))))
      (λ newline. there newline.1))

  -- ---- the rule of lines of a body

  pub line_rest_is : (s : State R T B) → line_rest leaves s ≡ line_rest_rule leaves (line_rest leaves) s
  unfolding line_rest line_rest_rule
  line_rest_is s =
      loop_is (λ s. s) (line_rest_rule leaves) (λ s f g same.
      choose_alike (accept leaves kinds.Eol s) _ _ _ _
      (λ _. test_alike (next_are leaves (kinds.Dedent ∷ []) s) _ _ _ _ (λ _. refl)
      (λ _. bind_alike (fragment leaves s) _ _ (λ f is. ap (prepend (f.0 ∷ [])) (same f.1 (past s _ f (fragment_goes s) is).0))))
      (λ _ _. refl)) s

  -- a token that comes next is taken
  next_taken : (kind : TokenKind) (s : State R T B) → accept leaves kind s ≡ None → next_are leaves (kind ∷ []) s ≡ true → ⊥
  unfolding accept begin_with
  next_taken kind s = go s.left
    where
      by_test : (b : Bool) (t : T) (ts : List T) → ◌≡◌ {A = Taken R T B} (cond b (Some (t, at s ts)) None) None → (b && true) ≡ true → ⊥
      by_test true t ts e h = cc
      by_test false t ts e h = cc

      go : (l : List T) → accept_by leaves (λ t. same_kind t.tok.kind kind) s l ≡ None → begin_with leaves (kind ∷ []) l ≡ true → ⊥
      go [] e h = cc
      go (t ∷ ts) e h = by_test (same_kind (leaves.see t).tok.kind kind) t ts e h

  -- where no body ends, what is left of a line takes a token
  line_rest_goes : (s : State R T B) → accept leaves kinds.Dedent s ≡ None → Goes s (line_rest leaves s)
  unfolding line_rest_rule
  line_rest_goes s not =
      rw (line_rest_is s) (either_goes s (accept leaves kinds.Eol s) _ _ (accepts leaves kinds.Eol s)
      (after_test (next_are leaves (kinds.Dedent ∷ []) s) _ _ (Goes {X = List (Fragment A B)} s) (λ e. absurd (next_taken kinds.Dedent s not e))
      (λ _. first s (fragment leaves s) _ (fragment_goes s) (λ x. after_keeps (x.0 ∷ []) x.1 (line_rest leaves x.1) (line_rest_keeps x.1))))
      (λ newline. there newline.1))

  pub body_line_goes : (s : State R T B) → accept leaves kinds.Dedent s ≡ None → Goes s (body_line leaves s)
  unfolding body_line
  body_line_goes s not = first s (line_rest leaves s) _ (line_rest_goes s not) (λ x. there x.1)

  pub body_line_keeps : (s : State R T B) → Keeps s (body_line leaves s)
  unfolding body_line
  body_line_keeps s = then s (line_rest leaves s) _ (line_rest_keeps s) (λ x. there x.1)

  pub lines_go : (s : State R T B) → Goes s (lines leaves s)
  unfolding lines lines_rule
  lines_go =
      loop_goes (λ s. s) (lines_rule leaves) (λ f h s.
      either_goes s (accept leaves kinds.Dedent s) _ _ (accepts leaves kinds.Dedent s)
      (then_goes s (body_line leaves s) _ (body_line_keeps s) (λ x. after_goes (x.0 ∷ []) x.1 (f x.1) (h x.1)))
      (λ end. there end.1))

  pub lines_is : (s : State R T B) → lines leaves s ≡ lines_rule leaves (lines leaves) s
  unfolding lines lines_rule
  lines_is s =
      loop_is (λ s. s) (lines_rule leaves) (λ s f g same.
      choose_alike (accept leaves kinds.Dedent s) _ _ _ _
      (λ not. bind_alike (body_line leaves s) _ _ (λ l is. ap (prepend (l.0 ∷ [])) (same l.1 (past s _ l (body_line_goes s not) is).0)))
      (λ _ _. refl)) s

  some_keeps : (ls : List (BodyLine A B ℕ)) (s : State R T B) → Keeps s (some_lines leaves ls s)
  some_keeps [] s = tt
  some_keeps (l ∷ ls) s = there s

  pub body_goes : (s : State R T B) → Goes s (body leaves s)
  unfolding body
  body_goes s = first s (lines leaves s) _ (lines_go s) (λ x. some_keeps (trimmed x.0) x.1)

  -- a recipe may have no body
  body_after_keeps : (comment : Option T) (s : State R T B) → Keeps s (body_after leaves comment s)
  unfolding body_after
  body_after_keeps comment s = then s (body leaves s) _ (keeps s _ (body_goes s)) (λ x. there x.1)

  pub optional_body_keeps : (s : State R T B) → Keeps s (optional_body leaves s)
  unfolding optional_body
  optional_body_keeps s =
      let K : Read R T B (CommentedBody leaves) → Type 0 = Keeps s in
      let short : State R T B = at s (drop 2 s.left) in
      let long : State R T B = at s (drop 3 s.left) in
      after_test (next_are leaves (kinds.Eol ∷ kinds.Indent ∷ []) s) _ _ K
      (λ _. from_there s short _ (at_drop 2 s) (body_after_keeps None short))
      (λ _. after_test (next_are leaves (kinds.Comment ∷ kinds.Eol ∷ kinds.Indent ∷ []) s) _ _ K
      (λ _. from_there s long _ (at_drop 3 s) (body_after_keeps (front s.left) long))
      (λ _. there s))

  -- ---- numbers

  -- a number takes no token
  pub recipe_number_keeps : (n : Counters) (s : State R T B) → Keeps s (next_recipe_number leaves n s)
  unfolding next_recipe_number
  recipe_number_keeps n s = after_test (leaves.has_number n.recipes) _ _ (Keeps {X = ℕ × Counters} s) (λ _. there s) (λ _. tt)

  -- ---- a loop over the parts of a body: `done` was read before, and `s` is what is left

  module _ (done : List (Fragment A B)) (s : State R T B) where
    -- a fragment is read
    pub line_rest_go_on : (f : Fragment A B) (rest : State R T B) → accept leaves kinds.Eol s ≡ None → next_are leaves (kinds.Dedent ∷ []) s ≡ false → fragment leaves s ≡ Ok (f, rest)
        → prepend done (line_rest leaves s) ≡ prepend (done ++ f ∷ []) (line_rest leaves rest)
    unfolding line_rest_rule
    line_rest_go_on f rest h1 h2 h3 = rw (line_rest_is s, h1, h2, h3) (after_regroups done (f ∷ []) (line_rest leaves rest))

    -- the end of the line is taken
    pub line_rest_end : (end : T) (rest : State R T B) → accept leaves kinds.Eol s ≡ Some (end, rest) → prepend done (line_rest leaves s) ≡ Ok (done, rest)
    unfolding line_rest_rule
    line_rest_end end rest h = rw (line_rest_is s, h) (after_nothing done rest)

    -- that of the body is left
    pub line_rest_left : accept leaves kinds.Eol s ≡ None → next_are leaves (kinds.Dedent ∷ []) s ≡ true → prepend done (line_rest leaves s) ≡ Ok (done, s)
    unfolding line_rest_rule
    line_rest_left h1 h2 = rw (line_rest_is s, h1, h2) (after_nothing done s)

    -- parsing a fragment fails
    pub line_rest_fail : (e : ReadError T B) → accept leaves kinds.Eol s ≡ None → next_are leaves (kinds.Dedent ∷ []) s ≡ false → fragment leaves s ≡ Err e → prepend done (line_rest leaves s) ≡ Err e
    unfolding line_rest_rule
    line_rest_fail e h1 h2 h3 = rw (line_rest_is s, h1, h2, h3) (after_refused done e)

  module _ (done : List (BodyLine A B ℕ)) (s : State R T B) where
    -- a line is read
    pub lines_go_on : (l : BodyLine A B ℕ) (rest : State R T B) → accept leaves kinds.Dedent s ≡ None → body_line leaves s ≡ Ok (l, rest)
        → prepend done (lines leaves s) ≡ prepend (done ++ l ∷ []) (lines leaves rest)
    unfolding lines_rule
    lines_go_on l rest h1 h2 = rw (lines_is s, h1, h2) (after_regroups done (l ∷ []) (lines leaves rest))

    -- the end of the body is taken
    pub lines_end : (end : T) (rest : State R T B) → accept leaves kinds.Dedent s ≡ Some (end, rest) → prepend done (lines leaves s) ≡ Ok (done, rest)
    unfolding lines_rule
    lines_end end rest h = rw (lines_is s, h) (after_nothing done rest)

    -- parsing a line fails
    pub lines_fail : (e : ReadError T B) → accept leaves kinds.Dedent s ≡ None → body_line leaves s ≡ Err e → prepend done (lines leaves s) ≡ Err e
    unfolding lines_rule
    lines_fail e h1 h2 = rw (lines_is s, h1, h2) (after_refused done e)

module _ {R T A B S D W : Type 0} (leaves : Leaves R T A B S) (kept : AttributeLeaves R A B D W) where
  -- ---- items

  pub alias_goes : (ws : List W) (n : Counters) (s : State R T B) → Goes s (alias leaves kept ws n s)
  unfolding alias
  alias_goes ws n s =
      first s (expect leaves kinds.Identifier s) _ (expects leaves kinds.Identifier s) (λ name.
      then name.1 (expect leaves kinds.ColonEquals name.1) _ (keeps name.1 _ (expects leaves kinds.ColonEquals name.1)) (λ operator.
      then operator.1 (path leaves operator.1) _ (keeps operator.1 _ (path_goes leaves operator.1)) (λ target.
      then target.1 (check_allowed leaves kept item_kinds.Alias ws name.0 target.1) _ (obeying_keeps _ target.1) (λ checked. there checked.1))))

  pub function_goes : (ws : List W) (n : Counters) (s : State R T B) → Goes s (function leaves kept ws n s)
  unfolding function
  function_goes ws n s =
      first s (expect leaves kinds.Identifier s) _ (expects leaves kinds.Identifier s) (λ name.
      then name.1 (check_allowed leaves kept item_kinds.Function ws name.0 name.1) _ (obeying_keeps _ name.1) (λ checked.
      then checked.1 (expect leaves kinds.ParenL checked.1) _ (keeps checked.1 _ (expects leaves kinds.ParenL checked.1)) (λ opener.
      then opener.1 (names leaves (n, opener.1)) _ (keeps opener.1 _ (names_go leaves (n, opener.1))) (λ parameters.
      then parameters.1 (expect leaves kinds.ColonEquals parameters.1) _ (keeps parameters.1 _ (expects leaves kinds.ColonEquals parameters.1)) (λ operator.
      then operator.1 (expression leaves operator.1) _ (keeps operator.1 _ (expression_goes leaves operator.1)) (λ body. there body.1))))))

  pub imported_goes : (optional : Bool) (ws : List W) (n : Counters) (s : State R T B) → Goes s (imported leaves kept optional ws n s)
  unfolding imported
  imported_goes optional ws n s =
      first s (file_path leaves s) _ (file_path_goes leaves s) (λ path.
      then path.1 (check_allowed leaves kept item_kinds.Import ws path.0.0 path.1) _ (obeying_keeps _ path.1) (λ checked. there checked.1))

  pub import_goes : (ws : List W) (n : Counters) (s : State R T B) → Goes s (import leaves kept ws n s)
  unfolding import
  import_goes ws n s =
      let mark = accepted leaves kinds.QuestionMark s in
      goes_after s mark.1 (imported leaves kept mark.0 ws n mark.1) (accepted_keeps leaves kinds.QuestionMark s) (imported_goes mark.0 ws n mark.1)

  pub named_module_goes : (optional : Bool) (ws : List W) (n : Counters) (s : State R T B) → Goes s (named_module leaves kept optional ws n s)
  unfolding named_module
  named_module_goes optional ws n s =
      first s (expect leaves kinds.Identifier s) _ (expects leaves kinds.Identifier s) (λ name.
      then name.1 (optional_path leaves name.1) _ (optional_path_keeps leaves name.1) (λ path.
      then path.1 (check_allowed leaves kept item_kinds.Module ws name.0 path.1) _ (obeying_keeps _ path.1) (λ checked. there checked.1)))

  pub any_module_goes : (ws : List W) (n : Counters) (s : State R T B) → Goes s (any_module leaves kept ws n s)
  unfolding any_module
  any_module_goes ws n s =
      let mark = accepted leaves kinds.QuestionMark s in
      goes_after s mark.1 (named_module leaves kept mark.0 ws n mark.1) (accepted_keeps leaves kinds.QuestionMark s) (named_module_goes mark.0 ws n mark.1)

  pub setting_goes : (ws : List W) (n : Counters) (s : State R T B) → Goes s (setting leaves kept ws n s)
  unfolding setting
  setting_goes ws n s =
      first s (expect leaves kinds.Identifier s) _ (expects leaves kinds.Identifier s) (λ name.
      then name.1 (setting_keyword leaves name.0 name.1) _ (keyword_at_keeps leaves name.0 name.1) (λ keyword.
      then keyword.1 (check_allowed leaves kept item_kinds.Setting ws name.0 keyword.1) _ (obeying_keeps _ keyword.1) (λ checked.
      then checked.1 (setting_value leaves kept.view name.0 keyword.0 (setting_form keyword.0) checked.1) _
      (setting_value_keeps leaves kept.view name.0 keyword.0 (setting_form keyword.0) checked.1) (λ value. there value.1))))

  pub unexport_goes : (ws : List W) (n : Counters) (s : State R T B) → Goes s (unexport leaves kept ws n s)
  unfolding unexport
  unexport_goes ws n s =
      first s (expect leaves kinds.Identifier s) _ (expects leaves kinds.Identifier s) (λ name.
      then name.1 (check_allowed leaves kept item_kinds.Unexport ws name.0 name.1) _ (obeying_keeps _ name.1) (λ checked. there checked.1))

  pub assignment_goes : (eager export : Bool) (ws : List W) (n : Counters) (s : State R T B) → Goes s (assignment leaves kept eager export ws n s)
  unfolding assignment
  assignment_goes eager export ws n s =
      first s (expect leaves kinds.Identifier s) _ (expects leaves kinds.Identifier s) (λ name.
      then name.1 (expect leaves kinds.ColonEquals name.1) _ (keeps name.1 _ (expects leaves kinds.ColonEquals name.1)) (λ operator.
      then operator.1 (expression leaves operator.1) _ (keeps operator.1 _ (expression_goes leaves operator.1)) (λ e.
      then e.1 (check_allowed leaves kept item_kinds.Assignment ws name.0 e.1) _ (obeying_keeps _ e.1) (λ checked.
      then checked.1 (next_binding_number leaves n checked.1) _ (binding_keeps leaves n checked.1) (λ number. there number.1)))))

  pub recipe_goes : (quiet : Bool) (ws : List W) (n : Counters) (s : State R T B) → Goes s (recipe leaves kept quiet ws n s)
  unfolding recipe
  recipe_goes quiet ws n s =
      let rules = argument_rules leaves kept s.run ws in
      first s (header leaves kept.view rules n s) _ (header_goes leaves kept.view rules n s) (λ h.
      then h.1 (optional_body leaves h.1) _ (optional_body_keeps leaves h.1) (λ b.
      then b.1 (check_exclusions leaves kept ws h.0.0.name b.1) _ (obeying_keeps _ b.1) (λ checked.
      then checked.1 (next_recipe_number leaves h.0.1 checked.1) _ (recipe_number_keeps leaves h.0.1 checked.1) (λ number. there number.1))))

  pub any_recipe_goes : (ws : List W) (n : Counters) (s : State R T B) → Goes s (any_recipe leaves kept ws n s)
  unfolding any_recipe
  any_recipe_goes ws n s =
      either_goes s (accept leaves kinds.At s) _ _ (accepts leaves kinds.At s) (recipe_goes false ws n s) (λ at. keeps at.1 _ (recipe_goes true ws n at.1))

  pub wordless_goes : (ws : List W) (n : Counters) (s : State R T B) → Goes s (without_keyword leaves kept ws n s)
  unfolding without_keyword
  wordless_goes ws n s =
      let G : Read R T B (Item A B ℕ S D × Counters) → Type 0 = Goes s in
      after_test (next_are leaves (kinds.Identifier ∷ kinds.ParenL ∷ []) s) _ _ G (λ _. function_goes ws n s)
      (λ _. after_test (peek_assignment leaves s) _ _ G (λ _. assignment_goes false false ws n s) (λ _. any_recipe_goes ws n s))

  pub content_goes : (ws : List W) (n : Counters) (s : State R T B) → Goes s (content leaves kept ws n s)
  unfolding content
  content_goes ws n s =
      by_word (codes "alias") (peek_assignment leaves) _ _
      (by_word (codes "eager") (peek_assignment leaves) _ _
      (by_word (codes "export") (peek_assignment leaves) _ _
      (by_word (codes "unexport") (line_is leaves (kinds.Identifier ∷ [])) _ _
      (by_word (codes "import") (is_imported leaves) _ _
      (by_word (codes "mod") (is_module leaves) _ _
      (by_word (codes "set") (is_set leaves) _ _
      (wordless_goes ws n s)
      (setting_goes ws n))
      (any_module_goes ws n))
      (import_goes ws n))
      (unexport_goes ws n))
      (assignment_goes false true ws n))
      (assignment_goes true false ws n))
      (alias_goes ws n)
    where
      by_word : (word : List ℕ) (follows : State R T B → Bool) (otherwise : Read R T B (Item A B ℕ S D × Counters)) (f : State R T B → Read R T B (Item A B ℕ S D × Counters))
          → Goes s otherwise → ((t : State R T B) → Goes t (f t)) → Goes s (choose (accept_keyword_before leaves word follows s) otherwise (λ w. f w.1))
      by_word word follows otherwise f h k =
          either_goes s (accept_keyword_before leaves word follows s) otherwise (λ w. f w.1) (accepts_before leaves word follows s) h (λ w. keeps w.1 _ (k w.1))

  before_item_keeps : (opener : T) (x : List W × State R T B) → Keeps x.1 (before_item leaves kept opener x)
  before_item_keeps opener x = after_test (stands_alone leaves kept x.1) _ _ (Keeps {X = List W} x.1) (λ _. tt) (λ _. there x.1)

  -- a construct can have no attributes
  pub attributes_keep : (s : State R T B) → Keeps s (attributes leaves kept s)
  unfolding attributes
  attributes_keep s = go (accept leaves kinds.BracketL s)
    where
      go : (o : Taken R T B)
          → Keeps s (choose o (Ok ([], s)) (λ opener. attribute_lines leaves kept.view kept.keep kept.entry kept.comment s >>= before_item leaves kept opener.0))
      go None = there s
      go (Some opener) =
          then s (attribute_lines leaves kept.view kept.keep kept.entry kept.comment s) _ (attribute_lines_keep leaves kept.view kept.keep kept.entry kept.comment s)
          (λ ws. before_item_keeps opener.0 ws)

  pub construct_goes : (n : Counters) (s : State R T B) → Goes s (construct leaves kept n s)
  unfolding construct
  construct_goes n s = then_goes s (attributes leaves kept s) _ (attributes_keep s) (λ ws. content_goes ws.0 n ws.1)

  pub on_line_goes : (n : Counters) (s : State R T B) → Goes s (any_item leaves kept n s)
  unfolding any_item
  on_line_goes n s = either_goes s (accept leaves kinds.Comment s) _ _ (accepts leaves kinds.Comment s) (construct_goes n s) (λ c. there c.1)

  -- the end of the file is left
  pub line_end_keeps : (s : State R T B) → Keeps s (line_end leaves kept s)
  unfolding line_end
  line_end_keeps s =
      ending (accept leaves kinds.Eof s) _ (then s (expect leaves kinds.Eol s) _ (keeps s _ (expects leaves kinds.Eol s)) (λ x. there x.1))
    where
      ending : (o : Taken R T B) (x : Read R T B (List (Item A B ℕ S D))) → Keeps s x → Keeps s (choose o x (λ y. Ok ([], s)))
      ending None x h = h
      ending (Some p) x h = there s

  pub item_rest_keeps : (s : State R T B) → Keeps s (after_item leaves kept s)
  unfolding after_item
  item_rest_keeps s =
      either s (accept leaves kinds.Comment s) _ _ (accepts leaves kinds.Comment s) (line_end_keeps s)
      (λ c. then c.1 (line_end leaves kept c.1) _ (line_end_keeps c.1) (λ end. there end.1))

  pub ended_keeps : (b : Bool) (s : State R T B) → Keeps s (item_end leaves kept b s)
  unfolding item_end
  ended_keeps b s = after_test b _ _ (Keeps {X = List (Item A B ℕ S D)} s) (λ _. there s) (λ _. item_rest_keeps s)

  pub line_goes : (n : Counters) (s : State R T B) → Goes s (line leaves kept n s)
  unfolding line
  line_goes n s =
      either_goes s (accept leaves kinds.Eol s) _ _ (accepts leaves kinds.Eol s)
      (first s (any_item leaves kept n s) _ (on_line_goes n s) (λ i. then i.1 (item_end leaves kept (has_body i.0.0) i.1) _ (ended_keeps (has_body i.0.0) i.1) (λ b. there b.1)))
      (λ newline. there newline.1)

  -- ---- the rule of items

  pub items_is : (n : Counters) (s : State R T B) → items leaves kept n s ≡ items_rule leaves kept (items_from leaves kept) (n, s)
  unfolding items_from items_rule
  items_is n s =
      loop_is (λ x. x.1) (items_rule leaves kept) (λ x f g same.
      choose_alike (accept leaves kinds.Eof x.1) _ _ _ _
      (λ _. bind_alike (line leaves kept x.0 x.1) _ _ (λ l is. ap (after_numbered l.0.0) (same (l.0.1, l.1) (past x.1 _ l (line_goes x.0 x.1) is).0)))
      (λ _ _. refl)) (n, s)

  -- ---- a loop over items: `done` was read before, and `s` is what is left

  module _ (done : List (Item A B ℕ S D)) (n : Counters) (s : State R T B) where
    -- a line is read
    pub items_go_on : (more : List (Item A B ℕ S D)) (m : Counters) (rest : State R T B) → accept leaves kinds.Eof s ≡ None → line leaves kept n s ≡ Ok ((more, m), rest)
        → after_numbered done (items leaves kept n s) ≡ after_numbered (done ++ more) (items leaves kept m rest)
    unfolding items_rule
    items_go_on more m rest h1 h2 = rw (items_is n s, h1, h2) (numbered_regroups done more (items leaves kept m rest))

    -- the end of the file, with any tokens after it
    pub items_at_end : (end : T) (rest : State R T B) → accept leaves kinds.Eof s ≡ Some (end, rest) → after_numbered done (items leaves kept n s) ≡ after_numbered done (at_end leaves kept n rest)
    unfolding items_rule
    items_at_end end rest h = rw (items_is n s, h) refl

    -- parsing a line fails
    pub items_fail : (e : ReadError T B) → accept leaves kinds.Eof s ≡ None → line leaves kept n s ≡ Err e → after_numbered done (items leaves kept n s) ≡ Err e
    unfolding items_rule
    items_fail e h1 h2 = rw (items_is n s, h1, h2) (numbered_refused done e)
