-- The parser of files is natural in its tokens and leaves: for related tokens it parses related items and takes the same numbers. If one
-- parser has no number left, the other can continue; then the counter is exceeded in all that it parses.
use Rattle.std.proofs.Common.{◌≡◌, ℕ, zero, suc, ◌+◌, ◌<◌, ◌≤◌, Bool, true, false, ◌||◌, codes, List, [], ◌∷◌, ◌++◌, length, drop, Option, Some, Ok, Err, IfOk, refl, sym, subst, ap, ◌∙◌, arith, IsOk}
use Rattle.std.specs.Str.{trim_end}
use Rattle.justfile_vocabulary.specs.declared.item_kind.ItemKind.{ItemKind}
use Rattle.justfile_vocabulary.specs.declared.keyword.Keyword.{Keyword}
use Rattle.justfile_vocabulary.specs.declared.item_kind.ItemKind.TheVariants as item_kinds
use Rattle.justfile_vocabulary.specs.declared.token_kind.TokenKind.{TokenKind}
use Rattle.justfile_vocabulary.specs.declared.token_kind.TokenKind.TheVariants as kinds
use Rattle.justfile_model.specs.Readers.AttributeReader.{AttributeLeaves}
use Rattle.justfile_model.specs.Readers.HeaderReader.{ReadHeader, next_binding_number, expression, header}
use Rattle.justfile_model.specs.Readers.PartReader.{accept_keyword_before, after_numbered, peek_assignment, is_imported, is_module, is_set, line_is, names, setting_value}
use Rattle.justfile_model.specs.Readers.Reader.{CommentedBody, Start, after_byte_order_mark, alias, any_module, any_recipe, argument_rules, assigned, assignment, at_end, attributes, body, body_after, body_line, construct, content, next_recipe_number, end_of_tokens, item_end, file, fragment, function, has_body, headed, import, imported, items, items_from, items_rule, line, line_at, line_end, line_rest, line_rest_rule, lines, lines_rule, named_module, check_exclusions, no_line_rest, no_lines, any_item, optional_body, recipe, setting, some_lines, unexport, with_recipes, without_keyword}
use Rattle.justfile_model.specs.Grammars.Expressions.{front}
use Rattle.justfile_model.specs.Readers.Reader as r
use Rattle.justfile_model.specs.Readers.ReaderState as taking
use Rattle.justfile_model.specs.Readers.ReaderState.{◌>>=◌, Counters, Leaves, NoNumber, Read, State, Taken, accept, choose, expect, next_are, taken_or}
use Rattle.justfile_model.specs.Grammars.Settings.{setting_form}
use Rattle.justfile_model.specs.Lexing.SignificantTokens.{SignificantToken}
use Rattle.justfile_model.specs.Trees.Tree as tree
use Rattle.justfile_model.specs.Trees.Tree.{ArgumentRules, BodyLine, Expr, Fragment, Item, Line, Parameter, trimmed}
use Rattle.justfile_model.proofs.Relations.AlikeAttributes.{AlikeArgumentRules, AlikeEntry, ordered_alike}
use Rattle.justfile_model.proofs.Relations.AlikeRecipes.{exclusions_alike}
use Rattle.justfile_model.proofs.Lists.EachLaws.{AlikeOption, absent, each_mapped, present}
use Rattle.justfile_model.proofs.Relations.NaturalAttributes.{Keeping, attribute_lines_natural}
use Rattle.justfile_model.proofs.Relations.NewAttributesAlike.{allowed_alike, arg_rules_alike}
use Rattle.justfile_model.proofs.Readers.Counters.{count, counted, counted_bindings, counted_both, counted_recipes, items_count, parameters_recipes}
use Rattle.justfile_model.proofs.Relations.NaturalExpressions.{Reads, loop_natural}
use Rattle.justfile_model.proofs.Relations.NaturalHeaders.{AlikeRead, LacksHeader, after_alike, header_natural, mark_alike, obeying_natural, path_natural, pick_known, value_alike}
use Rattle.justfile_model.proofs.Relations.NaturalParts.{Higher, LacksName, accepted_before, file_path_natural, keyword_natural, names_natural, optional_path_natural, same_assigned, same_imported, same_module, same_set, same_unexported, setting_value_natural}
use Rattle.justfile_model.proofs.Readers.ReadingSteps.{after_all, after_test, by_size, known, past}
use Rattle.justfile_model.proofs.Readers.ItemReading.{items_is, line_goes}
use Rattle.justfile_model.proofs.Relations.Related as a
use Rattle.justfile_model.proofs.Relations.Related.{Alike, AlikeFragment, AlikeItem, AlikeItems, AlikeLine, Each, Never, Related, Relations, Respects, States, Takes, accepted, an_item, at_alike, bind, bind_short, both, by_tests, draw, each_both, each_length, expected, neither, no_item, no_next, none_taken, pick, refused_alike, same_body, same_comment, same_next, short, taken, trimmed_alike, unexpected, weaken}

dropped : {X Y : Type 0} {Rel : X → Y → Type 0} (n : ℕ) {xs : List X} {ys : List Y} → Each Rel xs ys → Each Rel (drop n xs) (drop n ys)
dropped zero h = h
dropped (suc n) a.nil = a.nil
dropped (suc n) (a.cons h hs) = dropped n hs

module _ {R T A B S D R' T' A' B' S' D' : Type 0} (rel : Relations R T A B S D R' T' A' B' S' D') (one : Leaves R T A B S) (other : Leaves R' T' A' B' S') (agree : Respects rel one other) where
  -- ---- bodies

  pub fragment_natural : {s : State R T B} {s' : State R' T' B'} → States rel s s' → Reads rel (AlikeFragment rel) (fragment one s) (fragment other s')
  unfolding fragment
  fragment_natural h =
      pick rel _ _ (accepted rel one other agree kinds.Text h)
      (bind rel _ _ (expected rel one other agree kinds.InterpolationStart h) (λ x x' t k. bind rel _ _ (value_alike rel one other agree k) (λ e e' v j.
      bind rel _ _ (expected rel one other agree kinds.InterpolationEnd j) (λ y y' t2 i. both (a.a_value v) i))))
      (λ x x' t k. both (a.a_text (agree.text x.0 x'.0 t)) k)

  pub line_rest_natural : (s : State R T B) (s' : State R' T' B') → States rel s s' → Reads rel (Each (AlikeFragment rel)) (line_rest one s) (line_rest other s')
  unfolding line_rest line_rest_rule
  line_rest_natural =
      loop_natural rel (λ s. s) (λ s. s) (States rel) (λ s s' h. h) (Each (AlikeFragment rel)) (line_rest_rule one) (line_rest_rule other) (λ f g alike s s' h.
      pick rel _ _ (accepted rel one other agree kinds.Eol h)
      (by_tests rel (next_are one (kinds.Dedent ∷ []) s) (next_are other (kinds.Dedent ∷ []) s') (same_next rel one other agree (kinds.Dedent ∷ []) h) (both a.nil h)
      (bind rel _ _ (fragment_natural h) (λ x x' q k. after_alike rel (a.cons q a.nil) (alike x.1 x'.1 k))))
      (λ x x' t k. both a.nil k))

  same_line : {ts : List T} {ts' : List T'} → Each rel.token ts ts' → line_at one ts ≡ line_at other ts'
  same_line a.nil = refl
  same_line (a.cons {x = t} {y = t'} h hs) = ap (λ (x : SignificantToken). x.tok.line) (agree.see t t' h)

  pub body_line_natural : {s : State R T B} {s' : State R' T' B'} → States rel s s' → Reads rel (AlikeLine rel) (body_line one s) (body_line other s')
  unfolding body_line
  body_line_natural {s} {s'} h =
      bind rel _ _ (line_rest_natural s s' h) (λ x x' q k. both (subst (λ n. AlikeLine rel (Line (line_at one s.left) x.0) (Line n x'.0)) (same_line h.left) (a.line q)) k)

  pub lines_natural : (s : State R T B) (s' : State R' T' B') → States rel s s' → Reads rel (Each (AlikeLine rel)) (lines one s) (lines other s')
  unfolding lines lines_rule
  lines_natural =
      loop_natural rel (λ s. s) (λ s. s) (States rel) (λ s s' h. h) (Each (AlikeLine rel)) (lines_rule one) (lines_rule other) (λ f g alike s s' h.
      pick rel _ _ (accepted rel one other agree kinds.Dedent h)
      (bind rel _ _ (body_line_natural h) (λ x x' q k. after_alike rel (a.cons q a.nil) (alike x.1 x'.1 k)))
      (λ x x' t k. both a.nil k))

  some_alike : {ls : List (BodyLine A B ℕ)} {ls' : List (BodyLine A' B' ℕ)} {s : State R T B} {s' : State R' T' B'} → Each (AlikeLine rel) ls ls' → States rel s s' → Reads rel (Each (AlikeLine rel)) (some_lines one ls s) (some_lines other ls' s')
  some_alike a.nil h = refused_alike rel one other agree h
  some_alike (a.cons l ls) h = both (a.cons l ls) h

  pub body_natural : {s : State R T B} {s' : State R' T' B'} → States rel s s' → Reads rel (Each (AlikeLine rel)) (body one s) (body other s')
  unfolding body
  body_natural {s} {s'} h = bind rel _ _ (lines_natural s s' h) (λ x x' q k. some_alike (trimmed_alike rel q) k)

  -- comments before a body, and bodies
  pub record AlikeBody (b : CommentedBody one) (b' : CommentedBody other) : Type 0 where
    pub comment : AlikeOption rel.token b.0 b'.0
    pub lines : Each (AlikeLine rel) b.1 b'.1

  next_alike : {ts : List T} {ts' : List T'} → Each rel.token ts ts' → AlikeOption rel.token (front ts) (front ts')
  next_alike a.nil = absent
  next_alike (a.cons h hs) = present h

  body_after_natural : {o : Option T} {o' : Option T'} → AlikeOption rel.token o o' → {s : State R T B} {s' : State R' T' B'} → States rel s s'
      → Reads rel AlikeBody (body_after one o s) (body_after other o' s')
  unfolding body_after
  body_after_natural c h = bind rel _ _ (body_natural h) (λ x x' q k. both (record { comment = c; lines = q }) k)

  pub optional_body_natural : {s : State R T B} {s' : State R' T' B'} → States rel s s' → Reads rel AlikeBody (optional_body one s) (optional_body other s')
  unfolding optional_body
  optional_body_natural {s} {s'} h =
      let short : List TokenKind = kinds.Eol ∷ kinds.Indent ∷ [] in
      let long : List TokenKind = kinds.Comment ∷ kinds.Eol ∷ kinds.Indent ∷ [] in
      by_tests rel (next_are one short s) (next_are other short s') (same_next rel one other agree short h) (body_after_natural absent (at_alike rel h (dropped 2 h.left)))
      (by_tests rel (next_are one long s) (next_are other long s') (same_next rel one other agree long h)
      (body_after_natural (next_alike h.left) (at_alike rel h (dropped 3 h.left)))
      (both (record { comment = absent; lines = a.nil }) h))

-- Two parsers have related representations of attributes: of each, of which `Keeps` holds, and of all those of a construct.
pub record RespectsAttributes {R T A B S D W R' T' A' B' S' D' W' : Type 0} (rel : Relations R T A B S D R' T' A' B' S' D') (one : Leaves R T A B S)
    (other : Leaves R' T' A' B' S') (kept : AttributeLeaves R A B D W) (kept' : AttributeLeaves R' A' B' D' W') (Keeps : W → W' → Type 0) : Type 0 where
  pub keeping : Keeping rel one other kept.view kept'.view kept.keep kept.entry kept'.keep kept'.entry Keeps
  pub commented : (c : List ℕ) (x : W) (x' : W') → Keeps x x' → Keeps (kept.comment c x) (kept'.comment c x')
  pub attributes : (r : R) (r' : R') → rel.run r r' → {ws : List W} {ws' : List W'} → Each Keeps ws ws'
      → rel.attributes (kept.attributes r ws) (kept'.attributes r' ws')

module _ {R T A B S D W R' T' A' B' S' D' W' : Type 0} (rel : Relations R T A B S D R' T' A' B' S' D') (one : Leaves R T A B S)
    (other : Leaves R' T' A' B' S') (agree : Respects rel one other) (kept : AttributeLeaves R A B D W) (kept' : AttributeLeaves R' A' B' D' W')
    (Keeps : W → W' → Type 0) (attributed : RespectsAttributes rel one other kept kept' Keeps) where
  -- ---- numbers

  -- a counter has no number left in the first, and is higher in the second
  pub data Exceeds (n m : Counters) : Type 0 where
    bindings_end : one.has_number n.bindings ≡ false → n.bindings < m.bindings → Exceeds n m
    recipes_end : one.has_number n.recipes ≡ false → n.recipes < m.recipes → Exceeds n m

  exceeds_then : {n m k : Counters} → Exceeds n m → m.bindings ≤ k.bindings → m.recipes ≤ k.recipes → Exceeds n k
  exceeds_then (bindings_end e l) h j = bindings_end e (omega (arith, l, h))
  exceeds_then (recipes_end e l) h j = recipes_end e (omega (arith, l, j))

  -- where a header begins, after `@` or not
  pub data AtHeader (s' : State R' T' B') : State R' T' B' → Type 0 where
    at_once : AtHeader s' s'
    after_at : {p : T' × State R' T' B'} → accept other kinds.At s' ≡ Some p → AtHeader s' p.1

  -- a parameter in the next header lacks a number
  abbrev pub LacksIn : (ws : List W') → Counters → State R' T' B' → Counters → Type 0
  LacksIn ws n s' m = LacksHeader other kept'.view (argument_rules other kept' s'.run ws) n s' m

  -- where an assignment begins, after a word or none
  pub data AfterWord (s' : State R' T' B') : (eager export : Bool) → State R' T' B' → Type 0 where
    no_word : AfterWord s' false false s'
    after_eager : {p : T' × State R' T' B'} → accept_keyword_before other (codes "eager") (peek_assignment other) s' ≡ Some p → AfterWord s' true false p.1
    after_export : {p : T' × State R' T' B'} → accept_keyword_before other (codes "export") (peek_assignment other) s' ≡ Some p → AfterWord s' false true p.1

  -- a parameter of the function that comes next lacks a number
  pub record LacksFunction (ws : List W') (n : Counters) (s' : State R' T' B') (m : Counters) : Type 0 where
    pub name : T' × State R' T' B'
    pub named : expect other kinds.Identifier s' ≡ Ok name
    pub checked : Unit {0} × State R' T' B'
    pub allowed : r.check_allowed other kept' item_kinds.Function ws name.0 name.1 ≡ Ok checked
    pub opener : T' × State R' T' B'
    pub opened : expect other kinds.ParenL checked.1 ≡ Ok opener
    pub lacks : LacksName other (n, opener.1) m

  -- the next item needs a number that the first counters lack; the other parser parses the item if its counters have one
  pub data Lacks (n : Counters) (s' : State R' T' B') : Counters → Type 0 where
    binding : {ws : List W'} {rest from : State R' T' B'} {eager export : Bool} → attributes other kept' s' ≡ Ok (ws, rest) → AfterWord rest eager export from
        → one.has_number n.bindings ≡ false → (other.has_number n.bindings ≡ true → IsOk (assignment other kept' eager export ws n from)) → Lacks n s' n
    function_parameter : {ws : List W'} {rest : State R' T' B'} {m : Counters} → attributes other kept' s' ≡ Ok (ws, rest)
        → one.has_number m.bindings ≡ false → LacksFunction ws n rest m → Lacks n s' m
    parameter : {ws : List W'} {rest from : State R' T' B'} {m : Counters} → attributes other kept' s' ≡ Ok (ws, rest) → AtHeader rest from
        → one.has_number m.bindings ≡ false → LacksIn ws n from m → Lacks n s' m
    recipe_number : {ws : List W'} {rest : State R' T' B'} {m : Counters} → attributes other kept' s' ≡ Ok (ws, rest) → one.has_number m.recipes ≡ false
        → (other.has_number m.recipes ≡ true → IsOk (any_recipe other kept' ws n rest))
        → IfOk (any_recipe other kept' ws n rest) (λ y. y.0.1 ≡ with_recipes (m.recipes + 1) m) → Lacks n s' m

  -- after lines that the other parser parses
  pub data Wants : Counters → State R' T' B' → Counters → Type 0 where
    here : {n m : Counters} {s' : State R' T' B'} → Lacks n s' m → Wants n s' m
    later : {n m k : Counters} {s' rest : State R' T' B'} {is : List (Item A' B' ℕ S' D')} → line other kept' n s' ≡ Ok ((is, m), rest) → Wants m rest k → Wants n s' k

  -- what is read exceeds these counters
  abbrev pub AllExceed : {X : Type 0} → Counters → Read R' T' B' (X × Counters) → Type 0
  AllExceed n found = IfOk found (λ x. Exceeds n x.0.1)

  abbrev pub AlikeNumbered : Counters → Item A B ℕ S D × Counters → Item A' B' ℕ S' D' × Counters → Type 0
  AlikeNumbered n x y = AlikeItem rel n x.0 y.0 × (x.1 ≡ y.1) × (x.1 ≡ count n x.0)

  abbrev pub AllNumbered : Counters → List (Item A B ℕ S D) × Counters → List (Item A' B' ℕ S' D') × Counters → Type 0
  AllNumbered n x y = AlikeItems rel n x.0 y.0 × (x.1 ≡ y.1) × (x.1 ≡ counted n x.0)

  -- the number of a binding is wanting
  abbrev NoBinding : Counters → Counters → Read R' T' B' (Item A' B' ℕ S' D' × Counters) → Type 0
  NoBinding n m found = (m ≡ n) × (one.has_number n.bindings ≡ false) × (other.has_number n.bindings ≡ true → IsOk found) × AllExceed n found

  -- a number of a recipe is wanting: that of a parameter, or its own
  pub data NoRecipe (Lacking : Counters → Type 0) (m : Counters) (found : Read R' T' B' (Item A' B' ℕ S' D' × Counters)) : Type 0 where
    no_parameter : one.has_number m.bindings ≡ false → Lacking m → AllExceed m found → NoRecipe Lacking m found
    no_number : one.has_number m.recipes ≡ false → (other.has_number m.recipes ≡ true → IsOk found)
        → IfOk found (λ y. y.0.1 ≡ with_recipes (m.recipes + 1) m) → NoRecipe Lacking m found

  binding_alike : (eager export : Bool) {ws : List W} {ws' : List W'} (n : Counters) (name : T) (name' : T') → Each Keeps ws ws' → {e : Expr A B} {e' : Expr A' B'} {s : State R T B} {s' : State R' T' B'} → rel.token name name' → Alike rel e e' → States rel s s'
      → Related rel (AlikeNumbered n) (NoBinding n) (next_binding_number one n s >>= assigned one kept eager export ws name e) (next_binding_number other n s' >>= assigned other kept' eager export ws' name' e')
  unfolding next_binding_number
  binding_alike eager export n name name' q {s = s} {s' = s'} t v h =
      draw rel (one.has_number n.bindings) (other.has_number n.bindings) n _ _ _ _ (agree.has_number n.bindings)
      (both (a.assignment (attributed.attributes s.run s'.run h.run q) (agree.assignment s.run s'.run name name' h.run t n.bindings) v, refl, refl) h)
      (λ is _. (refl, is, (λ _. refl), bindings_end is (omega arith))) (λ is is'. (refl, is, (λ has. cc), tt))

  recipe_numbered : {Lacking : Counters → Type 0} {ws : List W} {ws' : List W'} (quiet : Bool) (n c : Counters) (x : ReadHeader T A B S) (x' : ReadHeader T' A' B' S') → Each Keeps ws ws'
      → AlikeRead rel n (x, c) (x', c) → {body : CommentedBody one} {body' : CommentedBody other}
      {s : State R T B} {s' : State R' T' B'} → AlikeBody rel one other agree body body' → States rel s s'
      → Related rel (AlikeNumbered n) (NoRecipe Lacking) (next_recipe_number one c s >>= headed one kept quiet ws x body) (next_recipe_number other c s' >>= headed other kept' quiet ws' x' body')
  unfolding next_recipe_number
  recipe_numbered quiet n c x x' q k {body} {body'} {s} {s'} ls h =
      let unmoved : c.recipes ≡ n.recipes = ap (λ (m : Counters). m.recipes) k.counts ∙ parameters_recipes n x.parameters in
      draw rel (one.has_number c.recipes) (other.has_number c.recipes) c _ _ _ _ (agree.has_number c.recipes)
      (both (
        a.recipe (attributed.attributes s.run s'.run h.run q) (record {
          quiet = refl;
          name = subst (λ (number : ℕ). rel.recipe number (one.recipe s.run x.name c.recipes body.1) body.1 (other.recipe s'.run x'.name c.recipes body'.1) body'.1) unmoved
              (agree.recipe s.run s'.run x.name x'.name h.run k.name c.recipes body.1 body'.1 ls.lines);
          parameters = k.parameters;
          priors = k.priors;
          subsequents = k.subsequents;
        }) (same_comment rel one other agree ls.comment) ls.lines,
        refl,
        λ i. with_recipes (unmoved i + 1) (k.counts i),
      ) h)
      (λ is _. no_number is (λ _. refl) refl) (λ is is'. no_number is (λ has. cc) tt)

  recipe_alike : {Lacking : Counters → Type 0} {ws : List W} {ws' : List W'} (quiet : Bool) (n : Counters) (x : ReadHeader T A B S × Counters) (x' : ReadHeader T' A' B' S' × Counters) → Each Keeps ws ws'
      → AlikeRead rel n x x' → {body : CommentedBody one} {body' : CommentedBody other}
      {s : State R T B} {s' : State R' T' B'} → AlikeBody rel one other agree body body' → States rel s s'
      → Related rel (AlikeNumbered n) (NoRecipe Lacking) (next_recipe_number one x.1 s >>= headed one kept quiet ws x.0 body) (next_recipe_number other x'.1 s' >>= headed other kept' quiet ws' x'.0 body')
  recipe_alike {Lacking} {ws} {ws'} quiet n x x' q k {body} {body'} {s} {s'} ls h =
      subst (λ (c : Counters). Related rel (AlikeNumbered n) (NoRecipe Lacking) (next_recipe_number one x.1 s >>= headed one kept quiet ws x.0 body) (next_recipe_number other c s' >>= headed other kept' quiet ws' x'.0 body')) k.same
      (recipe_numbered quiet n x.1 x.0 x'.0 q
      (record { name = k.name; parameters = k.parameters; priors = k.priors; subsequents = k.subsequents; same = refl; counts = k.counts }) ls h)

  -- ---- items

  -- what attributes mean, in order
  entries_alike : {ws : List W} {ws' : List W'} (run : R) (run' : R') → rel.run run run' → Each Keeps ws ws'
      → Each (AlikeEntry rel) (r.entries_read one kept run ws) (r.entries_read other kept' run' ws')
  entries_alike run run' same q =
      ordered_alike rel (kept.view run) (kept'.view run') (attributed.keeping.contents run run' same)
      (each_mapped kept.entry kept'.entry attributed.keeping.entry q)

  allowed_natural : (item : ItemKind) {ws : List W} {ws' : List W'} (name : T) (name' : T') → rel.token name name' → Each Keeps ws ws' → {s : State R T B}
      {s' : State R' T' B'} → States rel s s' → Reads rel (λ x y. Unit {0}) (r.check_allowed one kept item ws name s) (r.check_allowed other kept' item ws' name' s')
  allowed_natural item name name' t q {s} {s'} h =
      obeying_natural rel (allowed_alike rel (kept.view s.run) (kept'.view s'.run) (attributed.keeping.sees s.run s'.run h.run) item
      (agree.position name name' t) (entries_alike s.run s'.run h.run q)) h

  exclusion_natural : {ws : List W} {ws' : List W'} (name : T) (name' : T') → rel.token name name' → Each Keeps ws ws' → {s : State R T B}
      {s' : State R' T' B'} → States rel s s' → Reads rel (λ x y. Unit {0}) (check_exclusions one kept ws name s) (check_exclusions other kept' ws' name' s')
  exclusion_natural name name' t q {s} {s'} h =
      obeying_natural rel (exclusions_alike rel (kept.view s.run) (kept'.view s'.run) (attributed.keeping.sees s.run s'.run h.run)
      (agree.position name name' t) (entries_alike s.run s'.run h.run q)) h

  rules_alike : {ws : List W} {ws' : List W'} (run : R) (run' : R') → rel.run run run' → Each Keeps ws ws'
      → Each (AlikeArgumentRules rel) (argument_rules one kept run ws) (argument_rules other kept' run' ws')
  rules_alike run run' same q =
      arg_rules_alike rel (kept.view run) (kept'.view run') (attributed.keeping.sees run run' same) (entries_alike run run' same q)

  pub assignment_natural : (eager export : Bool) {ws : List W} {ws' : List W'} (n : Counters) → Each Keeps ws ws' → {s : State R T B} {s' : State R' T' B'} → States rel s s'
      → Related rel (AlikeNumbered n) (NoBinding n) (assignment one kept eager export ws n s) (assignment other kept' eager export ws' n s')
  unfolding assignment
  assignment_natural eager export n q h =
      bind rel _ _ (expected rel one other agree kinds.Identifier h) (λ name name' t k. bind rel _ _ (expected rel one other agree kinds.ColonEquals k) (λ x x' t2 j.
      bind rel _ _ (value_alike rel one other agree j) (λ e e' v i. bind rel _ _ (allowed_natural item_kinds.Assignment name.0 name'.0 t q i) (λ u u' c l.
      binding_alike eager export n name.0 name'.0 q t v l))))

  -- a recipe whose header exceeds a counter does too
  drawn_exceeds : (m c : Counters) (quiet : Bool) (ws : List W') (x : ReadHeader T' A' B' S') (body : CommentedBody other) (s : State R' T' B')
      → one.has_number m.bindings ≡ false → m.bindings < c.bindings → AllExceed m (next_recipe_number other c s >>= headed other kept' quiet ws x body)
  unfolding next_recipe_number
  drawn_exceeds m c quiet ws x body s ends less =
      after_test (other.has_number c.recipes) _ _ (λ (o : Read R' T' B' (ℕ × Counters)). AllExceed m (o >>= headed other kept' quiet ws x body))
      (λ _. bindings_end ends less) (λ _. tt)

  abbrev Rest : (quiet : Bool) → List W' → (ReadHeader T' A' B' S' × Counters) × State R' T' B' → Read R' T' B' (Item A' B' ℕ S' D' × Counters)
  Rest quiet ws h =
      optional_body other h.1 >>= λ b. check_exclusions other kept' ws h.0.0.name b.1 >>= λ checked. next_recipe_number other h.0.1 checked.1 >>= headed other kept' quiet ws h.0.0 b.0

  header_carried : (m : Counters) (quiet : Bool) (ws : List W') (found : Read R' T' B' (ReadHeader T' A' B' S' × Counters)) → one.has_number m.bindings ≡ false
      → IfOk found (λ y. m.bindings < y.0.1.bindings) → AllExceed m (found >>= Rest quiet ws)
  header_carried m quiet ws found ends less =
      let Q : Item A' B' ℕ S' D' × Counters → Type 0 = λ y. Exceeds m y.1 in
      after_all found _ Q (λ h is. after_all (optional_body other h.1) _ Q (λ b _. after_all (check_exclusions other kept' ws h.0.0.name b.1) _ Q (λ checked _.
      drawn_exceeds m h.0.1 quiet ws h.0.0 b.0 checked.1 ends (known h (λ y. m.bindings < y.0.1.bindings) is less))))

  pub recipe_natural : {ws : List W} {ws' : List W'} (quiet : Bool) (n : Counters) → Each Keeps ws ws' → {s : State R T B} {s' : State R' T' B'} → States rel s s'
      → Related rel (AlikeNumbered n) (NoRecipe (LacksIn ws' n s')) (recipe one kept quiet ws n s) (recipe other kept' quiet ws' n s')
  unfolding recipe
  recipe_natural {ws} {ws'} quiet n q {s} {s'} h =
      let rules = argument_rules one kept s.run ws in
      let rules' = argument_rules other kept' s'.run ws' in
      bind_short rel _ _ (header_natural rel one other agree kept.view kept'.view attributed.keeping.sees rules rules' (rules_alike s.run s'.run h.run q) n h)
      (λ m w. no_parameter w.ends w.lacks (header_carried m quiet ws' (header other kept'.view rules' n s') w.ends w.exceeds))
      (λ x x' is is' k j. bind rel _ _ (optional_body_natural rel one other agree j) (λ b b' ls i.
      bind rel _ _ (exclusion_natural x.0.0.name x'.0.0.name k.name q i) (λ u u' c l. recipe_alike quiet n x.0 x'.0 q k ls l)))

  -- a stronger lack gives the same failure
  no_recipe : {Lacking Other : Counters → Type 0} {m : Counters} {found : Read R' T' B' (Item A' B' ℕ S' D' × Counters)} → ((m : Counters) → Lacking m → Other m)
      → NoRecipe Lacking m found → NoRecipe Other m found
  no_recipe {m = m} f (no_parameter ends lacks exceeds) = no_parameter ends (f m lacks) exceeds
  no_recipe f (no_number ends reads counts) = no_number ends reads counts

  -- a header that lacks a number, after `@` or not
  pub record LacksAfter (ws : List W') (n : Counters) (s' : State R' T' B') (m : Counters) : Type 0 where
    pub from : State R' T' B'
    pub begins : AtHeader s' from
    pub lacks : LacksIn ws n from m

  pub any_recipe_natural : {ws : List W} {ws' : List W'} (n : Counters) → Each Keeps ws ws' → {s : State R T B} {s' : State R' T' B'} → States rel s s'
      → Related rel (AlikeNumbered n) (NoRecipe (LacksAfter ws' n s')) (any_recipe one kept ws n s) (any_recipe other kept' ws' n s')
  unfolding any_recipe
  any_recipe_natural n q {s} {s'} h =
      pick_known rel _ _ (accepted rel one other agree kinds.At h)
      (weaken rel (λ x y q. q) (λ m k. no_recipe (λ m w. record { from = s'; begins = at_once; lacks = w }) k) (recipe_natural false n q h))
      (λ p p' is k. weaken rel (λ x y q. q) (λ m w. no_recipe (λ m w. record { from = p'.1; begins = after_at is; lacks = w }) w) (recipe_natural true n q k))

  same_alone : {s : State R T B} {s' : State R' T' B'} → States rel s s' → r.stands_alone one kept s ≡ r.stands_alone other kept' s'
  same_alone h = λ i. same_next rel one other agree (kinds.Eol ∷ []) h i || same_next rel one other agree (kinds.Comment ∷ []) h i

  -- the attributes before a construct
  pub attributes_natural : {s : State R T B} {s' : State R' T' B'} → States rel s s'
      → Reads rel (Each Keeps) (attributes one kept s) (attributes other kept' s')
  unfolding attributes
  attributes_natural h =
      pick rel _ _ (accepted rel one other agree kinds.BracketL h) (both a.nil h) (λ o o' t k.
      bind rel _ _ (attribute_lines_natural rel one other agree kept.view kept'.view kept.keep kept.entry kept'.keep kept'.entry Keeps attributed.keeping kept.comment kept'.comment
      attributed.commented h)
      (λ ws ws' q j. by_tests rel _ _ (same_alone j) (neither (a.extraneous (each_length q) (agree.position o.0 o'.0 t))) (both q j)))

  -- a number is missing at these counters
  abbrev NoItem : Counters → State R' T' B' → Counters → Read R' T' B' (Item A' B' ℕ S' D' × Counters) → Type 0
  NoItem n s' m found = Lacks n s' m × AllExceed m found

  abbrev NoLine : Counters → State R' T' B' → Counters → Read R' T' B' (List (Item A' B' ℕ S' D') × Counters) → Type 0
  NoLine n s' m found = Lacks n s' m × AllExceed m found

  comment_alike : (n : Counters) (t : T) (t' : T') → rel.token t t' → AlikeItem rel n (r.comment_item one kept t) (r.comment_item other kept' t')
  comment_alike n t t' h = subst (λ (x : SignificantToken). AlikeItem rel n (r.comment_item one kept t) (tree.Comment (trim_end x.tok.lexeme))) (agree.see t t' h) a.comment

  -- what exceeds by its own number
  own_exceeds : (m : Counters) (found : Read R' T' B' (Item A' B' ℕ S' D' × Counters)) → one.has_number m.recipes ≡ false
      → IfOk found (λ y. y.0.1 ≡ with_recipes (m.recipes + 1) m) → AllExceed m found
  own_exceeds m (Ok x) ends is = recipes_end ends (omega (arith, ap (λ (c : Counters). c.recipes) is))
  own_exceeds m (Err e) ends is = tt

  recipe_lacks : {ws' : List W'} (n m : Counters) {s' from : State R' T' B'} → attributes other kept' from ≡ Ok (ws', s')
      → NoRecipe (LacksAfter ws' n s') m (any_recipe other kept' ws' n s') → NoItem n from m (any_recipe other kept' ws' n s')
  recipe_lacks n m is (no_parameter ends lacks exceeds) = (parameter is lacks.begins ends lacks.lacks, exceeds)
  recipe_lacks {ws'} n m {s'} is (no_number ends reads counts) = (recipe_number is ends reads counts, own_exceeds m (any_recipe other kept' ws' n s') ends counts)

  -- ---- items that draw no number of their own

  alias_natural : {ws : List W} {ws' : List W'} (n : Counters) → Each Keeps ws ws' → {s : State R T B} {s' : State R' T' B'} → States rel s s'
      → Reads rel (AlikeNumbered n) (alias one kept ws n s) (alias other kept' ws' n s')
  unfolding alias
  alias_natural n q h =
      bind rel _ _ (expected rel one other agree kinds.Identifier h) (λ name name' t k. bind rel _ _ (expected rel one other agree kinds.ColonEquals k) (λ x x' t2 j.
      bind rel _ _ (path_natural rel one other agree j) (λ p p' v i. bind rel _ _ (allowed_natural item_kinds.Alias name.0 name'.0 t q i) (λ u u' c l.
      both (a.alias (attributed.attributes u.1.run u'.1.run l.run q) (agree.name name.0 name'.0 t) v, refl, refl) l))))

  imported_natural : (optional : Bool) {ws : List W} {ws' : List W'} (n : Counters) → Each Keeps ws ws' → {s : State R T B} {s' : State R' T' B'} → States rel s s'
      → Reads rel (AlikeNumbered n) (imported one kept optional ws n s) (imported other kept' optional ws' n s')
  unfolding imported
  imported_natural optional n q h =
      bind rel _ _ (file_path_natural rel one other agree h) (λ p p' v k. bind rel _ _ (allowed_natural item_kinds.Import p.0.0 p'.0.0 v.literal q k) (λ u u' c l.
      both (a.import (attributed.attributes u.1.run u'.1.run l.run q) v.path, refl, refl) l))

  import_natural : {ws : List W} {ws' : List W'} (n : Counters) → Each Keeps ws ws' → {s : State R T B} {s' : State R' T' B'} → States rel s s'
      → Reads rel (AlikeNumbered n) (import one kept ws n s) (import other kept' ws' n s')
  unfolding import taking.accepted
  import_natural {ws} {ws'} n q {s} {s'} h =
      let mark = mark_alike rel (accepted rel one other agree kinds.QuestionMark h) h in
      let first = taken_or s (accept one kinds.QuestionMark s) in
      let second = taken_or s' (accept other kinds.QuestionMark s') in
      subst (λ (b : Bool). Reads rel (AlikeNumbered n) (imported one kept first.0 ws n first.1) (imported other kept' b ws' n second.1)) mark.0
      (imported_natural first.0 n q mark.1)

  named_module_natural : (optional : Bool) {ws : List W} {ws' : List W'} (n : Counters) → Each Keeps ws ws' → {s : State R T B} {s' : State R' T' B'} → States rel s s'
      → Reads rel (AlikeNumbered n) (named_module one kept optional ws n s) (named_module other kept' optional ws' n s')
  unfolding named_module
  named_module_natural optional n q h =
      bind rel _ _ (expected rel one other agree kinds.Identifier h) (λ name name' t k. bind rel _ _ (optional_path_natural rel one other agree k) (λ p p' v j.
      bind rel _ _ (allowed_natural item_kinds.Module name.0 name'.0 t q j) (λ u u' c l.
      both (a.module_of (attributed.attributes u.1.run u'.1.run l.run q) (agree.name name.0 name'.0 t) v, refl, refl) l)))

  module_natural : {ws : List W} {ws' : List W'} (n : Counters) → Each Keeps ws ws' → {s : State R T B} {s' : State R' T' B'} → States rel s s'
      → Reads rel (AlikeNumbered n) (any_module one kept ws n s) (any_module other kept' ws' n s')
  unfolding any_module taking.accepted
  module_natural {ws} {ws'} n q {s} {s'} h =
      let mark = mark_alike rel (accepted rel one other agree kinds.QuestionMark h) h in
      let first = taken_or s (accept one kinds.QuestionMark s) in
      let second = taken_or s' (accept other kinds.QuestionMark s') in
      subst (λ (b : Bool). Reads rel (AlikeNumbered n) (named_module one kept first.0 ws n first.1) (named_module other kept' b ws' n second.1)) mark.0
      (named_module_natural first.0 n q mark.1)

  -- a setting after its name
  abbrev OneSetting : List W → Counters → T → Keyword → State R T B → Read R T B (Item A B ℕ S D × Counters)
  OneSetting ws n name keyword s =
      r.check_allowed one kept item_kinds.Setting ws name s >>= λ checked. setting_value one kept.view name keyword (setting_form keyword) checked.1 >>= λ value.
      r.constructed one kept ws (tree.Setting (record { keyword = keyword; name = one.name name; value = value.0 })) n value.1

  abbrev OtherSetting : List W' → Counters → T' → Keyword → State R' T' B' → Read R' T' B' (Item A' B' ℕ S' D' × Counters)
  OtherSetting ws n name keyword s =
      r.check_allowed other kept' item_kinds.Setting ws name s >>= λ checked. setting_value other kept'.view name keyword (setting_form keyword) checked.1 >>= λ value.
      r.constructed other kept' ws (tree.Setting (record { keyword = keyword; name = other.name name; value = value.0 })) n value.1

  named_setting_natural : {ws : List W} {ws' : List W'} (n : Counters) → Each Keeps ws ws' → (name : T) (name' : T') → rel.token name name' → (keyword : Keyword)
      {s : State R T B} {s' : State R' T' B'} → States rel s s' → Reads rel (AlikeNumbered n) (OneSetting ws n name keyword s) (OtherSetting ws' n name' keyword s')
  named_setting_natural n q name name' t keyword h =
      bind rel _ _ (allowed_natural item_kinds.Setting name name' t q h) (λ u u' c k.
      bind rel _ _ (setting_value_natural rel one other agree kept.view kept'.view attributed.keeping.sees name name' t keyword (setting_form keyword) k) (λ v v' w l.
      both (a.setting (attributed.attributes v.1.run v'.1.run l.run q) (agree.name name name' t) w, refl, refl) l))

  setting_natural : {ws : List W} {ws' : List W'} (n : Counters) → Each Keeps ws ws' → {s : State R T B} {s' : State R' T' B'} → States rel s s'
      → Reads rel (AlikeNumbered n) (setting one kept ws n s) (setting other kept' ws' n s')
  unfolding setting
  setting_natural {ws} {ws'} n q h =
      bind rel _ _ (expected rel one other agree kinds.Identifier h) (λ name name' t k.
      bind rel _ _ (keyword_natural rel one other agree name.0 name'.0 t k) (λ x x' e j.
      subst (λ (keyword : Keyword). Reads rel (AlikeNumbered n) (OneSetting ws n name.0 x.0 x.1) (OtherSetting ws' n name'.0 keyword x'.1)) e
      (named_setting_natural n q name.0 name'.0 t x.0 j)))

  unexport_natural : {ws : List W} {ws' : List W'} (n : Counters) → Each Keeps ws ws' → {s : State R T B} {s' : State R' T' B'} → States rel s s'
      → Reads rel (AlikeNumbered n) (unexport one kept ws n s) (unexport other kept' ws' n s')
  unfolding unexport
  unexport_natural n q h =
      bind rel _ _ (expected rel one other agree kinds.Identifier h) (λ name name' t k.
      bind rel _ _ (allowed_natural item_kinds.Unexport name.0 name'.0 t q k) (λ u u' c l.
      both (a.unexport (attributed.attributes u.1.run u'.1.run l.run q) (agree.name name.0 name'.0 t), refl, refl) l))

  -- ---- functions

  -- the number of a parameter is wanting, and what the other reads exceeds the counter
  record NoFunction (ws : List W') (n : Counters) (s' : State R' T' B') (m : Counters) (found : Read R' T' B' (Item A' B' ℕ S' D' × Counters)) : Type 0 where
    ends : one.has_number m.bindings ≡ false
    lacks : LacksFunction ws n s' m
    exceeds : AllExceed m found

  abbrev FunctionRest : List W' → T' → (List A' × Counters) × State R' T' B' → Read R' T' B' (Item A' B' ℕ S' D' × Counters)
  FunctionRest ws name parameters =
      expect other kinds.ColonEquals parameters.1 >>= λ operator. expression other operator.1 >>= λ body.
      r.constructed other kept' ws (tree.Function (record { name = other.name name; parameters = parameters.0.0; body = body.0 })) parameters.0.1 body.1

  function_carried : (m : Counters) (ws : List W') (name : T') (found : Read R' T' B' (List A' × Counters)) → one.has_number m.bindings ≡ false
      → Higher other m found → AllExceed m (found >>= FunctionRest ws name)
  function_carried m ws name found ends less =
      let Q : Item A' B' ℕ S' D' × Counters → Type 0 = λ y. Exceeds m y.1 in
      after_all found _ Q (λ ps is. after_all (expect other kinds.ColonEquals ps.1) _ Q (λ operator _. after_all (expression other operator.1) _ Q (λ body _.
      bindings_end ends (known ps (λ y. m.bindings < y.0.1.bindings) is less))))

  function_natural : {ws : List W} {ws' : List W'} (n : Counters) → Each Keeps ws ws' → {s : State R T B} {s' : State R' T' B'} → States rel s s'
      → Related rel (AlikeNumbered n) (NoFunction ws' n s') (function one kept ws n s) (function other kept' ws' n s')
  unfolding function
  function_natural {ws} {ws'} n q {s} {s'} h =
      bind_short rel _ _ (expected rel one other agree kinds.Identifier h) (λ m never. absurd never) (λ name name' is named' t k.
      bind_short rel _ _ (allowed_natural item_kinds.Function name.0 name'.0 t q k) (λ m never. absurd never) (λ u u' is2 allowed' c j.
      bind_short rel _ _ (expected rel one other agree kinds.ParenL j) (λ m never. absurd never) (λ o o' is3 opened' t2 i.
      bind_short rel _ _ (names_natural rel one other agree n i)
      (λ m w. record {
        ends = w.ends;
        lacks = record { name = name'; named = named'; checked = u'; allowed = allowed'; opener = o'; opened = opened'; lacks = w.lacks };
        exceeds = function_carried m ws' name'.0 (names other (n, o'.1)) w.ends w.exceeds;
      })
      (λ ps ps' is4 is5 v l. bind rel _ _ (expected rel one other agree kinds.ColonEquals l) (λ x x' t3 d. bind rel _ _ (value_alike rel one other agree d) (λ e e' w f.
      both (a.function (attributed.attributes e.1.run e'.1.run f.run q) (agree.name name.0 name'.0 t) v.names w, v.same, v.counts) f))))))

  -- ---- which item it is

  -- no number is drawn
  never_lacks : {n : Counters} {from : State R' T' B'} {found : Read R T B (Item A B ℕ S D × Counters)} {found' : Read R' T' B' (Item A' B' ℕ S' D' × Counters)}
      → Reads rel (AlikeNumbered n) found found' → Related rel (AlikeNumbered n) (NoItem n from) found found'
  never_lacks h = weaken rel (λ x y q. q) (λ m never. absurd never) h

  assignment_lacks : {ws : List W} {ws' : List W'} (eager export : Bool) (n : Counters) → Each Keeps ws ws' → {s : State R T B} {rest s' from : State R' T' B'} → States rel s s'
      → attributes other kept' from ≡ Ok (ws', rest) → AfterWord rest eager export s'
      → Related rel (AlikeNumbered n) (NoItem n from) (assignment one kept eager export ws n s) (assignment other kept' eager export ws' n s')
  assignment_lacks {ws} {ws'} eager export n q {s} {rest} {s'} {from} h is after =
      weaken rel (λ x y q. q) (λ m k. (
        subst (λ (c : Counters). Lacks n from c) (sym k.0) (binding is after k.1 k.2),
        subst (λ (c : Counters). AllExceed c (assignment other kept' eager export ws' n s')) (sym k.0) k.3,
      )) (assignment_natural eager export n q h)

  wordless_natural : {ws : List W} {ws' : List W'} (n : Counters) → Each Keeps ws ws' → {s : State R T B} {s' from : State R' T' B'} → States rel s s'
      → attributes other kept' from ≡ Ok (ws', s') → Related rel (AlikeNumbered n) (NoItem n from) (without_keyword one kept ws n s) (without_keyword other kept' ws' n s')
  unfolding without_keyword
  wordless_natural n q h is =
      by_tests rel _ _ (same_next rel one other agree (kinds.Identifier ∷ kinds.ParenL ∷ []) h)
      (weaken rel (λ x y q. q) (λ m k. (function_parameter is k.ends k.lacks, k.exceeds)) (function_natural n q h))
      (by_tests rel _ _ (same_assigned rel one other agree h)
      (assignment_lacks false false n q h is no_word)
      (weaken rel (λ x y q. q) (λ m k. recipe_lacks n m is k) (any_recipe_natural n q h)))

  content_natural : {ws : List W} {ws' : List W'} (n : Counters) → Each Keeps ws ws' → {s : State R T B} {s' from : State R' T' B'} → States rel s s'
      → attributes other kept' from ≡ Ok (ws', s') → Related rel (AlikeNumbered n) (NoItem n from) (content one kept ws n s) (content other kept' ws' n s')
  unfolding content
  content_natural n q {s} {s'} h is =
      let assigns = λ (s : State R T B) (s' : State R' T' B') (k : States rel s s'). same_assigned rel one other agree k in
      pick rel _ _ (accepted_before rel one other agree (codes "alias") (peek_assignment one) (peek_assignment other) assigns h)
      (pick_known rel _ _ (accepted_before rel one other agree (codes "eager") (peek_assignment one) (peek_assignment other) assigns h)
      (pick_known rel _ _ (accepted_before rel one other agree (codes "export") (peek_assignment one) (peek_assignment other) assigns h)
      (pick rel _ _ (accepted_before rel one other agree (codes "unexport") (line_is one (kinds.Identifier ∷ [])) (line_is other (kinds.Identifier ∷ []))
      (λ s s' k. same_unexported rel one other agree k) h)
      (pick rel _ _ (accepted_before rel one other agree (codes "import") (is_imported one) (is_imported other) (λ s s' k. same_imported rel one other agree k) h)
      (pick rel _ _ (accepted_before rel one other agree (codes "mod") (is_module one) (is_module other) (λ s s' k. same_module rel one other agree k) h)
      (pick rel _ _ (accepted_before rel one other agree (codes "set") (is_set one) (is_set other) (λ s s' k. same_set rel one other agree k) h)
      (wordless_natural n q h is)
      (λ w w' t k. never_lacks (setting_natural n q k)))
      (λ w w' t k. never_lacks (module_natural n q k)))
      (λ w w' t k. never_lacks (import_natural n q k)))
      (λ w w' t k. never_lacks (unexport_natural n q k)))
      (λ w w' taken k. assignment_lacks false true n q k is (after_export taken)))
      (λ w w' taken k. assignment_lacks true false n q k is (after_eager taken)))
      (λ w w' t k. never_lacks (alias_natural n q k))

  pub construct_natural : (n : Counters) {s : State R T B} {s' : State R' T' B'} → States rel s s'
      → Related rel (AlikeNumbered n) (NoItem n s') (construct one kept n s) (construct other kept' n s')
  unfolding construct
  construct_natural n h = bind_short rel _ _ (attributes_natural h) (λ m never. absurd never) (λ ws ws' is is' q k. content_natural n q k is')

  pub on_line_natural : (n : Counters) {s : State R T B} {s' : State R' T' B'} → States rel s s'
      → Related rel (AlikeNumbered n) (NoItem n s') (any_item one kept n s) (any_item other kept' n s')
  unfolding any_item
  on_line_natural n h =
      pick rel _ _ (accepted rel one other agree kinds.Comment h) (construct_natural n h) (λ c c' t k. both (comment_alike n c.0 c'.0 t, refl, refl) k)

  -- items that draw no number, at any counters
  abbrev pub Unnumbered : List (Item A B ℕ S D) → List (Item A' B' ℕ S' D') → Type 0
  Unnumbered is is' = (n : Counters) → AlikeItems rel n is is' × (counted n is ≡ n)

  pub line_end_natural : {s : State R T B} {s' : State R' T' B'} → States rel s s' → Reads rel Unnumbered (line_end one kept s) (line_end other kept' s')
  unfolding line_end
  line_end_natural h =
      pick rel _ _ (accepted rel one other agree kinds.Eof h)
      (bind rel _ _ (expected rel one other agree kinds.Eol h) (λ x x' t k. both (λ n. (an_item a.newline no_item, refl)) k))
      (λ x x' t k. both (λ n. (no_item, refl)) h)

  pub item_rest_natural : {s : State R T B} {s' : State R' T' B'} → States rel s s' → Reads rel Unnumbered (r.after_item one kept s) (r.after_item other kept' s')
  unfolding r.after_item
  item_rest_natural h =
      pick rel _ _ (accepted rel one other agree kinds.Comment h) (line_end_natural h)
      (λ c c' t k. bind rel _ _ (line_end_natural k) (λ x x' q j. both (λ n. (an_item (comment_alike n c.0 c'.0 t) (q n).0, (q n).1)) j))

  pub ended_natural : (b b' : Bool) {s : State R T B} {s' : State R' T' B'} → b ≡ b' → States rel s s' → Reads rel Unnumbered (item_end one kept b s) (item_end other kept' b' s')
  unfolding item_end
  ended_natural b b' same h = by_tests rel b b' same (both (λ n. (an_item a.newline no_item, refl)) h) (item_rest_natural h)

  carried : (n : Counters) (found : Read R' T' B' (Item A' B' ℕ S' D' × Counters)) (f : (Item A' B' ℕ S' D' × Counters) × State R' T' B' → Read R' T' B' (List (Item A' B' ℕ S' D'))) → AllExceed n found → AllExceed n (found >>= λ i. f i >>= λ b. Ok ((i.0.0 ∷ b.0, i.0.1), b.1))
  carried n found f h =
      let Q : List (Item A' B' ℕ S' D') × Counters → Type 0 = λ y. Exceeds n y.1 in
      after_all found _ Q (λ i is. after_all (f i) _ Q (λ b _. known i (λ y. Exceeds n y.0.1) is h))

  pub line_natural : (n : Counters) {s : State R T B} {s' : State R' T' B'} → States rel s s' → Related rel (AllNumbered n) (NoLine n s') (line one kept n s) (line other kept' n s')
  unfolding line
  line_natural n {s} {s'} h =
      pick rel _ _ (accepted rel one other agree kinds.Eol h)
      (bind_short rel _ _ (on_line_natural n h) (λ m k. (k.0, carried m (any_item other kept' n s') (λ i. item_end other kept' (has_body i.0.0) i.1) k.1))
      (λ i i' is is' q k. bind rel _ _ (ended_natural (has_body i.0.0) (has_body i'.0.0) (same_body rel q.0) k) (λ b b' u j.
      both (an_item q.0 (u (count n i.0.0)).0, q.1, q.2 ∙ sym (u (count n i.0.0)).1) j)))
      (λ x x' t k. both (an_item a.newline no_item, refl, refl) k)

  items_both : {n : Counters} {is js : List (Item A B ℕ S D)} {is' js' : List (Item A' B' ℕ S' D')} → AlikeItems rel n is is' → AlikeItems rel (counted n is) js js' → AlikeItems rel n (is ++ js) (is' ++ js')
  items_both no_item k = k
  items_both (an_item h hs) k = an_item h (items_both hs k)

  -- all items, from these counters
  abbrev pub NoFile : Counters → State R' T' B' → Counters → Read R' T' B' (List (Item A' B' ℕ S' D') × Counters) → Type 0
  NoFile n s' m found = Wants n s' m × AllExceed m found

  -- counters grow along the items after a line
  line_exceeds : (n : Counters) (found : Read R' T' B' (List (Item A' B' ℕ S' D') × Counters)) → AllExceed n found → AllExceed n (found >>= λ l. after_numbered l.0.0 (items_from other kept' (l.0.1, l.1)))
  unfolding after_numbered
  line_exceeds n found h =
      let Q : List (Item A' B' ℕ S' D') × Counters → Type 0 = λ y. Exceeds n y.1 in
      after_all found _ Q (λ l is. after_all (items other kept' l.0.1 l.1) _ Q (λ more is2.
      let grown = known more (λ x. x.0.1 ≡ counted l.0.1 x.0.0) is2 (items_count other kept' l.0.1 l.1) in
      exceeds_then (known l (λ y. Exceeds n y.0.1) is h) (omega (arith, ap (λ (c : Counters). c.bindings) grown, counted_bindings l.0.1 more.0.0))
      (omega (arith, ap (λ (c : Counters). c.recipes) grown, counted_recipes l.0.1 more.0.0))))

  end_alike : (n : Counters) (from : State R' T' B') {s : State R T B} {s' : State R' T' B'} {ts : List T} {ts' : List T'} → States rel s s' → Each rel.token ts ts'
      → Related rel (AllNumbered n) (NoFile n from) (end_of_tokens one kept n s ts) (end_of_tokens other kept' n s' ts')
  end_alike n from h a.nil = both (no_item, refl, refl) h
  end_alike n from h (a.cons t ts) = refused_alike rel one other agree h

  abbrev AllAlike : Start one kept → Type 0
  AllAlike x = (s' : State R' T' B') → States rel x.1 s' → Related rel (AllNumbered x.0) (NoFile x.0 s') (items_from one kept x) (items other kept' x.0 s')

  -- after a line
  others_alike : (n : Counters) (l : (List (Item A B ℕ S D) × Counters) × State R T B) (l' : (List (Item A' B' ℕ S' D') × Counters) × State R' T' B') (s' : State R' T' B') → AllAlike (l.0.1, l.1) → line other kept' n s' ≡ Ok l' → AllNumbered n l.0 l'.0 → States rel l.1 l'.1
      → Related rel (AllNumbered n) (NoFile n s') (after_numbered l.0.0 (items one kept l.0.1 l.1)) (after_numbered l'.0.0 (items other kept' l'.0.1 l'.1))
  unfolding after_numbered
  others_alike n l l' s' all is' q k =
      subst (λ (m : Counters). Related rel (AllNumbered n) (NoFile n s') (after_numbered l.0.0 (items one kept l.0.1 l.1)) (after_numbered l'.0.0 (items other kept' m l'.1))) q.1
      (bind_short rel _ _ (all l'.1 k)
      (λ m w. (
        later (is' ∙ ap (λ (c : Counters). Ok ((l'.0.0, c), l'.1)) (sym q.1)) w.0,
        after_all (items other kept' l.0.1 l'.1) _ (λ y. Exceeds m y.1) (λ more is. known more (λ y. Exceeds m y.0.1) is w.1),
      ))
      (λ x x' is is2 u j. both (items_both q.0 (subst (λ (c : Counters). AlikeItems rel c x.0.0 x'.0.0) q.2 u.0), u.1, u.2 ∙ ap (λ (c : Counters). counted c x.0.0) q.2 ∙ sym (counted_both n l.0.0 x.0.0)) j))

  all_natural : (x : Start one kept) → AllAlike x
  unfolding items_rule at_end
  all_natural =
      by_size (λ (x : Start one kept). length x.1.left) AllAlike (λ x all s' h.
      rw (items_is one kept x.0 x.1, items_is other kept' x.0 s')
      (pick rel _ _ (accepted rel one other agree kinds.Eof h)
      (bind_short rel _ _ (line_natural x.0 h) (λ m k. (here k.0, line_exceeds m (line other kept' x.0 s') k.1))
      (λ l l' is is' q k. others_alike x.0 l l' s' (all (l.0.1, l.1) (past x.1 _ l (line_goes one kept x.0 x.1) is).0) is' q k))
      (λ y y' t k. end_alike x.0 s' k k.left)))

  pub items_natural : (n : Counters) (s : State R T B) (s' : State R' T' B') → States rel s s' → Related rel (AllNumbered n) (NoFile n s') (items one kept n s) (items other kept' n s')
  items_natural n s = all_natural (n, s)

  mark_taken : {s : State R T B} {s' : State R' T' B'} {o : Taken R T B} {o' : Taken R' T' B'} → States rel s s' → Takes rel o o' → States rel (choose o s (λ mark. mark.1)) (choose o' s' (λ mark. mark.1))
  mark_taken h none_taken = h
  mark_taken h (taken t k) = k

  pub file_natural : (n : Counters) (s : State R T B) (s' : State R' T' B') → States rel s s' → Related rel (AllNumbered n) (NoFile n (after_byte_order_mark other kept' s')) (file one kept n s) (file other kept' n s')
  unfolding file
  file_natural n s s' h = items_natural n (after_byte_order_mark one kept s) (after_byte_order_mark other kept' s') (mark_taken h (accepted rel one other agree kinds.ByteOrderMark h))
