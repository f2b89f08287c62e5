-- The parsers of the parts of items are natural in their tokens and leaves: for related tokens they parse related paths, names and values,
-- and take the same numbers. If one parser has no number left, the other can continue.
use Rattle.std.proofs.Common.{◌≡◌, ℕ, ◌+◌, ◌<◌, ◌≤◌, Bool, true, false, ◌||◌, List, [], ◌∷◌, ◌++◌, length, Option, Some, None, Ok, Err, IfOk, IsOk, codes, refl, sym, ap, subst, ◌∙◌, arith}
use Rattle.justfile_vocabulary.specs.Indentation.{indentation_refusal}
use Rattle.justfile_vocabulary.specs.Keyword.{keyword_named}
use Rattle.justfile_token.specs.StringKind.{kind_of}
use Rattle.justfile_vocabulary.specs.declared.keyword.Keyword.{Keyword}
use Rattle.justfile_vocabulary.specs.declared.keyword.Keyword.TheVariants as words
use Rattle.justfile_vocabulary.specs.declared.token_kind.TokenKind.{TokenKind}
use Rattle.justfile_vocabulary.specs.declared.token_kind.TokenKind.TheVariants as kinds
use Rattle.justfile_model.specs.declared.level.Level.TheVariants as levels
use Rattle.justfile_model.specs.Meanings.AttributeRules.{of_some}
use Rattle.justfile_model.specs.Grammars.Conditions.{VersionNumbers}
use Rattle.justfile_model.specs.Readers.ExpressionReader as expressions
use Rattle.justfile_model.specs.Readers.HeaderReader.{next_binding_number, with_bindings}
use Rattle.justfile_model.specs.LiteralTexts.Literals.{string_of}
use Rattle.justfile_model.specs.Meanings.Meaning.{quoted_text}
use Rattle.justfile_model.specs.Readers.PartReader as r
use Rattle.justfile_model.specs.Readers.PartReader.{accept_keyword_before, after_numbered}
use Rattle.justfile_model.specs.Readers.ReaderState.{◌>>=◌, Counters, Leaves, Read, State, Taken, accept, choose, expect, is_word}
use Rattle.justfile_model.specs.Meanings.Rules.{Broken, InvalidIndentation, broken_if}
use Rattle.justfile_model.specs.Meanings.SettingRules.{literal_broken, plain_literal, text_broken, value_broken, version_broken}
use Rattle.justfile_model.specs.Grammars.Settings.{ExpressionForm, InterpreterForm, PlainForm, SettingForm, TruthForm}
use Rattle.justfile_model.specs.Trees.LeafView.{LeafView}
use Rattle.justfile_model.specs.Lexing.SignificantTokens.{SignificantToken}
use Rattle.justfile_model.specs.Trees.Tree.{Expr, Exprs, Quoted, SettingValue}
use Rattle.justfile_model.specs.Meanings.Versions.{is_above, version_of}
use Rattle.justfile_model.proofs.Relations.AlikeAttributes.{AlikeQuoted, SeesAlike}
use Rattle.justfile_model.proofs.Relations.AlikeRules as broken
use Rattle.justfile_model.proofs.Relations.AlikeRules.{AlikeBroken, AlikeRule}
use Rattle.justfile_model.proofs.Readers.Counters.{after_parameters, names_count, parameters_bindings}
use Rattle.justfile_model.proofs.Lists.EachLaws.{AlikeOption, absent, present}
use Rattle.justfile_model.proofs.Relations.NaturalExpressions.{Reads, natural, sequence, string_asks}
use Rattle.justfile_model.proofs.Relations.NaturalHeaders.{obeying_natural, pick_known, value_alike}
use Rattle.justfile_model.proofs.Relations.NewAttributesAlike.{quoted_place, same_quoted_text}
use Rattle.justfile_model.proofs.Readers.PartReading.{names_is, numbered_name_goes}
use Rattle.justfile_model.proofs.Readers.ReadingSteps.{accepts, after_all, after_choice, by_size, known, past}
use Rattle.justfile_model.proofs.Relations.Related as a
use Rattle.justfile_model.proofs.Relations.Related.{Alike, AlikeAll, AlikeNames, AlikeValue, Each, Related, Relations, Respects, States, Takes, accepted, accepted_word, bind, bind_short, both, by_tests, cooked_alike, draw, each_length, entered, expected, neither, none_taken, pick, refused_alike, same_next, short, take_tested, taken, unexpected, weaken}
use Rattle.justfile_model.proofs.Relations.AlikeRecipes.{broken_if_alike, unless_alike}

module _ {R T A B S D R' T' A' B' S' D' : Type 0} (rel : Relations R T A B S D R' T' A' B' S' D') (current : VersionNumbers) (view : LeafView A B)
    (view' : LeafView A' B') (sees : SeesAlike rel view view') where
  -- ---- the rules of settings

  abbrev Refuses : List (Broken B) → List (Broken B') → Type 0
  Refuses = Each (AlikeBroken rel.position)

  -- a rule that is broken or not
  version_alike : {b : B} {b' : B'} (text : List ℕ) (o : Option VersionNumbers) → rel.position b b'
      → Refuses (version_broken current b text o) (version_broken current b' text o)
  version_alike text None h = broken_if_alike rel.position true true refl (broken.invalid_version refl) h
  version_alike text (Some minimum) h = broken_if_alike rel.position (is_above minimum current) (is_above minimum current) refl (broken.minimum_version refl refl) h

  indentation_alike : {b : B} {b' : B'} (o : Option (List ℕ)) → rel.position b b'
      → Refuses (of_some (λ message. broken_if true (InvalidIndentation message) b) o) (of_some (λ message. broken_if true (InvalidIndentation message) b') o)
  indentation_alike None h = a.nil
  indentation_alike (Some message) h = broken_if_alike rel.position true true refl (broken.invalid_indentation refl) h

  text_alike : (keyword : Keyword) {b : B} {b' : B'} (text : List ℕ) → rel.position b b' → Refuses (text_broken current keyword b text) (text_broken current keyword b' text)
  text_alike words.Indentation text h = indentation_alike (indentation_refusal text) h
  text_alike words.MinimumVersion text h = version_alike text (version_of text) h
  text_alike _ text h = a.nil

  some_text_alike : (keyword : Keyword) {b : B} {b' : B'} (o : Option (List ℕ)) → rel.position b b'
      → Refuses (of_some (text_broken current keyword b) o) (of_some (text_broken current keyword b') o)
  some_text_alike keyword None h = a.nil
  some_text_alike keyword (Some text) h = text_alike keyword text h

  literal_alike : (keyword : Keyword) {b : B} {b' : B'} {o : Option (Quoted A)} {o' : Option (Quoted A')} → rel.position b b' → AlikeOption (AlikeQuoted rel) o o'
      → Refuses (literal_broken current view keyword b o) (literal_broken current view' keyword b' o')
  literal_alike keyword h absent = broken_if_alike rel.position true true refl broken.setting_expression h
  literal_alike keyword h (present {x = q} {y = q'} k) =
      subst (λ (text : Option (List ℕ)). Refuses (of_some (text_broken current keyword (view.place q.token)) (quoted_text view q)) (of_some (text_broken current keyword (view'.place q'.token)) text))
      (same_quoted_text rel view view' sees k) (some_text_alike keyword (quoted_text view q) (quoted_place rel view view' sees k))

  plain_alike : {e : Expr A B} {e' : Expr A' B'} → Alike rel e e' → AlikeOption (AlikeQuoted rel) (plain_literal current view e) (plain_literal current view' e')
  plain_alike (a.string {expanded = false} lexeme {a = t} {a' = t'} h) =
      unless_alike _ _ (ap (λ bytes. (kind_of bytes).indented) (sees.literal_bytes (string_of false lexeme) t t' h)) (present (record { expanded = refl; lexeme = lexeme; token = h }))
  plain_alike (a.string {expanded = true} lexeme h) = absent
  plain_alike _ = absent

  pub value_broken_alike : (keyword : Keyword) {b : B} {b' : B'} {v : SettingValue A B} {v' : SettingValue A' B'} → rel.position b b' → AlikeValue rel v v'
      → Refuses (value_broken current view (Some PlainForm) keyword b v) (value_broken current view' (Some PlainForm) keyword b' v')
  value_broken_alike keyword h a.truth = a.nil
  value_broken_alike keyword h (a.value k) = literal_alike keyword h (plain_alike k)
  value_broken_alike keyword h (a.interpreter k ks) = a.nil

module _ {R T A B S D R' T' A' B' S' D' : Type 0} (rel : Relations R T A B S D R' T' A' B' S' D') (one : Leaves R T A B S) (other : Leaves R' T' A' B' S') (agree : Respects rel one other) where
  -- ---- the words that items begin with

  same_line : (before : List TokenKind) {s : State R T B} {s' : State R' T' B'} → States rel s s' → r.line_is one before s ≡ r.line_is other before s'
  same_line before h =
      λ i. same_next rel one other agree (before ++ kinds.Comment ∷ []) h i || same_next rel one other agree (before ++ kinds.Eol ∷ []) h i
      || same_next rel one other agree (before ++ kinds.Eof ∷ []) h i

  pub same_assigned : {s : State R T B} {s' : State R' T' B'} → States rel s s' → r.peek_assignment one s ≡ r.peek_assignment other s'
  same_assigned h = same_next rel one other agree (kinds.Identifier ∷ kinds.ColonEquals ∷ []) h

  same_path : {s : State R T B} {s' : State R' T' B'} → States rel s s' → r.begins_path one s ≡ r.begins_path other s'
  same_path h = λ i. same_next rel one other agree (kinds.StringToken ∷ []) h i || same_next rel one other agree (kinds.Identifier ∷ kinds.StringToken ∷ []) h i

  pub same_imported : {s : State R T B} {s' : State R' T' B'} → States rel s s' → r.is_imported one s ≡ r.is_imported other s'
  same_imported h = λ i. same_next rel one other agree (kinds.QuestionMark ∷ []) h i || same_path h i

  pub same_module : {s : State R T B} {s' : State R' T' B'} → States rel s s' → r.is_module one s ≡ r.is_module other s'
  same_module h =
      λ i. same_next rel one other agree (kinds.QuestionMark ∷ []) h i || same_line (kinds.Identifier ∷ []) h i
      || same_next rel one other agree (kinds.Identifier ∷ kinds.StringToken ∷ []) h i
      || same_next rel one other agree (kinds.Identifier ∷ kinds.Identifier ∷ kinds.StringToken ∷ []) h i

  pub same_set : {s : State R T B} {s' : State R' T' B'} → States rel s s' → r.is_set one s ≡ r.is_set other s'
  same_set h = λ i. same_assigned h i || same_line (kinds.Identifier ∷ []) h i

  pub same_unexported : {s : State R T B} {s' : State R' T' B'} → States rel s s'
      → r.line_is one (kinds.Identifier ∷ []) s ≡ r.line_is other (kinds.Identifier ∷ []) s'
  same_unexported h = same_line (kinds.Identifier ∷ []) h

  -- both parsers take a keyword with these next tokens, or neither does
  pub accepted_before : (word : List ℕ) (follows : State R T B → Bool) (follows' : State R' T' B' → Bool)
      → ((s : State R T B) (s' : State R' T' B') → States rel s s' → follows s ≡ follows' s') → {s : State R T B} {s' : State R' T' B'} → States rel s s'
      → Takes rel (accept_keyword_before one word follows s) (accept_keyword_before other word follows' s')
  unfolding accept_keyword_before
  accepted_before word follows follows' same h = go (accepted_word rel one other agree word h)
    where
      go : {o : Taken R T B} {o' : Taken R' T' B'} → Takes rel o o' → Takes rel (r.if_follows one follows o) (r.if_follows other follows' o')
      go a.none_taken = a.none_taken
      go (a.taken {s = s} {s' = s'} t k) = take_tested rel (follows s) (follows' s') (same s s' k) t k

  -- ---- paths of files

  mark_natural : {s : State R T B} {s' : State R' T' B'} → States rel s s' → Reads rel (λ (b b' : Bool). b ≡ b') (r.expansion_mark one s) (r.expansion_mark other s')
  unfolding r.expansion_mark
  mark_natural h =
      pick rel _ _ (accepted rel one other agree kinds.Identifier h) (both refl h) (λ m m' t k.
      by_tests rel _ _ (ap (is_word (codes "x")) (agree.see m.0 m'.0 t)) (both refl k) (neither (a.expected_keyword (agree.position m.0 m'.0 t))))

  -- a path, and the token of its literal
  pub record AlikePath (x : T × Quoted A) (x' : T' × Quoted A') : Type 0 where
    pub literal : rel.token x.0 x'.0
    pub path : AlikeQuoted rel x.1 x'.1

  quoted_natural : (expanded : Bool) (x : T × State R T B) (x' : T' × State R' T' B') → rel.token x.0 x'.0 → States rel x.1 x'.1
      → Reads rel (AlikeQuoted rel) (expressions.cooked one (r.quoted_of one expanded) (string_of expanded) x) (expressions.cooked other (r.quoted_of other expanded) (string_of expanded) x')
  quoted_natural expanded x x' t h =
      cooked_alike rel one other agree (AlikeQuoted rel) _ _ (string_of expanded) (string_asks expanded) x x' t h
      (λ l l' k. record { expanded = refl; lexeme = (one.see x.0).tok.lexeme; token = k })

  pub file_path_natural : {s : State R T B} {s' : State R' T' B'} → States rel s s' → Reads rel AlikePath (r.file_path one s) (r.file_path other s')
  unfolding r.file_path
  file_path_natural h =
      bind rel _ _ (mark_natural h) (λ m m' e k. bind rel _ _ (expected rel one other agree kinds.StringToken k) (λ l l' t j.
      bind rel {Q = AlikeQuoted rel} _ _ (subst (λ (b : Bool). Reads rel (AlikeQuoted rel) (expressions.cooked one (r.quoted_of one m.0) (string_of m.0) l)
      (expressions.cooked other (r.quoted_of other b) (string_of b) l')) e (quoted_natural m.0 l l' t j))
      (λ p p' q i. both (record { literal = t; path = q }) i)))

  pub optional_path_natural : {s : State R T B} {s' : State R' T' B'} → States rel s s'
      → Reads rel (AlikeOption (AlikeQuoted rel)) (r.optional_path one s) (r.optional_path other s')
  unfolding r.optional_path
  optional_path_natural h = by_tests rel _ _ (same_path h) (bind rel _ _ (file_path_natural h) (λ p p' q k. both (present q.path) k)) (both absent h)

  -- ---- settings

  keyword_alike : (name : T) (name' : T') → rel.token name name' → {s : State R T B} {s' : State R' T' B'} → States rel s s' → (o : Option Keyword)
      → Reads rel (λ (k k' : Keyword). k ≡ k') (r.keyword_or_none one name s o) (r.keyword_or_none other name' s' o)
  keyword_alike name name' t h None = neither (a.unknown_setting (agree.position name name' t))
  keyword_alike name name' t h (Some keyword) = both refl h

  pub keyword_natural : (name : T) (name' : T') → rel.token name name' → {s : State R T B} {s' : State R' T' B'} → States rel s s'
      → Reads rel (λ (k k' : Keyword). k ≡ k') (r.setting_keyword one name s) (r.setting_keyword other name' s')
  unfolding r.setting_keyword
  keyword_natural name name' t {s} {s'} h =
      subst (λ (x : SignificantToken). Reads rel (λ (k k' : Keyword). k ≡ k') (r.keyword_or_none one name s (keyword_named (one.see name).tok.lexeme))
      (r.keyword_or_none other name' s' (keyword_named x.tok.lexeme))) (agree.see name name' t) (keyword_alike name name' t h (keyword_named (one.see name).tok.lexeme))

  truth_of_natural : (w : T × State R T B) (w' : T' × State R' T' B') → rel.token w.0 w'.0 → States rel w.1 w'.1
      → Reads rel (AlikeValue rel) (r.truth_of one w) (r.truth_of other w')
  unfolding r.truth_of
  truth_of_natural w w' t h =
      by_tests rel _ _ (ap (is_word (codes "true")) (agree.see w.0 w'.0 t)) (both a.truth h)
      (by_tests rel _ _ (ap (is_word (codes "false")) (agree.see w.0 w'.0 t)) (both a.truth h) (neither (a.expected_keyword (agree.position w.0 w'.0 t))))

  truth_natural : {s : State R T B} {s' : State R' T' B'} → States rel s s' → Reads rel (AlikeValue rel) (r.truth one s) (r.truth other s')
  unfolding r.truth
  truth_natural h =
      pick rel _ _ (accepted rel one other agree kinds.ColonEquals h) (both a.truth h)
      (λ o o' t k. bind rel _ _ (expected rel one other agree kinds.Identifier k) truth_of_natural)

  command_natural : {first : State R T B} {first' : State R' T' B'} → States rel first first' → {es : Exprs A B} {es' : Exprs A' B'} {s : State R T B} {s' : State R' T' B'}
      → AlikeAll rel es es' → States rel s s' → Reads rel (AlikeValue rel) (r.some_command one first (es, s)) (r.some_command other first' (es', s'))
  command_natural {first} {first'} f a.none h =
      entered rel f (refused_alike rel one other agree f) (one.conditions first.run) (other.conditions first'.run) levels.Expression (agree.conditions first.run first'.run f.run)
  command_natural f (a.more e es) h = both (a.interpreter e es) h

  interpreter_natural : {s : State R T B} {s' : State R' T' B'} → States rel s s' → Reads rel (AlikeValue rel) (r.interpreter one s) (r.interpreter other s')
  unfolding r.interpreter
  interpreter_natural h =
      bind rel _ _ (expected rel one other agree kinds.BracketL h) (λ o o' t k.
      bind rel {Q = AlikeAll rel} _ _ (natural rel one other agree (expressions.Sequence kinds.BracketR o.1) (expressions.Sequence kinds.BracketR o'.1) (sequence k))
      (λ es es' e j. command_natural k e j))

  expression_value_natural : {s : State R T B} {s' : State R' T' B'} → States rel s s' → Reads rel (AlikeValue rel) (r.expression_value one s) (r.expression_value other s')
  unfolding r.expression_value
  expression_value_natural h = bind rel _ _ (value_alike rel one other agree h) (λ e e' v k. both (a.value v) k)

  module _ (view : R → LeafView A B) (view' : R' → LeafView A' B') (sees : (run : R) (run' : R') → rel.run run run' → SeesAlike rel (view run) (view' run'))
      (name : T) (name' : T') (named : rel.token name name') (keyword : Keyword) where
    plain_obeyed : (run : R) (run' : R') → rel.run run run' → {v : SettingValue A B} {v' : SettingValue A' B'} → AlikeValue rel v v'
        → Each (AlikeBroken rel.position) (value_broken (one.conditions run).current (view run) (Some PlainForm) keyword (one.position name) v)
        (value_broken (other.conditions run').current (view' run') (Some PlainForm) keyword (other.position name') v')
    plain_obeyed run run' same {v} {v'} q =
        subst (λ (current : VersionNumbers). Each (AlikeBroken rel.position) (value_broken (one.conditions run).current (view run) (Some PlainForm) keyword (one.position name) v)
        (value_broken current (view' run') (Some PlainForm) keyword (other.position name') v')) (agree.conditions run run' same).current
        (value_broken_alike rel (one.conditions run).current (view run) (view' run') (sees run run' same) keyword (agree.position name name' named) q)

    plain_natural : {s : State R T B} {s' : State R' T' B'} → States rel s s'
        → Reads rel (AlikeValue rel) (r.plain_value one view name keyword s) (r.plain_value other view' name' keyword s')
    unfolding r.plain_value
    plain_natural h =
        bind rel _ _ (expression_value_natural h) (λ v v' q k.
        bind rel _ _ (obeying_natural rel (plain_obeyed v.1.run v'.1.run k.run q) k) (λ u u' c j. both q j))

    assigned_natural : (form : Option SettingForm) {s : State R T B} {s' : State R' T' B'} → States rel s s'
        → Reads rel (AlikeValue rel) (r.assigned_value one view name keyword form s) (r.assigned_value other view' name' keyword form s')
    assigned_natural (Some ExpressionForm) h = expression_value_natural h
    assigned_natural (Some InterpreterForm) h = interpreter_natural h
    assigned_natural (Some PlainForm) h = plain_natural h
    assigned_natural (Some TruthForm) h = neither (a.unknown_setting (agree.position name name' named))
    assigned_natural None h = neither (a.unknown_setting (agree.position name name' named))

    after_operator : (form : Option SettingForm) {s : State R T B} {s' : State R' T' B'} → States rel s s'
        → Reads rel (AlikeValue rel) (expect one kinds.ColonEquals s >>= λ operator. r.assigned_value one view name keyword form operator.1)
        (expect other kinds.ColonEquals s' >>= λ operator. r.assigned_value other view' name' keyword form operator.1)
    after_operator form h = bind rel _ _ (expected rel one other agree kinds.ColonEquals h) (λ o o' t k. assigned_natural form k)

    pub setting_value_natural : (form : Option SettingForm) {s : State R T B} {s' : State R' T' B'} → States rel s s'
        → Reads rel (AlikeValue rel) (r.setting_value one view name keyword form s) (r.setting_value other view' name' keyword form s')
    setting_value_natural (Some TruthForm) h = truth_natural h
    setting_value_natural (Some ExpressionForm) h = after_operator (Some ExpressionForm) h
    setting_value_natural (Some InterpreterForm) h = after_operator (Some InterpreterForm) h
    setting_value_natural (Some PlainForm) h = after_operator (Some PlainForm) h
    setting_value_natural None h = after_operator None h

-- ---- the parameters of functions

-- where a number is wanting among the parameters of a function
module _ {R' T' A' B' S' : Type 0} (other : Leaves R' T' A' B' S') where
  -- what is read has a higher counter
  abbrev pub Higher : {X : Type 0} → Counters → Read R' T' B' (X × Counters) → Type 0
  Higher m found = IfOk found (λ y. m.bindings < y.0.1.bindings)

  -- a name lacks its number at these counters
  pub data LacksName : Counters × State R' T' B' → Counters → Type 0 where
    name_lacks : {x : Counters × State R' T' B'} → (other.has_number x.0.bindings ≡ true → IsOk (r.numbered_name other x.0 x.1)) → LacksName x x.0
    later_lacks : {x : Counters × State R' T' B'} {y : (A' × Counters) × State R' T' B'} {comma : T' × State R' T' B'} {m : Counters}
        → r.numbered_name other x.0 x.1 ≡ Ok y → accept other kinds.Comma y.1 ≡ Some comma → LacksName (y.0.1, comma.1) m → LacksName x m

  -- a counter does not fall
  abbrev Grows : Counters → Read R' T' B' (List A' × Counters) → Type 0
  Grows m found = IfOk found (λ y. m.bindings ≤ y.0.1.bindings)

  names_grow : (x : Counters × State R' T' B') → Grows x.0 (r.names other x)
  names_grow x = go (r.names other x) (names_count other x)
    where
      go : (found : Read R' T' B' (List A' × Counters)) → IfOk found (λ y. y.0.1 ≡ after_parameters x.0 y.0.0) → Grows x.0 found
      go (Ok y) is = omega (arith, ap (λ (c : Counters). c.bindings) is, parameters_bindings x.0 y.0.0)
      go (Err e) is = tt

  -- what comes after a name
  abbrev Rest : (A' × Counters) × State R' T' B' → Read R' T' B' (List A' × Counters)
  Rest name = choose (accept other kinds.Comma name.1) (r.names_end other name.0.1 name.1) (λ comma. r.names other (name.0.1, comma.1))

  rest_grows : (name : (A' × Counters) × State R' T' B') → Grows name.0.1 (Rest name)
  unfolding r.names_end
  rest_grows name =
      let Q : List A' × Counters → Type 0 = λ y. name.0.1.bindings ≤ y.1.bindings in
      after_choice (accept other kinds.Comma name.1) _ _ Q (after_all (expect other kinds.ParenR name.1) _ Q (λ closer _. omega arith))
      (λ comma. names_grow (name.0.1, comma.1))

  higher_then : (m : Counters) (done : List A') (found : Read R' T' B' (List A' × Counters)) → Higher m found → Higher m (after_numbered done found)
  unfolding after_numbered
  higher_then m done found h =
      after_all found _ (λ y. m.bindings < y.1.bindings) (λ more is. known more (λ y. m.bindings < y.0.1.bindings) is h)

  higher_after : (n : Counters) (found : Read R' T' B' (A' × Counters)) → Higher n found → Higher n (found >>= λ name. after_numbered (name.0.0 ∷ []) (Rest name))
  unfolding after_numbered
  higher_after n found h =
      let Q : List A' × Counters → Type 0 = λ y. n.bindings < y.1.bindings in
      after_all found _ Q (λ name is. after_all (Rest name) _ Q (λ more is2.
      omega (arith, known name (λ y. n.bindings < y.0.1.bindings) is h, known more (λ y. name.0.1.bindings ≤ y.0.1.bindings) is2 (rest_grows name))))

module _ {R T A B S D R' T' A' B' S' D' : Type 0} (rel : Relations R T A B S D R' T' A' B' S' D') (one : Leaves R T A B S) (other : Leaves R' T' A' B' S') (agree : Respects rel one other) where
  -- a name with its number
  record Numbered (n : Counters) (x : A × Counters) (x' : A' × Counters) : Type 0 where
    name : rel.function_parameter n.bindings x.0 x'.0
    same : x.1 ≡ x'.1
    counts : x.1 ≡ with_bindings (n.bindings + 1) n

  -- names that are alike, and the counters after them
  pub record AlikeRead (n : Counters) (x : List A × Counters) (x' : List A' × Counters) : Type 0 where
    pub names : AlikeNames rel n.bindings x.0 x'.0
    pub same : x.1 ≡ x'.1
    pub counts : x.1 ≡ after_parameters n x.0

  -- what lacks a number, the counter that is at its end, and that all that the other reads exceeds it
  pub record NoName {X : Type 0} (Lacking : Counters → Type 0) (m : Counters) (found : Read R' T' B' (X × Counters)) : Type 0 where
    pub lacks : Lacking m
    pub ends : one.has_number m.bindings ≡ false
    pub exceeds : Higher other m found

  -- the number of this name is wanting
  abbrev Unnumbered : Counters → State R' T' B' → Counters → Read R' T' B' (A' × Counters) → Type 0
  Unnumbered n s' m found = NoName (LacksName other (n, s')) m found

  abbrev In : T → (ℕ × Counters) × State R T B → Read R T B (A × Counters)
  In name number = Ok ((one.function_parameter number.1.run name number.0.0, number.0.1), number.1)

  abbrev Other : T' → (ℕ × Counters) × State R' T' B' → Read R' T' B' (A' × Counters)
  Other name number = Ok ((other.function_parameter number.1.run name number.0.0, number.0.1), number.1)

  draw_alike : (n : Counters) (name : T) (name' : T') → rel.token name name' → {s : State R T B} {s' : State R' T' B'} → States rel s s'
      → Related rel (Numbered n) (λ m found. (m ≡ n) × (one.has_number n.bindings ≡ false) × (other.has_number n.bindings ≡ true → IsOk found) × Higher other n found)
      (next_binding_number one n s >>= In name)
      (next_binding_number other n s' >>= Other name')
  unfolding next_binding_number
  draw_alike n name name' t {s} {s'} h =
      draw rel (one.has_number n.bindings) (other.has_number n.bindings) n _ _ _ _ (agree.has_number n.bindings)
      (both (record { name = agree.function_parameter s.run s'.run name name' h.run t n.bindings; same = refl; counts = refl }) h)
      (λ is _. (refl, is, (λ _. refl), omega arith)) (λ is is'. (refl, is, (λ has. cc), tt))

  drawn_natural : (n : Counters) {s : State R T B} {s' : State R' T' B'} → States rel s s'
      → Related rel (Numbered n) (λ m found. (m ≡ n) × (one.has_number n.bindings ≡ false) × (other.has_number n.bindings ≡ true → IsOk found) × Higher other n found)
      (r.numbered_name one n s) (r.numbered_name other n s')
  unfolding r.numbered_name
  drawn_natural n h = bind rel _ _ (expected rel one other agree kinds.Identifier h) (λ name name' t k. draw_alike n name.0 name'.0 t k)

  numbered_natural : (n : Counters) {s : State R T B} {s' : State R' T' B'} → States rel s s'
      → Related rel (Numbered n) (Unnumbered n s') (r.numbered_name one n s) (r.numbered_name other n s')
  numbered_natural n {s} {s'} h =
      weaken rel (λ x y q. q) (λ m k. record {
        lacks = subst (λ (c : Counters). LacksName other (n, s') c) (sym k.0) (name_lacks k.2);
        ends = subst (λ (c : Counters). one.has_number c.bindings ≡ false) (sym k.0) k.1;
        exceeds = subst (λ (c : Counters). Higher other c (r.numbered_name other n s')) (sym k.0) k.3;
      }) (drawn_natural n h)

  end_natural : (n : Counters) {s : State R T B} {s' : State R' T' B'} → States rel s s' → Reads rel (AlikeRead n) (r.names_end one n s) (r.names_end other n s')
  unfolding r.names_end
  end_natural n h =
      bind rel _ _ (expected rel one other agree kinds.ParenR h) (λ c c' t k. both (record { names = a.no_name; same = refl; counts = refl }) k)

  -- names come next, from these counters
  abbrev Lacking : Counters → State R' T' B' → Counters → Read R' T' B' (List A' × Counters) → Type 0
  Lacking n s' m found = NoName (LacksName other (n, s')) m found

  abbrev AllAlike : Counters × State R T B → Type 0
  AllAlike x = (s' : State R' T' B') → States rel x.1 s' → Related rel (AlikeRead x.0) (Lacking x.0 s') (r.names one x) (r.names other (x.0, s'))

  rest_alike : (start : State R T B) → ((y : Counters × State R T B) → length y.1.left < length start.left → AllAlike y)
      → (n c : Counters) (x : A) (x' : A') (from : State R' T' B') {s : State R T B} {s' : State R' T' B'} → rel.function_parameter n.bindings x x'
      → c ≡ with_bindings (n.bindings + 1) n → r.numbered_name other n from ≡ Ok ((x', c), s') → length s.left < length start.left → States rel s s'
      → Related rel (AlikeRead n) (Lacking n from)
      (after_numbered (x ∷ []) (choose (accept one kinds.Comma s) (r.names_end one c s) (λ comma. r.names one (c, comma.1))))
      (after_numbered (x' ∷ []) (choose (accept other kinds.Comma s') (r.names_end other c s') (λ comma. r.names other (c, comma.1))))
  unfolding after_numbered
  rest_alike start all n c x x' from {s} {s'} q counts is less h =
      let next : Related rel (AlikeRead c) (Lacking n from) (choose (accept one kinds.Comma s) (r.names_end one c s) (λ comma. r.names one (c, comma.1)))
      (choose (accept other kinds.Comma s') (r.names_end other c s') (λ comma. r.names other (c, comma.1))) =
      pick_known rel _ _ (accepted rel one other agree kinds.Comma h) (weaken rel (λ y z k. k) (λ m never. absurd never) (end_natural c h))
      (λ p p' taken k. weaken rel (λ y z k. k) (λ m w. record { lacks = later_lacks is taken w.lacks; ends = w.ends; exceeds = w.exceeds }) (all (c, p.1)
      (omega (arith, less, each_length h.left, each_length k.left, (accepts other kinds.Comma s' p' taken).0)) p'.1 k)) in
      bind_short rel _ _ next
      (λ m w. record {
        lacks = w.lacks;
        ends = w.ends;
        exceeds = higher_then other m (x' ∷ []) (choose (accept other kinds.Comma s') (r.names_end other c s') (λ comma. r.names other (c, comma.1))) w.exceeds;
      })
      (λ y z is2 is3 k j. both (record {
        names = a.a_name q (subst (λ (c : Counters). AlikeNames rel c.bindings y.0.0 z.0.0) counts k.names);
        same = k.same;
        counts = k.counts ∙ ap (λ (c : Counters). after_parameters c y.0.0) counts;
      }) j)

  all_names : (x : Counters × State R T B) → AllAlike x
  unfolding r.names_rule
  all_names =
      by_size (λ (x : Counters × State R T B). length x.1.left) AllAlike (λ start all s' h.
      let n = start.0 in
      rw (names_is one start, names_is other (n, s'))
      (pick rel _ _ (accepted rel one other agree kinds.ParenR h)
      (bind_short rel _ _ (numbered_natural n h)
      (λ m w. record { lacks = w.lacks; ends = w.ends; exceeds = higher_after other m (r.numbered_name other n s') w.exceeds })
      (λ x x' is is' q k. subst (λ (c : Counters). r.numbered_name other n s' ≡ Ok ((x'.0.0, c), x'.1) → Related rel (AlikeRead n) (Lacking n s')
      (after_numbered (x.0.0 ∷ []) (choose (accept one kinds.Comma x.1) (r.names_end one x.0.1 x.1) (λ comma. r.names one (x.0.1, comma.1))))
      (after_numbered (x'.0.0 ∷ []) (choose (accept other kinds.Comma x'.1) (r.names_end other c x'.1) (λ comma. r.names other (c, comma.1)))))
      q.same (λ numbered. rest_alike start.1 all n x.0.1 x.0.0 x'.0.0 s' q.name q.counts numbered (past start.1 _ x (numbered_name_goes one n start.1) is).0 k) is'))
      (λ c c' t k. both (record { names = a.no_name; same = refl; counts = refl }) k)))

  -- the law
  pub names_natural : (n : Counters) {s : State R T B} {s' : State R' T' B'} → States rel s s'
      → Related rel (AlikeRead n) (NoName (LacksName other (n, s'))) (r.names one (n, s)) (r.names other (n, s'))
  names_natural n {s} {s'} h = all_names (n, s) s' h
