-- Parts of items that are parsed derive. Their literals have texts, and the value of a setting breaks no rule.
use Rattle.std.proofs.Common.{◌≡◌, ℕ, Bool, true, false, ◌+◌, ◌⊎◌, inl, inr, List, [], ◌∷◌, Option, Some, None, Ok, codes, refl, sym, ap, subst, ◌∙◌}
use Rattle.std.proofs.lemmas.Bool.{or_parts}
use Rattle.justfile_vocabulary.specs.Keyword.{keyword_named, keyword_text}
use Rattle.justfile_vocabulary.specs.declared.keyword.Keyword.{Keyword}
use Rattle.justfile_vocabulary.specs.declared.token_kind.TokenKind.{TokenKind}
use Rattle.justfile_vocabulary.specs.declared.token_kind.TokenKind.TheVariants as kinds
use Rattle.justfile_vocabulary.proofs.KeywordLaws.{spells}
use Rattle.justfile_model.specs.declared.level.Level.TheVariants as levels
use Rattle.justfile_model.specs.Grammars.Conditions.{Conditions}
use Rattle.justfile_model.specs.Readers.ExpressionReader as expressions
use Rattle.justfile_model.specs.Readers.ExpressionReader.{cooked, is_within}
use Rattle.justfile_model.specs.Grammars.Expressions.{Tokens, IsKind, IsWord, NotNext, BelowLimit}
use Rattle.justfile_model.specs.Grammars.Files.{quoted_literals, setting_literals}
use Rattle.justfile_model.specs.Readers.HeaderReader.{next_binding_number}
use Rattle.justfile_model.specs.Grammars.ItemParts as g
use Rattle.justfile_model.specs.Grammars.ItemParts.{EndsLine, FilePath, Names, NoPath, NotNamedString, ValueOf}
use Rattle.justfile_model.specs.LiteralTexts.Literals.{string_of}
use Rattle.justfile_model.specs.Readers.PartReader as r
use Rattle.justfile_model.specs.Readers.PartReader.{after_numbered}
use Rattle.justfile_model.specs.Meanings.ReadAttribute.{token_view}
use Rattle.justfile_model.specs.Readers.ReaderState.{◌>>=◌, Counters, accept, at, choose, expect, is_word, next_are}
use Rattle.justfile_model.specs.Meanings.Rules.{Broken}
use Rattle.justfile_model.specs.Meanings.SettingRules.{value_broken}
use Rattle.justfile_model.specs.Grammars.Settings.{ExpressionForm, InterpreterForm, PlainForm, SettingForm, TruthForm}
use Rattle.justfile_model.specs.Lexing.SignificantTokens.{SignificantToken}
use Rattle.justfile_model.specs.Lexing.Tok.{Tok}
use Rattle.justfile_model.specs.Trees.Tree as tree
use Rattle.justfile_model.specs.Trees.Tree.{Expr, Exprs, Quoted, SettingValue, itself}
use Rattle.justfile_model.specs.Readers.TreeReader.{Read, State, Taken, token_leaves}
use Rattle.justfile_model.proofs.Sound.ExpressionSound as e
use Rattle.justfile_model.proofs.Sound.ExpressionSound.{Derived, DerivesAll, Here, after_cooked, again, begins, plainly}
use Rattle.justfile_model.proofs.Sound.HeaderSound.{Passed, if_obeyed, is_left, passed, passing}
use Rattle.justfile_model.proofs.Readers.Meets.{Met, literal_met}
use Rattle.justfile_model.proofs.Readers.ReadingSteps.{after_test, loop_has}
use Rattle.justfile_model.proofs.Readers.Steps.{AreNext, Holds, after_choose, after_expect, after_word, are_next, failed, holds, if_expected, if_next, next_taken, of_ok, one_of, read_then, true_not_false, weaken, word_is}

-- no tokens of these kinds come next
pub not_next : (kinds : List TokenKind) (s : State) → next_are token_leaves kinds s ≡ false → AreNext kinds s.left → ⊥
not_next kinds s h is = true_not_false (next_are token_leaves kinds s) (next_taken kinds s is) h

-- ---- what follows a word

-- one kind of tokens, and then the line ends
pub ends_after : (kind end : TokenKind) → (end ≡ kinds.Comment) ⊎ (end ≡ kinds.Eol) ⊎ (end ≡ kinds.Eof) → (t : SignificantToken) (ts : Tokens) → AreNext (kind ∷ end ∷ []) (t ∷ ts) → EndsLine ts
ends_after kind end o t [] h = absurd h.1
ends_after kind end (inl is) t (u ∷ ts) h = g.at_comment (h.1.0 ∙ is)
ends_after kind end (inr (inl is)) t (u ∷ ts) h = g.at_line_end (h.1.0 ∙ is)
ends_after kind end (inr (inr is)) t (u ∷ ts) h = g.at_file_end (h.1.0 ∙ is)

-- a name, and then the line ends
pub line_ends : (s : State) (t : SignificantToken) (ts : Tokens) → s.left ≡ t ∷ ts → r.line_is token_leaves (kinds.Identifier ∷ []) s ≡ true → EndsLine ts
line_ends s t ts split h =
    one_of _ _ h (λ h. one_of _ _ h (there kinds.Comment (inl refl)) (there kinds.Eol (inr (inl refl)))) (there kinds.Eof (inr (inr refl)))
  where
    there : (end : TokenKind) → (end ≡ kinds.Comment) ⊎ (end ≡ kinds.Eol) ⊎ (end ≡ kinds.Eof) → next_are token_leaves (kinds.Identifier ∷ end ∷ []) s ≡ true → EndsLine ts
    there end o is = ends_after kinds.Identifier end o t ts (subst (AreNext (kinds.Identifier ∷ end ∷ [])) split (are_next (kinds.Identifier ∷ end ∷ []) s is))

-- a word that comes next before what goes with it, or none
pub after_choose_before : {A : Type 0} (word : List ℕ) (follows : State → Bool) (s : State) (x : A) (f : SignificantToken × State → A) (P : A → Type 0) → P x
    → ((t : SignificantToken) (ts : Tokens) → s.left ≡ t ∷ ts → IsWord word t → follows (at s ts) ≡ true → P (f (t, at s ts)))
    → P (choose (r.accept_keyword_before token_leaves word follows s) x f)
unfolding r.accept_keyword_before
after_choose_before {A} word follows s x f P otherwise goes =
    let Q : Taken → Type 0 = λ o. P (choose o x f) in
    after_word word s (λ o. Q (r.if_follows token_leaves follows o)) (λ _. otherwise)
    (λ t ts split is. after_test (follows (at s ts)) _ _ Q (λ e. goes t ts split is e) (λ _. otherwise))

-- the keyword that a name spells, or an error
pub after_keyword : {X : Type 0} {P : X × State → Type 0} (name : SignificantToken) (s : State) (f : Keyword × State → Read X)
    → ((k : Keyword) → name.tok.lexeme ≡ keyword_text k → Holds P (f (k, s))) → Holds P (r.setting_keyword token_leaves name s >>= f)
unfolding r.setting_keyword
after_keyword {X} {P} name s f goes = go (keyword_named name.tok.lexeme) refl
  where
    go : (o : Option Keyword) → keyword_named name.tok.lexeme ≡ o → Holds P (r.keyword_or_none token_leaves name s o >>= f)
    go None e = failed
    go (Some k) e = goes k (spells name.tok.lexeme k e)

module _ (conditions : Conditions) where
  -- ---- paths of files

  -- a mark, or none
  data IsMark (s : State) : Bool × State → Type 0 where
    no_mark : IsMark s (false, s)
    a_mark : {t : SignificantToken} {ts : Tokens} → s.left ≡ t ∷ ts → IsWord (codes "x") t → IsMark s (true, at s ts)

  mark_sound : (s : State) → Holds (IsMark s) (r.expansion_mark token_leaves s)
  unfolding r.expansion_mark
  mark_sound s =
      if_next kinds.Identifier s _ (λ _. holds no_mark)
      (λ t ts split kind. after_test (is_word (codes "x") t) _ _ (Holds (IsMark s)) (λ is. holds (a_mark split (word_is (codes "x") t is))) (λ _. failed))

  -- a path that was read, and the token of its literal
  pub record IsFilePath (s : State) (x : (SignificantToken × Quoted Tok) × State) : Type 0 where
    pub derives : FilePath itself x.0.1 s.left x.1.left
    pub token_is : x.0.0.tok ≡ x.0.1.token
    pub met : Met conditions.expander [] (quoted_literals x.0.1) s.noted x.1.noted
    pub stays : Here conditions 0 x.1

  -- after the mark
  abbrev after_mark : Bool × State → Read (SignificantToken × Quoted Tok)
  after_mark mark = do
    literal ← expect token_leaves kinds.StringToken mark.1
    path ← cooked token_leaves (r.quoted_of token_leaves mark.0) (string_of mark.0) literal
    r.path_at token_leaves literal.0 path

  marked_sound : (s : State) (mark : Bool × State) → Here conditions 0 s → IsMark s mark → Holds (IsFilePath s) (after_mark mark)
  marked_sound s mark here no_mark =
      if_expected kinds.StringToken s _ (λ t ts split kind.
      let Q : Read (Quoted Tok) → Type 0 = λ o. Holds (IsFilePath s) (o >>= r.path_at token_leaves t) in
      after_cooked conditions (r.quoted_of token_leaves false) (string_of false) t (at s ts) Q here.1 (λ fault. failed) (λ text is. holds (record {
        derives = subst (λ (l : Tokens). FilePath itself (r.quoted_of token_leaves false t.tok) l ts) (sym split) (g.plain kind);
        token_is = refl;
        met = literal_met (record { text = text; is = is });
        stays = here;
      })))
  marked_sound s mark here (a_mark {t = m} {ts = us} split0 is_x) =
      if_expected kinds.StringToken (at s us) _ (λ t ts split kind.
      let Q : Read (Quoted Tok) → Type 0 = λ o. Holds (IsFilePath s) (o >>= r.path_at token_leaves t) in
      after_cooked conditions (r.quoted_of token_leaves true) (string_of true) t (at s ts) Q here.1 (λ fault. failed) (λ text is. holds (record {
        derives = subst (λ (l : Tokens). FilePath itself (r.quoted_of token_leaves true t.tok) l ts) (sym (split0 ∙ ap (λ (l : Tokens). m ∷ l) split)) (g.expanded is_x kind);
        token_is = refl;
        met = literal_met (record { text = text; is = is });
        stays = here;
      })))

  pub file_path_sound : (s : State) → Here conditions 0 s → Holds (IsFilePath s) (r.file_path token_leaves s)
  unfolding r.file_path
  file_path_sound s here = read_then (mark_sound s) (λ mark is. marked_sound s mark here is)

  -- no string comes next after a name
  not_named : (ts : Tokens) → (AreNext (kinds.Identifier ∷ kinds.StringToken ∷ []) ts → ⊥) → NotNamedString ts
  not_named [] h = tt
  not_named (t ∷ []) h = tt
  not_named (t ∷ u ∷ ts) h = λ is is2. h (is, (is2, tt))

  pub no_path : (s : State) → r.begins_path token_leaves s ≡ false → NoPath s.left
  no_path s h =
      let parts = or_parts (next_are token_leaves (kinds.StringToken ∷ []) s) (next_are token_leaves (kinds.Identifier ∷ kinds.StringToken ∷ []) s) h in
      record {
        unmarked = is_left kinds.StringToken s parts.0;
        marked = not_named s.left (not_next (kinds.Identifier ∷ kinds.StringToken ∷ []) s parts.1);
      }

  -- a path that was read, or none
  pub data IsOptionalPath (s : State) : Option (Quoted Tok) × State → Type 0 where
    without_path : NoPath s.left → IsOptionalPath s (None, s)
    with_path : {x : (SignificantToken × Quoted Tok) × State} → IsFilePath s x → IsOptionalPath s (Some x.0.1, x.1)

  pub optional_path_sound : (s : State) → Here conditions 0 s → Holds (IsOptionalPath s) (r.optional_path token_leaves s)
  unfolding r.optional_path
  optional_path_sound s here =
      after_test (r.begins_path token_leaves s) _ _ (Holds (IsOptionalPath s))
      (λ _. read_then (file_path_sound s here) (λ path found. holds (with_path found)))
      (λ h. holds (without_path (no_path s h)))

  -- ---- the parameters of functions

  abbrev pub NamesPlace : Type 0
  NamesPlace = Counters × State

  abbrev pub IsNames : NamesPlace → (List Tok × Counters) × State → Type 0
  IsNames x y = Passed conditions (Names itself y.0.0) x.1 y.1

  abbrev AllNames : NamesPlace → Read (List Tok × Counters) → Type 0
  AllNames x found = Here conditions 0 x.1 → Holds (IsNames x) found

  pub names_sound : (x : NamesPlace) → Here conditions 0 x.1 → Holds (IsNames x) (r.names token_leaves x)
  unfolding r.names r.names_rule r.numbered_name r.names_end next_binding_number after_numbered
  names_sound =
      loop_has (λ x. x.1) (r.names_rule token_leaves) AllNames (λ x here. failed) (λ f h x here.
      let P : Read (List Tok × Counters) → Type 0 = Holds (IsNames x) in
      if_next kinds.ParenR x.1 _
      (λ _. after_expect kinds.Identifier x.1 (λ name. next_binding_number token_leaves x.0 name.1 >>= λ number. Ok ((name.0.tok, number.0.1), number.1))
      (λ o. P (o >>= λ name. after_numbered (name.0.0 ∷ [])
      (choose (accept token_leaves kinds.Comma name.1) (r.names_end token_leaves name.0.1 name.1) (λ comma. f (name.0.1, comma.1)))))
      (λ e. failed) (λ name ts split kind.
      let n : Counters = record { bindings = x.0.bindings + 1; constants = x.0.constants; recipes = x.0.recipes } in
      let after = λ (l : Tokens). name ∷ l in
      after_choose kinds.Comma (at x.1 ts) _ _ (λ o. P (after_numbered (name.tok ∷ []) o))
      (λ _. after_expect kinds.ParenR (at x.1 ts) _ (λ o. P (after_numbered (name.tok ∷ []) o)) (λ e. failed) (λ closer us split2 kind2.
      holds (passed conditions here (split ∙ ap after split2) (g.last kind kind2))))
      (λ comma us split2 kind2. read_then (h (n, at x.1 us) here) (λ more rest.
      holds (passing conditions (split ∙ ap after split2) rest (g.more kind kind2 rest.derives))))))
      (λ closer ts split kind. holds (passed conditions here split (g.none kind))))

  -- ---- settings

  -- the value of a setting of this form
  abbrev pub IsValue : SettingForm → State → SettingValue Tok Tok × State → Type 0
  IsValue form s x = Derived conditions (ValueOf itself itself (BelowLimit conditions.limit) form x.0) (setting_literals x.0) 0 s x.1

  -- `:=` and a word
  truth_of_sound : (s : State) (operator : SignificantToken) (ts : Tokens) → Here conditions 0 s → s.left ≡ operator ∷ ts → IsKind kinds.ColonEquals operator
      → (word : SignificantToken) (us : Tokens) → ts ≡ word ∷ us → Holds (IsValue TruthForm s) (r.truth_of token_leaves (word, at s us))
  unfolding r.truth_of
  truth_of_sound s operator ts here split kind word us split2 =
      let P : Read (SettingValue Tok Tok) → Type 0 = Holds (IsValue TruthForm s) in
      let start : s.left ≡ operator ∷ word ∷ us = split ∙ ap (λ (l : Tokens). operator ∷ l) split2 in
      after_test (is_word (codes "true") word) _ _ P (λ is. holds (begins start (plainly here (g.yes kind (word_is (codes "true") word is)))))
      (λ _. after_test (is_word (codes "false") word) _ _ P (λ is. holds (begins start (plainly here (g.no kind (word_is (codes "false") word is))))) (λ _. failed))

  -- where the line ends if no `:=` comes next
  pub truth_sound : (s : State) → Here conditions 0 s → (NotNext kinds.ColonEquals s.left → EndsLine s.left) → Holds (IsValue TruthForm s) (r.truth token_leaves s)
  unfolding r.truth
  truth_sound s here ends =
      if_next kinds.ColonEquals s _ (λ not. holds (plainly here (g.bare (ends not))))
      (λ operator ts split kind. if_expected kinds.Identifier (at s ts) _ (λ word us split2 kind2. truth_of_sound s operator ts here split kind word us split2))

  -- expressions in brackets, after `:=`
  command_sound : (s : State) (operator opener : SignificantToken) (ts us : Tokens) → s.left ≡ operator ∷ ts → IsKind kinds.ColonEquals operator → ts ≡ opener ∷ us
      → IsKind kinds.BracketL opener → (es : Exprs Tok Tok) (rest : State) → DerivesAll conditions kinds.BracketR 0 (at s us) (es, rest)
      → Holds (IsValue InterpreterForm s) (r.some_command token_leaves (at s us) (es, rest))
  command_sound s operator opener ts us split kind split2 kind2 tree.none rest h =
      after_test (is_within (token_leaves.conditions s.run).limit levels.Expression (at s us)) _ _ (Holds (IsValue InterpreterForm s)) (λ _. failed) (λ _. failed)
  command_sound s operator opener ts us split kind split2 kind2 (tree.more first others) rest h =
      holds (begins (split ∙ ap (λ (l : Tokens). operator ∷ l) split2) (again h (g.interpreter kind kind2 h.derives)))

  interpreter_sound : (s : State) (operator : SignificantToken) (ts : Tokens) → Here conditions 0 s → s.left ≡ operator ∷ ts → IsKind kinds.ColonEquals operator
      → Holds (IsValue InterpreterForm s) (r.interpreter token_leaves (at s ts))
  unfolding r.interpreter
  interpreter_sound s operator ts here split kind =
      if_expected kinds.BracketL (at s ts) _ (λ opener us split2 kind2.
      read_then (of_ok (expressions.read token_leaves (expressions.Sequence kinds.BracketR (at s us))) (e.sound conditions (expressions.Sequence kinds.BracketR (at s us)) 0 here)) (λ es h.
      command_sound s operator opener ts us split kind split2 kind2 es.0 es.1 h))

  expression_sound : (s : State) (operator : SignificantToken) (ts : Tokens) → Here conditions 0 s → s.left ≡ operator ∷ ts → IsKind kinds.ColonEquals operator
      → Holds (λ x. IsValue ExpressionForm s x × IsValue PlainForm s x) (r.expression_value token_leaves (at s ts))
  unfolding r.expression_value
  expression_sound s operator ts here split kind =
      read_then (e.expression_sound conditions (at s ts) here) (λ x found.
      holds (begins split (again found (g.expression kind found.derives)), begins split (again found (g.plain kind found.derives))))

  module _ (name : SignificantToken) (keyword : Keyword) where
    -- what this value breaks
    abbrev pub breaks : SettingForm → SettingValue Tok Tok → List (Broken Tok)
    breaks form value = value_broken conditions.current (token_view conditions) (Some form) keyword name.tok value

    pub record IsSet (form : SettingForm) (s : State) (x : SettingValue Tok Tok × State) : Type 0 where
      pub derived : IsValue form s x
      pub unbroken : breaks form x.0 ≡ []

    plain_sound : (s : State) (operator : SignificantToken) (ts : Tokens) → Here conditions 0 s → s.left ≡ operator ∷ ts → IsKind kinds.ColonEquals operator
        → Holds (IsSet PlainForm s) (r.plain_value token_leaves token_view name keyword (at s ts))
    unfolding r.plain_value
    plain_sound s operator ts here split kind =
        let rules : Conditions → SettingValue Tok Tok → List (Broken Tok) = λ run value. value_broken run.current (token_view run) (Some PlainForm) keyword name.tok value in
        read_then (expression_sound s operator ts here split kind) (λ value found.
        if_obeyed (rules value.1.run value.0) value.1 _ (λ none. holds (record { derived = found.1; unbroken = subst (λ run. rules run value.0 ≡ []) found.1.stays.1 none })))

    form_sound : (form : SettingForm) (s : State) (operator : SignificantToken) (ts : Tokens) → Here conditions 0 s → s.left ≡ operator ∷ ts
        → IsKind kinds.ColonEquals operator → Holds (IsSet form s) (r.assigned_value token_leaves token_view name keyword (Some form) (at s ts))
    form_sound TruthForm s operator ts here split kind = failed
    form_sound ExpressionForm s operator ts here split kind = weaken (expression_sound s operator ts here split kind) (λ x h. record { derived = h.0; unbroken = refl })
    form_sound InterpreterForm s operator ts here split kind = weaken (interpreter_sound s operator ts here split kind) (λ x h. record { derived = h; unbroken = refl })
    form_sound PlainForm s operator ts here split kind = plain_sound s operator ts here split kind

    operator_sound : (form : SettingForm) (s : State) → Here conditions 0 s
        → Holds (IsSet form s) (expect token_leaves kinds.ColonEquals s >>= λ operator. r.assigned_value token_leaves token_view name keyword (Some form) operator.1)
    operator_sound form s here = if_expected kinds.ColonEquals s _ (λ operator ts split kind. form_sound form s operator ts here split kind)

    pub value_sound : (form : SettingForm) (s : State) → Here conditions 0 s → (NotNext kinds.ColonEquals s.left → EndsLine s.left)
        → Holds (IsSet form s) (r.setting_value token_leaves token_view name keyword (Some form) s)
    value_sound TruthForm s here ends = weaken (truth_sound s here ends) (λ x h. record { derived = h; unbroken = refl })
    value_sound ExpressionForm s here ends = operator_sound ExpressionForm s here
    value_sound InterpreterForm s here ends = operator_sound InterpreterForm s here
    value_sound PlainForm s here ends = operator_sound PlainForm s here

    -- a keyword that isn't a setting has no value
    pub no_value : (s : State) (P : SettingValue Tok Tok × State → Type 0) → Holds P (r.setting_value token_leaves token_view name keyword None s)
    no_value s P = if_expected kinds.ColonEquals s _ (λ operator ts split kind. failed)
