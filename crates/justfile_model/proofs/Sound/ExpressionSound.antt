-- Expressions that are parsed derive, with the features that the parser notes, and their literals have texts.
use Rattle.std.proofs.Common.{◌≡◌, ℕ, ◌+◌, ◌<◌, Bool, true, false, cond, nat_lt, List, [], ◌∷◌, ◌++◌, Option, Result, Ok, Err, IfOk, refl, sym, subst, ap, ◌∙◌, codes, arith}
use Rattle.std.proofs.lemmas.Bool.Decides.{nat_tests}
use Rattle.justfile_vocabulary.specs.declared.token_kind.TokenKind.{TokenKind}
use Rattle.justfile_vocabulary.specs.declared.token_kind.TokenKind.TheVariants as kinds
use Rattle.justfile_model.specs.declared.conditional_operator.ConditionalOperator.{ConditionalOperator}
use Rattle.justfile_model.specs.declared.level.Level.{Level}
use Rattle.justfile_model.specs.declared.level.Level.TheVariants as levels
use Rattle.justfile_vocabulary.specs.declared.list_feature.ListFeature.TheVariants as features
use Rattle.justfile_model.specs.declared.operator.Operator.TheVariants as operators
use Rattle.justfile_model.specs.Grammars.Conditions.{Conditions}
use Rattle.justfile_model.specs.Lexing.Tok.{Tok}
use Rattle.justfile_model.specs.Lexing.SignificantTokens.{SignificantToken}
use Rattle.justfile_model.specs.Trees.Tree as tree
use Rattle.justfile_model.specs.Trees.Tree.{Expr, Exprs, Parts, itself, lexeme}
use Rattle.justfile_model.specs.Grammars.Features.{Noted, noted, noted_if, compared, uncompared, called}
use Rattle.justfile_model.specs.Grammars.Expressions as g
use Rattle.justfile_model.specs.Grammars.Expressions.{Tokens, IsKind, IsWord, NotWord, NotNext, NotMarked, Unmarked, BelowLimit, ends_open}
use Rattle.justfile_model.specs.LiteralTexts.Literals as literal
use Rattle.justfile_model.specs.LiteralTexts.Literals.{Literal, LiteralFault, over_literal, cooked_text}
use Rattle.justfile_model.specs.Grammars.Files.{expr_literals, exprs_literals, parts_literals}
use Rattle.justfile_model.specs.Trees.Operators.{feature_of}
use Rattle.justfile_model.specs.Readers.ReaderState.{◌>>=◌, NotCooked, at, deeper, note, shallower}
use Rattle.justfile_model.specs.Readers.ExpressionReader as r
use Rattle.justfile_model.specs.Readers.ExpressionReader.{Out, Place, accept_operator, assert_rule, backtick, binary_rule, braced_rule, by_text, condition_rule, conditional_rule, conjunct_rule, cooked, element_rule, ended_by, format_rest_rule, format_rule, format_string_rule, found, group_rule, list_rule, literal_or, name_rule, note_uncompared, otherwise_rule, part, parts_rule, read, rule, sequence_rule, whole_format_string, stop_expression, literal_string, value_rule}
use Rattle.justfile_model.specs.Readers.TreeReader.{Read, ReadError, State, token_leaves}
use Rattle.justfile_model.proofs.Derivations.ExpressionProgress.{LeftOf, none_left, expression_left}
use Rattle.justfile_model.proofs.Readers.Meets.{literal_met, features_met, unnoted_met, both_met, noted_met}
use Rattle.justfile_model.proofs.Readers.ReadingSteps.{after_test, known}
use Rattle.justfile_model.proofs.Lists.Turns.{recursive_keeps}
use Rattle.justfile_model.proofs.Readers.Steps.{NoMark, Holds, after_choose, after_choose_word, after_choose_marked, after_or, after_and, after_comparison, after_joined, after_expect, failed, holds, if_expected, if_marked, if_next, if_ok, if_word, of_ok, read_then, weaken}
pub use Rattle.justfile_model.proofs.Sound.Derived.{Derived, Here, Rule, again, alone, begins, ends, followed, noting, one_literal, plainly}

abbrev pub ReadExpr : Type 0
ReadExpr = Read (Expr Tok Tok)

module _ (conditions : Conditions) where
  -- trees with their tokens, under the limit
  abbrev pub Expression : Bool → ℕ → Expr Tok Tok → List (Noted Tok) → Tokens → Tokens → Type 0
  Expression = g.Expression itself itself (BelowLimit conditions.limit)

  abbrev pub Disjunct : Bool → ℕ → Expr Tok Tok → List (Noted Tok) → Tokens → Tokens → Type 0
  Disjunct = g.Disjunct itself itself (BelowLimit conditions.limit)

  abbrev pub Compared : Bool → ℕ → Expr Tok Tok → List (Noted Tok) → Tokens → Tokens → Type 0
  Compared = g.Compared itself itself (BelowLimit conditions.limit)

  abbrev pub Conjunct : ℕ → Expr Tok Tok → List (Noted Tok) → Tokens → Tokens → Type 0
  Conjunct = g.Conjunct itself itself (BelowLimit conditions.limit)

  abbrev pub Condition : ℕ → Expr Tok Tok → List (Noted Tok) → Tokens → Tokens → Type 0
  Condition = g.Condition itself itself (BelowLimit conditions.limit)

  abbrev pub Braced : ℕ → Expr Tok Tok → List (Noted Tok) → Tokens → Tokens → Type 0
  Braced = g.Braced itself itself (BelowLimit conditions.limit)

  abbrev pub Conditional : ℕ → SignificantToken → Expr Tok Tok → List (Noted Tok) → Tokens → Tokens → Type 0
  Conditional = g.Conditional itself itself (BelowLimit conditions.limit)

  abbrev pub Value : ℕ → Expr Tok Tok → List (Noted Tok) → Tokens → Tokens → Type 0
  Value = g.Value itself itself (BelowLimit conditions.limit)

  abbrev pub Sequence : TokenKind → ℕ → Exprs Tok Tok → List (Noted Tok) → Tokens → Tokens → Type 0
  Sequence = g.Sequence itself itself (BelowLimit conditions.limit)

  abbrev pub FormatParts : ℕ → Parts Tok Tok → List (Noted Tok) → Tokens → Tokens → Type 0
  FormatParts = g.FormatParts itself itself (BelowLimit conditions.limit)

  -- an expression of a level
  abbrev pub At : Level → Bool → ℕ → Expr Tok Tok → List (Noted Tok) → Tokens → Tokens → Type 0
  At levels.Expression c d = Expression c d
  At levels.Disjunct c d = Disjunct c d
  At levels.Compared c d = Compared c d
  At levels.Conjunct c d = Conjunct d
  At levels.Value c d = Value d

  -- the other branch of a conditional, from after `else`
  pub data Otherwise (d : ℕ) : Expr Tok Tok → List (Noted Tok) → Tokens → Tokens → Type 0 where
    branch : {e : Expr Tok Tok} {fs : List (Noted Tok)} {ts rest : Tokens} → Braced d e fs ts rest → (ends_open e ≡ true → NotWord (codes "else") rest) → Otherwise d e fs ts rest
    again_if : {e : Expr Tok Tok} {fs : List (Noted Tok)} {word : SignificantToken} {ts rest : Tokens} → IsWord (codes "if") word → Conditional d word e fs ts rest → Otherwise d e fs (word ∷ ts) rest

  with_otherwise : {d : ℕ} {w : SignificantToken} {c b o : Expr Tok Tok} {cs bs os : List (Noted Tok)} {word : SignificantToken} {ts following other rest : Tokens}
      → Condition d c cs ts following → Braced d b bs following (word ∷ other) → IsWord (codes "else") word → Otherwise d o os other rest → Conditional d w (tree.IfElse c b o) (cs ++ bs ++ os) ts rest
  with_otherwise c b is (branch o closed) = g.if_else c b is o closed
  with_otherwise c b is (again_if is_if o) = g.else_if c b is is_if o

  -- an element of a sequence, and the token after it: the closing delimiter, or a comma
  pub record Element (k : TokenKind) (d : ℕ) (e : Expr Tok Tok) (is_closed : Bool) (fs : List (Noted Tok)) (ts rest : Tokens) : Type 0 where
    pub following : SignificantToken
    pub kind : IsKind (cond is_closed k kinds.Comma) following
    pub derives : Expression false d e fs ts (following ∷ rest)

  pub compared_is : (by : ConditionalOperator) (c : Bool) (token : Tok) → noted_if (feature_of (operators.Compare by) c) token ≡ compared c token
  compared_is by true token = refl
  compared_is by false token = refl

  -- after the other branch
  ended_keeps : (b : Bool) (s : State) (e : Expr Tok Tok) (P : ReadExpr → Type 0) → ((x : ReadError) → P (Err x)) → ((b ≡ true → NotWord (codes "else") s.left) → P (Ok (e, s))) → P (ended_by token_leaves b e s)
  ended_keeps false s e P fails goes = goes (λ h. cc)
  ended_keeps true s e P fails goes = after_choose_word (codes "else") s _ _ P (λ nx. goes (λ h. nx)) (λ t rest split is. fails _)

  after_text : {X : Type 0} (e : X) (x : SignificantToken × State) (text : Result (List ℕ) LiteralFault) (P : Read X → Type 0) → ((fault : LiteralFault) → P (Err (NotCooked fault x.0.tok))) → ((text' : List ℕ) → text ≡ Ok text' → P (Ok (e, x.1))) → P (by_text token_leaves (λ text. e) x text)
  after_text e x (Ok text) P fails goes = goes text refl
  after_text e x (Err fault) P fails goes = fails fault

  opens : (d : ℕ) (s : State) → Here conditions d s → Here conditions (d + 1) (deeper s)
  opens d s h = (ap (λ n. n + 1) h.0, h.1)

  closes : (d : ℕ) (s : State) → Here conditions (d + 1) s → Here conditions d (shallower s)
  closes d s h = (omega (arith, h.0), h.1)

  under : (d n limit : ℕ) → n ≡ d → limit ≡ conditions.limit → nat_lt n limit ≡ true → d < conditions.limit
  under d n limit e f lt = let below : n < limit = grind (arith, nat_tests) in omega (arith, e, f, below)

  -- a literal at a token
  pub after_cooked : {X : Type 0} (make : Tok → X) (literal : List ℕ → Literal (List ℕ)) (t : SignificantToken) (s : State) (P : Read X → Type 0) → s.run ≡ conditions
      → ((fault : LiteralFault) → P (Err (NotCooked fault t.tok))) → ((text : List ℕ) → cooked_text conditions.expander (literal t.tok.lexeme) ≡ Ok text → P (Ok (make t.tok, s))) → P (cooked token_leaves make literal (t, s))
  unfolding cooked
  after_cooked make literal t s P run fails goes =
      let l = literal t.tok.lexeme in
      after_text (make t.tok) (t, s) (cooked_text s.run.expander l) P fails (λ text is. goes text (ap (λ (c : Conditions). cooked_text c.expander l) (sym run) ∙ is))

  -- an expression by a rule
  abbrev pub Derives : (Expr Tok Tok → Rule) → ℕ → State → Expr Tok Tok × State → Type 0
  Derives rule d s x = Derived conditions (rule x.0) (expr_literals x.0) d s x.1

  abbrev pub DerivesAll : TokenKind → ℕ → State → Exprs Tok Tok × State → Type 0
  DerivesAll k d s x = Derived conditions (Sequence k d x.0) (exprs_literals x.0) d s x.1

  abbrev pub DerivesElement : TokenKind → ℕ → State → (Expr Tok Tok × Bool) × State → Type 0
  DerivesElement k d s x = Derived conditions (Element k d x.0.0 x.0.1) (expr_literals x.0.0) d s x.1

  -- the parts of a format string that begins with any token with this lexeme
  abbrev pub DerivesParts : List ℕ → ℕ → State → Parts Tok Tok × State → Type 0
  DerivesParts start d s x = (token : Tok) → token.lexeme ≡ start → Derived conditions (FormatParts d x.0) (parts_literals token x.0) d s x.1

  -- if a tree is read at the place, it derives there
  abbrev pub IsSound : (x : Place Conditions SignificantToken Tok) → Out token_leaves x → Type 0
  IsSound (r.At k c s) found = (d : ℕ) → Here conditions d s → IfOk found (Derives (At k c d) d s)
  IsSound (r.Conditional w s) found = (d : ℕ) → Here conditions d s → IfOk found (Derives (Conditional d w) d s)
  IsSound (r.Sequence k s) found = (d : ℕ) → Here conditions d s → IfOk found (DerivesAll k d s)
  IsSound (r.FormatParts start s) found = (d : ℕ) → Here conditions d s → IfOk found (DerivesParts start d s)

  module _ (f : (x : Place Conditions SignificantToken Tok) → Out token_leaves x) (h : (x : Place Conditions SignificantToken Tok) → IsSound x (f x)) where
    pub level_at : (k : Level) (c : Bool) (d : ℕ) (s : State) (x : Expr Tok Tok × State) → f (r.At k c s) ≡ Ok x → Here conditions d s → Derives (At k c d) d s x
    level_at k c d s x is here = known x (Derives (At k c d) d s) is (h (r.At k c s) d here)

    at_level : (k : Level) (c : Bool) {d : ℕ} {s : State} → Here conditions d s → Holds (Derives (At k c d) d s) (f (r.At k c s))
    at_level k c {d} {s} here = of_ok (f (r.At k c s)) (h (r.At k c s) d here)

    at_sequence : (k : TokenKind) {d : ℕ} {s : State} → Here conditions d s → Holds (DerivesAll k d s) (f (r.Sequence k s))
    at_sequence k {d} {s} here = of_ok (f (r.Sequence k s)) (h (r.Sequence k s) d here)

    at_conditional : (w : SignificantToken) {d : ℕ} {s : State} → Here conditions d s → Holds (Derives (Conditional d w) d s) (f (r.Conditional w s))
    at_conditional w {d} {s} here = of_ok (f (r.Conditional w s)) (h (r.Conditional w s) d here)

    at_parts : (start : List ℕ) {d : ℕ} {s : State} → Here conditions d s → Holds (DerivesParts start d s) (f (r.FormatParts start s))
    at_parts start {d} {s} here = of_ok (f (r.FormatParts start s)) (h (r.FormatParts start s) d here)

    expression_keeps : (c : Bool) (d : ℕ) (s : State) → Here conditions d s → Holds (Derives (Expression c d) d s) (binary_rule token_leaves f levels.Expression c s)
    unfolding binary_rule
    expression_keeps c d s here =
        let P : ReadExpr → Type 0 = Holds (Derives (Expression c d) d s) in
        after_test (nat_lt s.depth s.run.limit) _ _ P
        (λ lt. let below : d < conditions.limit = under d s.depth s.run.limit here.0 (ap (λ (c : Conditions). c.limit) here.1) lt in
        read_then (at_level levels.Disjunct c (opens d s here)) (λ l L.
        after_or l.1 (λ o. P (r.binary_tail token_leaves f levels.Expression c l o))
        (λ nx. holds (record { features = L.features; derives = g.disjunct below L.derives nx; met = L.met; stays = closes d l.1 L.stays }))
        (λ op rest split kind.
        let next = note token_leaves features.LogicalOperator op (at l.1 rest) in
        read_then (at_level levels.Expression false L.stays) (λ x R.
        holds (record {
          features = _;
          derives = g.or below (ends split L).derives kind R.derives;
          met = both_met (noted_met (noted features.LogicalOperator op.tok) L.met) R.met;
          stays = closes d x.1 R.stays;
        })))))
        (λ ge. failed)

    disjunct_keeps : (c : Bool) (d : ℕ) (s : State) → Here conditions d s → Holds (Derives (Disjunct c d) d s) (binary_rule token_leaves f levels.Disjunct c s)
    unfolding binary_rule
    disjunct_keeps c d s here =
        read_then (at_level levels.Compared c here) (λ l L.
        after_and l.1 (λ o. Holds (Derives (Disjunct c d) d s) (r.binary_tail token_leaves f levels.Disjunct c l o))
        (λ nx. holds (again L (g.comparison L.derives nx)))
        (λ op rest split kind.
        let left = noting (noted features.LogicalOperator op.tok) (ends split L) in
        read_then (at_level levels.Disjunct false L.stays)
        (λ x R. holds (followed left R (g.and left.derives kind R.derives)))))

    compared_keeps : (c : Bool) (d : ℕ) (s : State) → Here conditions d s → Holds (Derives (Compared c d) d s) (binary_rule token_leaves f levels.Compared c s)
    unfolding binary_rule
    compared_keeps c d s here =
        read_then (at_level levels.Conjunct c here) (λ l L.
        after_comparison l.1 (λ o. Holds (Derives (Compared c d) d s) (r.binary_tail token_leaves f levels.Compared c l o))
        (λ nx. holds (again L (g.conjunct L.derives nx)))
        (λ by op rest split kind.
        let fs = noted_if (feature_of (operators.Compare by) c) op.tok in
        let left = noting fs (ends split L) in
        read_then (at_level levels.Conjunct false L.stays) (λ x R.
        let V : List (Noted Tok) → Type 0 = λ gs. Compared c d (tree.Comparison l.0 by op.tok x.0) (L.features ++ gs ++ R.features) s.left x.1.left in
        holds (followed left R (subst V (sym (compared_is by c op.tok)) (g.compare by left.derives kind R.derives))))))

    joined_keeps : (c : Bool) (d : ℕ) (s : State) → Here conditions d s → NotWord (codes "if") s.left → Holds (Derives (Conjunct d) d s) (binary_rule token_leaves f levels.Conjunct c s)
    unfolding binary_rule
    joined_keeps c d s here no_if =
        read_then (at_level levels.Value c here) (λ l L.
        after_joined l.1 (λ o. Holds (Derives (Conjunct d) d s) (r.binary_tail token_leaves f levels.Conjunct c l o))
        (λ nj. holds (again L (g.value no_if L.derives nj)))
        (λ op rest split kind. read_then (at_level levels.Conjunct false L.stays) (λ x R.
        holds (record { features = _; derives = g.join no_if (ends split L).derives kind R.derives; met = both_met (unnoted_met L.met) R.met; stays = R.stays })))
        (λ op rest split kind.
        let left = noting (noted features.ListConcatenationOperator op.tok) (ends split L) in
        read_then (at_level levels.Conjunct false L.stays)
        (λ x R. holds (followed left R (g.list_concatenation no_if left.derives kind R.derives))))
        (λ op rest split kind. read_then (at_level levels.Conjunct false L.stays) (λ x R.
        holds (record { features = _; derives = g.concatenation no_if (ends split L).derives kind R.derives; met = both_met (unnoted_met L.met) R.met; stays = R.stays }))))

    conjunct_keeps : (c : Bool) (d : ℕ) (s : State) → Here conditions d s → Holds (Derives (Conjunct d) d s) (conjunct_rule token_leaves f c s)
    unfolding conjunct_rule
    conjunct_keeps c d s here =
        if_word (codes "if") s _
        (λ no_if. if_next kinds.Slash s _ (λ _. joined_keeps c d s here no_if)
        (λ op rest split kind. read_then (at_level levels.Conjunct false here) (λ x R. holds (begins split (again R (g.root kind R.derives))))))
        (λ w rest split is_if. weaken (at_conditional w here) (λ x C. begins split (again C (g.conditional is_if C.derives))))

    -- a condition that isn't a comparison
    uncompared_keeps : (d : ℕ) (s : State) (x : Expr Tok Tok × State) (from : Tokens) → s.left ≡ from → Derives (Expression true d) d s x → Derives (Condition d) d s (x.0, note_uncompared token_leaves x.0 from x.1)
    uncompared_keeps d s x [] split E = absurd (none_left (subst (λ (ts : Tokens). LeftOf x.1.left ts) split (expression_left itself itself (BelowLimit conditions.limit) E.derives)))
    uncompared_keeps d s x (t ∷ ts) split E =
        let V : Tokens → Type 0 = λ us. Expression true d x.0 E.features us x.1.left in
        begins split (again (noting (uncompared x.0 t.tok) E) (g.condition (subst V split E.derives)))

    condition_keeps : (d : ℕ) (s : State) → Here conditions d s → Holds (Derives (Condition d) d s) (condition_rule token_leaves f s)
    unfolding condition_rule
    condition_keeps d s here = read_then (at_level levels.Expression true here) (λ x E. holds (uncompared_keeps d s x s.left refl E))

    braced_keeps : (d : ℕ) (s : State) → Here conditions d s → Holds (Derives (Braced d) d s) (braced_rule token_leaves f s)
    unfolding braced_rule
    braced_keeps d s here =
        if_expected kinds.BraceL s _ (λ opener rest split kind.
        read_then (at_level levels.Expression false here) (λ x E.
        if_expected kinds.BraceR x.1 _ (λ closer following split2 kind2. holds (begins split (again E (g.braces kind (ends split2 E).derives kind2))))))

    otherwise_keeps : (d : ℕ) (s : State) → Here conditions d s → Holds (Derives (Otherwise d) d s) (otherwise_rule token_leaves f s)
    unfolding otherwise_rule
    otherwise_keeps d s here =
        if_word (codes "if") s _
        (λ no_if. read_then (braced_keeps d s here) (λ o O.
        ended_keeps (ends_open o.0) o.1 o.0 (Holds (Derives (Otherwise d) d s)) (λ e. failed) (λ no_more. holds (again O (branch O.derives no_more)))))
        (λ word rest split is_if. weaken (at_conditional word here) (λ x C. begins split (again C (again_if is_if C.derives))))

    conditional_keeps : (d : ℕ) (w : SignificantToken) (s : State) → Here conditions d s → Holds (Derives (Conditional d w) d s) (conditional_rule token_leaves f w s)
    unfolding conditional_rule
    conditional_keeps d w s here =
        read_then (condition_keeps d s here) (λ c C. read_then (braced_keeps d c.1 C.stays) (λ b B.
        if_word (codes "else") b.1 _
        (λ no_else. holds (record {
          features = _;
          derives = g.if_only C.derives B.derives no_else;
          met = noted_met (noted features.IfWithoutElse w.tok) (both_met C.met B.met);
          stays = B.stays;
        }))
        (λ word rest split is_else. read_then (otherwise_keeps d (at b.1 rest) B.stays) (λ o O. holds (record {
          features = _;
          derives = with_otherwise C.derives (ends split B).derives is_else O.derives;
          met = both_met (both_met C.met B.met) O.met;
          stays = O.stays;
        })))))

    list_keeps : (d : ℕ) (s : State) → Here conditions d s → Holds (Derives (Value d) d s) (list_rule token_leaves f s)
    unfolding list_rule
    list_keeps d s here =
        if_next kinds.BracketL s _ (λ _. failed)
        (λ opener rest split kind. read_then (at_sequence kinds.BracketR here) (λ x S.
        holds (begins split (record { features = _; derives = g.list kind S.derives; met = both_met (features_met (noted features.ListLiteral opener.tok)) S.met; stays = S.stays }))))

    group_keeps : (d : ℕ) (s : State) → Here conditions d s → Holds (Derives (Value d) d s) (group_rule token_leaves f s)
    unfolding group_rule
    group_keeps d s here =
        if_next kinds.ParenL s _ (λ _. list_keeps d s here)
        (λ opener rest split kind. read_then (at_level levels.Expression false here) (λ x E.
        if_expected kinds.ParenR x.1 _ (λ closer following split2 kind2. holds (begins split (again E (g.group kind (ends split2 E).derives kind2))))))

    -- no literal with a mark comes next
    record NoMarks (ts : Tokens) : Type 0 where
      expanded : NoMark (codes "x") kinds.StringToken ts
      literal : NoMark (codes "f") kinds.StringToken ts
      format : NoMark (codes "f") kinds.FormatStringStart ts

    unmarked : (name : SignificantToken) (rest ts : Tokens) → ts ≡ name ∷ rest → NoMarks ts → Unmarked name rest
    unmarked name rest ts split none = record {
      expanded = subst (NoMark (codes "x") kinds.StringToken) split none.expanded;
      literal = subst (NoMark (codes "f") kinds.StringToken) split none.literal;
      format = subst (NoMark (codes "f") kinds.FormatStringStart) split none.format;
    }

    name_keeps : (d : ℕ) (s : State) → Here conditions d s → NoMarks s.left → NotWord (codes "assert") s.left → Holds (Derives (Value d) d s) (name_rule token_leaves f s)
    unfolding name_rule
    name_keeps d s here none na =
        if_next kinds.Identifier s _ (λ _. group_keeps d s here)
        (λ name rest split kind.
        let not_assert : NotWord (codes "assert") (name ∷ rest) = subst (NotWord (codes "assert")) split na in
        if_next kinds.ParenL (at s rest) _
        (λ no_paren. holds (begins split (plainly here (g.variable kind not_assert (unmarked name rest s.left split none) no_paren))))
        (λ opener following split2 kind2. read_then (at_sequence kinds.ParenR here) (λ x S.
        holds (begins (split ∙ ap (λ (ts : Tokens). name ∷ ts) split2) (again (noting (called name.tok.lexeme name.tok) S) (g.call kind not_assert kind2 S.derives))))))

    assert_keeps : (d : ℕ) (s : State) → Here conditions d s → NoMarks s.left → Holds (Derives (Value d) d s) (assert_rule token_leaves f s)
    unfolding assert_rule
    assert_keeps d s here none =
        if_word (codes "assert") s _ (λ na. name_keeps d s here none na)
        (λ word t1 split is_assert. if_expected kinds.ParenL (at s t1) _ (λ opener t2 split2 kind.
        let start : s.left ≡ word ∷ opener ∷ t2 = split ∙ ap (λ (ts : Tokens). word ∷ ts) split2 in
        read_then (condition_keeps d (at s t2) here) (λ c C.
        if_next kinds.Comma c.1 _
        (λ no_comma. if_expected kinds.ParenR c.1 _ (λ closer t3 split3 kind2. holds (begins start (again C (g.assert is_assert kind (ends split3 C).derives kind2)))))
        (λ comma t3 split3 kind2. read_then (at_level levels.Expression false C.stays) (λ m M.
        if_expected kinds.ParenR m.1 _ (λ closer t4 split4 kind3.
        holds (begins start (followed C M (g.assert_message is_assert kind (ends split3 C).derives kind2 (ends split4 M).derives kind3)))))))))

    format_keeps : (d : ℕ) (s : State) → Here conditions d s → NoMark (codes "x") kinds.StringToken s.left → NoMark (codes "f") kinds.StringToken s.left → Holds (Derives (Value d) d s) (format_rule token_leaves f s)
    unfolding format_rule format_string_rule format_rest_rule
    format_keeps d s here nx nl =
        let P : ReadExpr → Type 0 = Holds (Derives (Value d) d s) in
        if_marked (codes "f") kinds.FormatStringStart s _
        (λ nf. assert_keeps d s here (record { expanded = nx; literal = nl; format = nf }))
        (λ mark start rest split marked. after_cooked (λ l. l) literal.Start start (at s rest) (λ o. P (o >>= λ y. format_rest_rule token_leaves f y.0 start.tok.lexeme y.1)) here.1 (λ fault. failed) (λ text is.
        read_then (at_level levels.Expression false here) (λ e E.
        read_then (at_parts start.tok.lexeme E.stays) (λ ps parts.
        let S = parts start.tok refl in
        holds (begins split (record {
          features = E.features ++ S.features;
          derives = g.format_string marked E.derives S.derives;
          met = both_met (literal_met (record { text = text; is = is })) (both_met E.met S.met);
          stays = S.stays;
        }))))))

    -- a value that is a literal, or another
    literal_keeps : (d : ℕ) (s : State) → Here conditions d s → Holds (Derives (Value d) d s) (r.literal token_leaves s >>= λ l. literal_or token_leaves f l.0 l.1)
    unfolding r.literal literal_string whole_format_string backtick
    literal_keeps d s here =
        let P : ReadExpr → Type 0 = Holds (Derives (Value d) d s) in
        let Q : Read (Option (Expr Tok Tok)) → Type 0 = λ o. P (o >>= λ l. literal_or token_leaves f l.0 l.1) in
        let F : ReadExpr → Type 0 = λ o. Q (o >>= found token_leaves) in
        after_choose kinds.StringToken s _ _ Q
        (λ _. after_choose_marked (codes "x") kinds.StringToken s _ _ Q
        (λ nx. after_choose_marked (codes "f") kinds.StringToken s _ _ Q
        (λ nl. after_choose kinds.Backtick s _ _ Q
        (λ _. format_keeps d s here nx nl)
        (λ token rest split kind. after_cooked tree.Backtick literal.Command token (at s rest) F here.1 (λ fault. failed) (λ text is.
        holds (begins split (one_literal here is (g.backtick kind))))))
        (λ mark token rest split marked. after_cooked tree.FormatLiteral literal.Single token (at s rest) F here.1 (λ fault. failed) (λ text is.
        holds (begins split (one_literal here is (g.format_literal marked))))))
        (λ mark token rest split marked. after_cooked (tree.StringLiteral true) (literal.string_of true) token (at s rest) F here.1 (λ fault. failed) (λ text is.
        holds (begins split (one_literal here is (g.expanded marked))))))
        (λ token rest split kind. after_cooked (tree.StringLiteral false) (literal.string_of false) token (at s rest) F here.1 (λ fault. failed) (λ text is.
        holds (begins split (one_literal here is (g.literal kind)))))

    value_keeps : (d : ℕ) (s : State) → Here conditions d s → Holds (Derives (Value d) d s) (value_rule token_leaves f s)
    unfolding value_rule
    value_keeps d s here =
        if_next kinds.Bang s _ (λ _. literal_keeps d s here)
        (λ bang rest split kind. read_then (at_level levels.Value false here) (λ x V.
        holds (begins split (record { features = _; derives = g.not kind V.derives; met = both_met (features_met (noted features.NegationOperator bang.tok)) V.met; stays = V.stays }))))

    element_keeps : (k : TokenKind) (d : ℕ) (s : State) → Here conditions d s → Holds (DerivesElement k d s) (element_rule token_leaves f k s)
    unfolding element_rule
    element_keeps k d s here =
        read_then (at_level levels.Expression false here) (λ x E.
        if_next kinds.Comma x.1 _
        (λ no_comma. if_expected k x.1 _ (λ closer rest split kind. holds (again E (record { following = closer; kind = kind; derives = (ends split E).derives }))))
        (λ comma rest split kind. holds (again E (record { following = comma; kind = kind; derives = (ends split E).derives }))))

    -- after an element
    elements_keep : (k : TokenKind) (d : ℕ) (s : State) (e : Expr Tok Tok) (is_closed : Bool) (t : State) → NotNext k s.left → Derived conditions (Element k d e is_closed) (expr_literals e) d s t
        → Holds (DerivesAll k d s) (r.elements token_leaves f k e is_closed t)
    elements_keep k d s e true t open_still E = holds (alone E (g.last open_still E.derives.derives E.derives.kind))
    elements_keep k d s e false t open_still E =
        read_then (at_sequence k E.stays) (λ y S. holds (followed E S (g.more open_still E.derives.derives E.derives.kind S.derives)))

    sequence_keeps : (k : TokenKind) (d : ℕ) (s : State) → Here conditions d s → Holds (DerivesAll k d s) (sequence_rule token_leaves f k s)
    unfolding sequence_rule
    sequence_keeps k d s here =
        if_next k s _ (λ open_still. read_then (element_keeps k d s here) (λ x E. elements_keep k d s x.0.0 x.0.1 x.1 open_still E))
        (λ closer rest split kind. holds (begins split (plainly here (g.none kind))))

    of_start : (token : Tok) (start : List ℕ) (l : List ℕ → Literal (List ℕ)) (text : List ℕ) → token.lexeme ≡ start → cooked_text conditions.expander (l start) ≡ Ok text → cooked_text conditions.expander (l token.lexeme) ≡ Ok text
    of_start token start l text same is = ap (λ (s : List ℕ). cooked_text conditions.expander (l s)) same ∙ is

    parts_keeps : (start : List ℕ) (d : ℕ) (s : State) → Here conditions d s → Holds (DerivesParts start d s) (parts_rule token_leaves f start s)
    unfolding parts_rule part
    parts_keeps start d s here =
        let P : Read (Parts Tok Tok) → Type 0 = Holds (DerivesParts start d s) in
        let Q : Read (Tok × Bool) → Type 0 = λ o. P (o >>= λ p. r.parts token_leaves f start p.0.0 p.0.1 p.1) in
        after_choose kinds.FormatStringContinue s _ _ Q
        (λ _. after_expect kinds.FormatStringEnd s _ Q (λ e. failed) (λ token rest split kind.
        after_cooked (λ l. (l, true)) (literal.End start) token (at s rest) Q here.1 (λ fault. failed) (λ text is.
        holds (λ first same. begins split (one_literal here (of_start first start (λ l. literal.End l token.tok.lexeme) text same is) (g.end kind))))))
        (λ token rest split kind. after_cooked (λ l. (l, false)) (literal.Continue start) token (at s rest) Q here.1 (λ fault. failed) (λ text is.
        read_then (at_level levels.Expression false here) (λ e E.
        read_then (at_parts start E.stays) (λ ps parts. holds (λ first same.
        let S = parts first same in
        begins split (record {
          features = E.features ++ S.features;
          derives = g.next kind E.derives S.derives;
          met = both_met (literal_met (record { text = text; is = of_start first start (λ l. literal.Continue l token.tok.lexeme) text same is })) (both_met E.met S.met);
          stays = S.stays;
        }))))))

    at_keeps : (k : Level) (c : Bool) (d : ℕ) (s : State) → Here conditions d s → Holds (Derives (At k c d) d s) (r.at_rule token_leaves f k c s)
    at_keeps levels.Expression c d s here = expression_keeps c d s here
    at_keeps levels.Disjunct c d s here = disjunct_keeps c d s here
    at_keeps levels.Compared c d s here = compared_keeps c d s here
    at_keeps levels.Conjunct c d s here = conjunct_keeps c d s here
    at_keeps levels.Value c d s here = value_keeps d s here

  rule_keeps : (f : (x : Place Conditions SignificantToken Tok) → Out token_leaves x) → ((x : Place Conditions SignificantToken Tok) → IsSound x (f x)) → (x : Place Conditions SignificantToken Tok) → IsSound x (rule token_leaves f x)
  rule_keeps f h (r.At k c s) = λ d here. if_ok (at_keeps f h k c d s here)
  rule_keeps f h (r.Conditional w s) = λ d here. if_ok (conditional_keeps f h d w s here)
  rule_keeps f h (r.Sequence k s) = λ d here. if_ok (sequence_keeps f h k d s here)
  rule_keeps f h (r.FormatParts start s) = λ d here. if_ok (parts_keeps f h start d s here)

  stops_sound : (x : Place Conditions SignificantToken Tok) → IsSound x (stop_expression token_leaves x)
  stops_sound (r.At k c s) = λ d here. tt
  stops_sound _ = λ d here. tt

  pub sound : (x : Place Conditions SignificantToken Tok) → IsSound x (read token_leaves x)
  unfolding read
  sound = recursive_keeps r.size (stop_expression token_leaves) (rule token_leaves) IsSound stops_sound rule_keeps

  -- what is read derives
  pub expression_sound : (s : State) → Here conditions 0 s → Holds (Derives (Expression false 0) 0 s) (read token_leaves (r.At levels.Expression false s))
  expression_sound s here = of_ok (read token_leaves (r.At levels.Expression false s)) (sound (r.At levels.Expression false s) 0 here)

  pub expression_derives : (c : Bool) (d : ℕ) (s : State) (x : Expr Tok Tok × State) → read token_leaves (r.At levels.Expression c s) ≡ Ok x → Here conditions d s → Derives (Expression c d) d s x
  expression_derives = level_at (read token_leaves) sound levels.Expression
