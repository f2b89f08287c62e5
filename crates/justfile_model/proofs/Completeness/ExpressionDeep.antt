-- If an expression derives, where the depth limit doesn't apply to expressions that begin at some tokens, it is parsed, or the error is a
-- literal without a text or the depth at one of these tokens.
use Rattle.std.proofs.Common.{◌≡◌, ◌≢◌, ℕ, ◌+◌, ◌-◌, ◌<◌, ◌≤◌, Bool, true, false, List, [], ◌∷◌, ◌++◌, Option, Ok, refl, sym, ap, ◌∙◌, append_assoc, append-nil, codes, get_or, arith}
use Rattle.justfile_vocabulary.specs.declared.token_kind.TokenKind.{TokenKind}
use Rattle.justfile_vocabulary.specs.declared.token_kind.TokenKind.TheVariants as kinds
use Rattle.justfile_model.specs.declared.level.Level.TheVariants as levels
use Rattle.justfile_vocabulary.specs.declared.list_feature.ListFeature.TheVariants as features
use Rattle.justfile_model.specs.declared.operator.Operator.TheVariants as operators
use Rattle.justfile_model.specs.Grammars.Conditions.{Conditions}
use Rattle.justfile_model.specs.Lexing.Tok.{Tok}
use Rattle.justfile_model.specs.Lexing.SignificantTokens.{SignificantToken}
use Rattle.justfile_model.specs.Trees.Tree as tree
use Rattle.justfile_model.specs.Trees.Tree.{Expr, Exprs, Parts, itself}
use Rattle.justfile_model.specs.Grammars.Features.{Noted, noted, compared, uncompared, called}
use Rattle.justfile_model.specs.Grammars.Expressions as g
use Rattle.justfile_model.specs.Grammars.Expressions.{Tokens, IsKind, IsWord, NotWord, NotNext, IsMarked, NotMarked, PastLimitAt, ends_open, Expression, Disjunct, Compared, Conjunct, Condition, Braced, Conditional, Value, Sequence, FormatParts}
use Rattle.justfile_model.specs.LiteralTexts.Literals as literal
use Rattle.justfile_model.specs.LiteralTexts.Literals.{Literal}
use Rattle.justfile_model.specs.Grammars.Files.{expr_literals, exprs_literals, parts_literals}
use Rattle.justfile_model.specs.Readers.ReaderState.{shallower}
use Rattle.justfile_model.specs.Readers.ExpressionReader as r
use Rattle.justfile_model.specs.Readers.ExpressionReader.{assert_rule, backtick, binary_rule, braced_rule, condition_rule, conditional_rule, conjunct_rule, element_rule, ended_by, format_rest_rule, format_rule, format_string_rule, group_rule, list_rule, name_rule, otherwise_rule, part, parts_rule, read, sequence_rule, whole_format_string, literal_string, value_rule}
use Rattle.justfile_model.specs.Readers.TreeReader.{State, token_leaves}
use Rattle.justfile_model.proofs.Derivations.Beginnings.{value_starts}
use Rattle.justfile_model.proofs.Readers.ExpressionReading.{conditional_is, level_is, parts_is, sequence_is}
use Rattle.justfile_model.proofs.Sound.ExpressionSound.{ReadExpr, compared_is}
use Rattle.justfile_model.proofs.Completeness.Reaching.{Reaches, is_read, by, renoted, regrouped, then, pass, cooked, entered}
use Rattle.justfile_model.proofs.Readers.Steps.{NoMark, input, accept_taken, accept_left, word_taken, word_left, marked_taken, marked_left, operator_taken, operator_left, expect_taken, no_or, no_and, no_comparison, no_joined}

-- features noted one after the other
three : (ns ls ms rs : List (Noted Tok)) → ((ns ++ ls) ++ ms) ++ rs ≡ ns ++ ((ls ++ ms) ++ rs)
three ns ls ms rs = ap (λ (l : List (Noted Tok)). l ++ rs) (append_assoc ns ls ms) ∙ append_assoc ns (ls ++ ms) rs

-- a token of another kind isn't a word, and isn't a mark
no_word : (word : List ℕ) (t : SignificantToken) {kind : TokenKind} → IsKind kind t → kind ≢ kinds.Identifier → IsWord word t → ⊥
no_word word t e h w = h (sym e ∙ w.is_name)

no_mark : (word : List ℕ) (kind : TokenKind) (m : SignificantToken) (ts : Tokens) → (IsWord word m → ⊥) → NoMark word kind (m ∷ ts)
no_mark word kind m [] h = tt
no_mark word kind m (t ∷ ts) h = λ x. h x.marks

f_no_x : codes "f" ≢ codes "x"
f_no_x e = let first : ◌≡◌ {A = ℕ} 102 120 = ap (λ l. get_or l 0 0) e in absurd (omega arith)

no_x : (kind kind2 : TokenKind) (m t : SignificantToken) (ts : Tokens) → IsMarked (codes "f") kind m t → NoMark (codes "x") kind2 (m ∷ t ∷ ts)
no_x kind kind2 m t ts h = λ x. f_no_x (sym h.marks.spelled ∙ x.marks.spelled)

-- no literal begins the tokens, and no operator of a value
record NoLiteral (ts : Tokens) : Type 0 where
  bang : NotNext kinds.Bang ts
  string : NotNext kinds.StringToken ts
  expanded : NoMark (codes "x") kinds.StringToken ts
  single : NoMark (codes "f") kinds.StringToken ts
  format : NoMark (codes "f") kinds.FormatStringStart ts
  backtick : NotNext kinds.Backtick ts

-- a name before a token that isn't a string
named : (name t : SignificantToken) (ts : Tokens) → IsKind kinds.Identifier name → (IsKind kinds.StringToken t → ⊥) → (IsKind kinds.FormatStringStart t → ⊥) → NoLiteral (name ∷ t ∷ ts)
named name t ts kind ns nf = record {
  bang = λ e. cc;
  string = λ e. cc;
  expanded = λ x. ns x.is_string;
  single = λ x. ns x.is_string;
  format = λ x. nf x.is_string;
  backtick = λ e. cc;
}

-- a token that is none of these, and no name
record IsOther (t : SignificantToken) : Type 0 where
  bang : IsKind kinds.Bang t → ⊥
  string : IsKind kinds.StringToken t → ⊥
  backtick : IsKind kinds.Backtick t → ⊥
  name : IsKind kinds.Identifier t → ⊥

unnamed : (t : SignificantToken) (ts : Tokens) → IsOther t → NoLiteral (t ∷ ts)
unnamed t ts h = record {
  bang = h.bang;
  string = h.string;
  expanded = no_mark (codes "x") kinds.StringToken t ts (λ w. h.name w.is_name);
  single = no_mark (codes "f") kinds.StringToken t ts (λ w. h.name w.is_name);
  format = no_mark (codes "f") kinds.FormatStringStart t ts (λ w. h.name w.is_name);
  backtick = h.backtick;
}

closes : (b : Bool) (ts : Tokens) (C : Conditions) (d : ℕ) (ns : List (Noted Tok)) (e : Expr Tok Tok) → (b ≡ true → NotWord (codes "else") ts) → ended_by token_leaves b e (input C d ts ns) ≡ Ok (e, input C d ts ns)
closes false ts E d ns e h = refl
closes true ts E d ns e h = rw (word_left (codes "else") ts E d ns (h refl)) refl

module _ (MayEnter : ℕ → Option SignificantToken → Type 0) where
  -- braces aren't a word
  braced_no_word : {d : ℕ} {e : Expr Tok Tok} {fs : List (Noted Tok)} {ts rest : Tokens} → Braced itself itself MayEnter d e fs ts rest → NotWord (codes "if") ts
  braced_no_word (g.braces kind e kind2) = λ i. let n = i.is_name in cc

one_more : {limit d : ℕ} → d < limit → d + 1 ≤ limit
one_more lt = omega (arith, lt)

module _ (conditions : Conditions) (Hit : Option SignificantToken → Type 0) where
  -- the rule for what is neither literal nor `!`
  past_literals : (d : ℕ) (ts : Tokens) (ns : List (Noted Tok)) → NoLiteral ts → value_rule token_leaves (read token_leaves) (input conditions d ts ns) ≡ assert_rule token_leaves (read token_leaves) (input conditions d ts ns)
  unfolding value_rule r.literal format_rule
  past_literals d ts ns h =
      rw (
        accept_left kinds.Bang ts conditions d ns h.bang,
        accept_left kinds.StringToken ts conditions d ns h.string,
        marked_left (codes "x") kinds.StringToken ts conditions d ns h.expanded,
        marked_left (codes "f") kinds.StringToken ts conditions d ns h.single,
        accept_left kinds.Backtick ts conditions d ns h.backtick,
        marked_left (codes "f") kinds.FormatStringStart ts conditions d ns h.format,
      ) refl

  value_past : (c : Bool) (d : ℕ) (ts : Tokens) (ns : List (Noted Tok)) → NoLiteral ts → read token_leaves (r.At levels.Value c (input conditions d ts ns)) ≡ assert_rule token_leaves (read token_leaves) (input conditions d ts ns)
  value_past c d ts ns h = level_is token_leaves levels.Value c (input conditions d ts ns) ∙ past_literals d ts ns h

  -- the rule for tokens that aren't names either
  past_names : (c : Bool) (d : ℕ) (t : SignificantToken) (ts : Tokens) (ns : List (Noted Tok)) → IsOther t → read token_leaves (r.At levels.Value c (input conditions d (t ∷ ts) ns)) ≡ group_rule token_leaves (read token_leaves) (input conditions d (t ∷ ts) ns)
  unfolding assert_rule name_rule
  past_names c d t ts ns h =
      value_past c d (t ∷ ts) ns (unnamed t ts h)
      ∙ rw (word_left (codes "assert") (t ∷ ts) conditions d ns (λ w. h.name w.is_name), accept_left kinds.Identifier (t ∷ ts) conditions d ns h.name) refl

  closed_is : (e : Expr Tok Tok) (d : ℕ) (ts : Tokens) (ns : List (Noted Tok)) → ◌≡◌ {A = ReadExpr} (Ok (e, shallower (input conditions (d + 1) ts ns))) (Ok (e, input conditions d ts ns))
  closed_is e d ts ns =
      let back : (d + 1) - 1 ≡ d = omega arith in
      ap (λ (n : ℕ). Ok (e, input conditions n ts ns)) back

  -- ---- a step, where its expression is reached

  -- the element of a sequence that is the last
  last_reached : (k : TokenKind) (d : ℕ) (s : State) (e : Expr Tok Tok) (closer : SignificantToken) (rest : Tokens) (ns : List (Noted Tok)) → k ≢ kinds.Comma → IsKind k closer
      → Reaches conditions Hit (read token_leaves (r.At levels.Expression false s)) (e, input conditions d (closer ∷ rest) ns) (expr_literals e) → Reaches conditions Hit (element_rule token_leaves (read token_leaves) k s) ((e, true), input conditions d rest ns) (expr_literals e)
  unfolding element_rule
  last_reached k d s e closer rest ns nc kind h =
      pass conditions Hit _ h (rw (accept_left kinds.Comma (closer ∷ rest) conditions d ns (λ e. nc (sym kind ∙ e)), expect_taken k closer rest conditions d ns kind) refl)

  -- and one before others
  element_reached : (k : TokenKind) (d : ℕ) (s : State) (e : Expr Tok Tok) (comma : SignificantToken) (rest : Tokens) (ns : List (Noted Tok)) → IsKind kinds.Comma comma
      → Reaches conditions Hit (read token_leaves (r.At levels.Expression false s)) (e, input conditions d (comma ∷ rest) ns) (expr_literals e) → Reaches conditions Hit (element_rule token_leaves (read token_leaves) k s) ((e, false), input conditions d rest ns) (expr_literals e)
  unfolding element_rule
  element_reached k d s e comma rest ns kind h = pass conditions Hit _ h (rw (accept_taken kinds.Comma comma rest conditions d ns kind) refl)

  -- the other branch of a conditional
  branch_reached : (d : ℕ) (ts rest : Tokens) (ns os : List (Noted Tok)) (e : Expr Tok Tok) → NotWord (codes "if") ts → (ends_open e ≡ true → NotWord (codes "else") rest)
      → Reaches conditions Hit (braced_rule token_leaves (read token_leaves) (input conditions d ts ns)) (e, input conditions d rest os) (expr_literals e)
      → Reaches conditions Hit (otherwise_rule token_leaves (read token_leaves) (input conditions d ts ns)) (e, input conditions d rest os) (expr_literals e)
  unfolding otherwise_rule
  branch_reached d ts rest ns os e no_if closed h = rw (word_left (codes "if") ts conditions d ns no_if) (pass conditions Hit _ h (closes (ends_open e) rest conditions d os e closed))

  again_reached : (d : ℕ) (word : SignificantToken) (ts rest : Tokens) (ns os : List (Noted Tok)) (e : Expr Tok Tok) → IsWord (codes "if") word
      → Reaches conditions Hit (read token_leaves (r.Conditional word (input conditions d ts ns))) (e, input conditions d rest os) (expr_literals e)
      → Reaches conditions Hit (otherwise_rule token_leaves (read token_leaves) (input conditions d (word ∷ ts) ns)) (e, input conditions d rest os) (expr_literals e)
  unfolding otherwise_rule
  again_reached d word ts rest ns os e is h = rw (word_taken (codes "if") word ts conditions d ns is) h

  -- the parts of a format string
  end_reached : (start : Tok) (d : ℕ) (token : SignificantToken) (rest : Tokens) (ns : List (Noted Tok)) → IsKind kinds.FormatStringEnd token
      → Reaches conditions Hit (part token_leaves start.lexeme (input conditions d (token ∷ rest) ns)) ((token.tok, true), input conditions d rest ns) (literal.End start token.tok ∷ [])
  unfolding part
  end_reached start d token rest ns kind =
      rw (accept_left kinds.FormatStringContinue (token ∷ rest) conditions d ns (λ e. cc), expect_taken kinds.FormatStringEnd token rest conditions d ns kind)
      (cooked conditions Hit (λ l. (l, true)) (literal.End start.lexeme) (literal.End start token.tok) token refl refl)

  part_reached : (start : Tok) (d : ℕ) (token : SignificantToken) (rest : Tokens) (ns : List (Noted Tok)) → IsKind kinds.FormatStringContinue token
      → Reaches conditions Hit (part token_leaves start.lexeme (input conditions d (token ∷ rest) ns)) ((token.tok, false), input conditions d rest ns) (literal.Continue start token.tok ∷ [])
  unfolding part
  part_reached start d token rest ns kind =
      rw (accept_taken kinds.FormatStringContinue token rest conditions d ns kind) (cooked conditions Hit (λ l. (l, false)) (literal.Continue start.lexeme) (literal.Continue start token.tok) token refl refl)

  mutual
    unfolding binary_rule conjunct_rule condition_rule braced_rule conditional_rule value_rule r.literal literal_string whole_format_string backtick format_rule format_string_rule format_rest_rule assert_rule name_rule group_rule list_rule sequence_rule parts_rule

    pub expression_deep : (ns : List (Noted Tok)) (c : Bool) {d : ℕ} (within : d ≤ conditions.limit) {e : Expr Tok Tok} {fs : List (Noted Tok)} {ts rest : Tokens} → Expression itself itself (PastLimitAt conditions.limit Hit) c d e fs ts rest
        → Reaches conditions Hit (read token_leaves (r.At levels.Expression c (input conditions d ts ns))) (e, input conditions d rest (ns ++ fs)) (expr_literals e)
    expression_deep ns c {d} within {ts = ts} {rest = rest} (g.or {l = l'} {r = r'} {ls = ls} {rs = rs} {operator = op} {following = following} o l kind q) =
        renoted conditions Hit (three ns ls (noted features.LogicalOperator op.tok) rs) (by conditions Hit (level_is token_leaves levels.Expression c (input conditions d ts ns))
        (entered conditions Hit d (input conditions d ts ns) within o (λ lt. then conditions Hit _ (disjunct_deep ns c (one_more lt) l) (rw (operator_taken levels.Expression operators.Or op following conditions (d + 1) (ns ++ ls) refl kind)
        (pass conditions Hit _ (expression_deep ((ns ++ ls) ++ noted features.LogicalOperator op.tok) false (one_more lt) q) (closed_is (tree.Or l' r') d rest (((ns ++ ls) ++ noted features.LogicalOperator op.tok) ++ rs)))))))
    expression_deep ns c {d} within {e = e'} {fs = fs} {ts = ts} {rest = rest} (g.disjunct o l nx) =
        by conditions Hit (level_is token_leaves levels.Expression c (input conditions d ts ns))
        (entered conditions Hit d (input conditions d ts ns) within o (λ lt. pass conditions Hit _ (disjunct_deep ns c (one_more lt) l)
        (rw (operator_left levels.Expression rest conditions (d + 1) (ns ++ fs) (no_or rest nx)) (closed_is e' d rest (ns ++ fs)))))

    pub disjunct_deep : (ns : List (Noted Tok)) (c : Bool) {d : ℕ} (within : d ≤ conditions.limit) {e : Expr Tok Tok} {fs : List (Noted Tok)} {ts rest : Tokens} → Disjunct itself itself (PastLimitAt conditions.limit Hit) c d e fs ts rest
        → Reaches conditions Hit (read token_leaves (r.At levels.Disjunct c (input conditions d ts ns))) (e, input conditions d rest (ns ++ fs)) (expr_literals e)
    disjunct_deep ns c {d} within {ts = ts} (g.and {ls = ls} {rs = rs} {operator = op} {following = following} l kind q) =
        renoted conditions Hit (three ns ls (noted features.LogicalOperator op.tok) rs) (by conditions Hit (level_is token_leaves levels.Disjunct c (input conditions d ts ns))
        (then conditions Hit _ (compared_deep ns c within l) (rw (operator_taken levels.Disjunct operators.And op following conditions d (ns ++ ls) refl kind)
        (pass conditions Hit _ (disjunct_deep ((ns ++ ls) ++ noted features.LogicalOperator op.tok) false within q) refl))))
    disjunct_deep ns c {d} within {fs = fs} {ts = ts} {rest = rest} (g.comparison l nx) =
        by conditions Hit (level_is token_leaves levels.Disjunct c (input conditions d ts ns)) (pass conditions Hit _ (compared_deep ns c within l) (rw (operator_left levels.Disjunct rest conditions d (ns ++ fs) (no_and rest nx)) refl))

    pub compared_deep : (ns : List (Noted Tok)) (c : Bool) {d : ℕ} (within : d ≤ conditions.limit) {e : Expr Tok Tok} {fs : List (Noted Tok)} {ts rest : Tokens} → Compared itself itself (PastLimitAt conditions.limit Hit) c d e fs ts rest
        → Reaches conditions Hit (read token_leaves (r.At levels.Compared c (input conditions d ts ns))) (e, input conditions d rest (ns ++ fs)) (expr_literals e)
    compared_deep ns c {d} within {ts = ts} (g.compare {ls = ls} {rs = rs} {operator = op} {following = following} by_operator l kind q) =
        renoted conditions Hit (three ns ls (compared c op.tok) rs) (by conditions Hit (level_is token_leaves levels.Compared c (input conditions d ts ns))
        (then conditions Hit _ (conjunct_deep ns c within l) (rw (operator_taken levels.Compared (operators.Compare by_operator) op following conditions d (ns ++ ls) refl kind, compared_is conditions by_operator c op.tok)
        (pass conditions Hit _ (conjunct_deep ((ns ++ ls) ++ compared c op.tok) false within q) refl))))
    compared_deep ns c {d} within {fs = fs} {ts = ts} {rest = rest} (g.conjunct l nx) =
        by conditions Hit (level_is token_leaves levels.Compared c (input conditions d ts ns)) (pass conditions Hit _ (conjunct_deep ns c within l) (rw (operator_left levels.Compared rest conditions d (ns ++ fs) (no_comparison rest nx)) refl))

    pub conjunct_deep : (ns : List (Noted Tok)) (c : Bool) {d : ℕ} (within : d ≤ conditions.limit) {e : Expr Tok Tok} {fs : List (Noted Tok)} {ts rest : Tokens} → Conjunct itself itself (PastLimitAt conditions.limit Hit) d e fs ts rest
        → Reaches conditions Hit (read token_leaves (r.At levels.Conjunct c (input conditions d ts ns))) (e, input conditions d rest (ns ++ fs)) (expr_literals e)
    conjunct_deep ns c {d} within {ts = ts} (g.conditional {word = w} {tokens = tokens} is k) =
        by conditions Hit (level_is token_leaves levels.Conjunct c (input conditions d ts ns)) (rw (word_taken (codes "if") w tokens conditions d ns is) (conditional_deep ns within k))
    conjunct_deep ns c {d} within {ts = ts} (g.root {operator = op} {tokens = tokens} kind q) =
        by conditions Hit (level_is token_leaves levels.Conjunct c (input conditions d ts ns))
        (rw (word_left (codes "if") ts conditions d ns (no_word (codes "if") op kind (λ e. cc)), accept_taken kinds.Slash op tokens conditions d ns kind) (pass conditions Hit _ (conjunct_deep ns false within q) refl))
    conjunct_deep ns c {d} within {ts = ts} (g.join {ls = ls} {rs = rs} {operator = op} {following = following} nx l kind q) =
        renoted conditions Hit (append_assoc ns ls rs) (by conditions Hit (level_is token_leaves levels.Conjunct c (input conditions d ts ns))
        (rw (word_left (codes "if") ts conditions d ns nx, accept_left kinds.Slash ts conditions d ns (value_starts itself itself (PastLimitAt conditions.limit Hit) l).1)
        (then conditions Hit _ (value_deep ns c within l) (rw (operator_taken levels.Conjunct operators.Join op following conditions d (ns ++ ls) refl kind, append-nil (ns ++ ls))
        (pass conditions Hit _ (conjunct_deep (ns ++ ls) false within q) refl)))))
    conjunct_deep ns c {d} within {ts = ts} (g.list_concatenation {ls = ls} {rs = rs} {operator = op} {following = following} nx l kind q) =
        renoted conditions Hit (three ns ls (noted features.ListConcatenationOperator op.tok) rs) (by conditions Hit (level_is token_leaves levels.Conjunct c (input conditions d ts ns))
        (rw (word_left (codes "if") ts conditions d ns nx, accept_left kinds.Slash ts conditions d ns (value_starts itself itself (PastLimitAt conditions.limit Hit) l).1)
        (then conditions Hit _ (value_deep ns c within l) (rw (operator_taken levels.Conjunct operators.ListConcatenation op following conditions d (ns ++ ls) refl kind)
        (pass conditions Hit _ (conjunct_deep ((ns ++ ls) ++ noted features.ListConcatenationOperator op.tok) false within q) refl)))))
    conjunct_deep ns c {d} within {ts = ts} (g.concatenation {ls = ls} {rs = rs} {operator = op} {following = following} nx l kind q) =
        renoted conditions Hit (append_assoc ns ls rs) (by conditions Hit (level_is token_leaves levels.Conjunct c (input conditions d ts ns))
        (rw (word_left (codes "if") ts conditions d ns nx, accept_left kinds.Slash ts conditions d ns (value_starts itself itself (PastLimitAt conditions.limit Hit) l).1)
        (then conditions Hit _ (value_deep ns c within l) (rw (operator_taken levels.Conjunct operators.Concatenation op following conditions d (ns ++ ls) refl kind, append-nil (ns ++ ls))
        (pass conditions Hit _ (conjunct_deep (ns ++ ls) false within q) refl)))))
    conjunct_deep ns c {d} within {fs = fs} {ts = ts} {rest = rest} (g.value nx l nj) =
        by conditions Hit (level_is token_leaves levels.Conjunct c (input conditions d ts ns))
        (rw (word_left (codes "if") ts conditions d ns nx, accept_left kinds.Slash ts conditions d ns (value_starts itself itself (PastLimitAt conditions.limit Hit) l).1)
        (pass conditions Hit _ (value_deep ns c within l) (rw (operator_left levels.Conjunct rest conditions d (ns ++ fs) (no_joined rest nj)) refl)))

    pub condition_deep : (ns : List (Noted Tok)) {d : ℕ} (within : d ≤ conditions.limit) {e : Expr Tok Tok} {fs : List (Noted Tok)} {ts rest : Tokens} → Condition itself itself (PastLimitAt conditions.limit Hit) d e fs ts rest
        → Reaches conditions Hit (condition_rule token_leaves (read token_leaves) (input conditions d ts ns)) (e, input conditions d rest (ns ++ fs)) (expr_literals e)
    condition_deep ns {d} within {e = e} (g.condition {fs = fs} {first = first} q) =
        renoted conditions Hit (append_assoc ns fs (uncompared e first.tok)) (pass conditions Hit _ (expression_deep ns true within q) refl)

    pub braced_deep : (ns : List (Noted Tok)) {d : ℕ} (within : d ≤ conditions.limit) {e : Expr Tok Tok} {fs : List (Noted Tok)} {ts rest : Tokens} → Braced itself itself (PastLimitAt conditions.limit Hit) d e fs ts rest
        → Reaches conditions Hit (braced_rule token_leaves (read token_leaves) (input conditions d ts ns)) (e, input conditions d rest (ns ++ fs)) (expr_literals e)
    braced_deep ns {d} within {fs = fs} {rest = rest} (g.braces {opener = opener} {closer = closer} {following = following} kind q kind2) =
        rw (expect_taken kinds.BraceL opener following conditions d ns kind) (pass conditions Hit _ (expression_deep ns false within q) (rw (expect_taken kinds.BraceR closer rest conditions d (ns ++ fs) kind2) refl))

    pub conditional_deep : (ns : List (Noted Tok)) {d : ℕ} (within : d ≤ conditions.limit) {w : SignificantToken} {e : Expr Tok Tok} {fs : List (Noted Tok)} {ts rest : Tokens} → Conditional itself itself (PastLimitAt conditions.limit Hit) d w e fs ts rest
        → Reaches conditions Hit (read token_leaves (r.Conditional w (input conditions d ts ns))) (e, input conditions d rest (ns ++ fs)) (expr_literals e)
    conditional_deep ns {d} within {w} {ts = ts} {rest = rest} (g.if_only {cs = cs} {bs = bs} c b nx) =
        renoted conditions Hit (three ns cs bs (noted features.IfWithoutElse w.tok)) (by conditions Hit (conditional_is token_leaves w (input conditions d ts ns))
        (then conditions Hit _ (condition_deep ns within c) (pass conditions Hit _ (braced_deep (ns ++ cs) within b) (rw (word_left (codes "else") rest conditions d ((ns ++ cs) ++ bs) nx) refl))))
    conditional_deep ns {d} within {w} {ts = ts} {rest = rest} (g.if_else {c = c'} {b = b'} {o = o'} {cs = cs} {bs = bs} {os = os} {otherwise = w'} {other = other} c b is o nx) =
        renoted conditions Hit (three ns cs bs os) (regrouped conditions Hit (sym (append_assoc (expr_literals c') (expr_literals b') (expr_literals o'))) (by conditions Hit (conditional_is token_leaves w (input conditions d ts ns))
        (then conditions Hit _ (condition_deep ns within c) (then conditions Hit _ (braced_deep (ns ++ cs) within b)
        (rw (word_taken (codes "else") w' other conditions d ((ns ++ cs) ++ bs) is)
        (pass conditions Hit _ (branch_reached d other rest ((ns ++ cs) ++ bs) (((ns ++ cs) ++ bs) ++ os) o' (braced_no_word (PastLimitAt conditions.limit Hit) o) nx (braced_deep ((ns ++ cs) ++ bs) within o)) refl))))))
    conditional_deep ns {d} within {w} {ts = ts} {rest = rest} (g.else_if {c = c'} {b = b'} {o = o'} {cs = cs} {bs = bs} {os = os} {otherwise = w'} {again = again} {other = other} c b is is2 o) =
        renoted conditions Hit (three ns cs bs os) (regrouped conditions Hit (sym (append_assoc (expr_literals c') (expr_literals b') (expr_literals o'))) (by conditions Hit (conditional_is token_leaves w (input conditions d ts ns))
        (then conditions Hit _ (condition_deep ns within c) (then conditions Hit _ (braced_deep (ns ++ cs) within b)
        (rw (word_taken (codes "else") w' (again ∷ other) conditions d ((ns ++ cs) ++ bs) is)
        (pass conditions Hit _ (again_reached d again other rest ((ns ++ cs) ++ bs) (((ns ++ cs) ++ bs) ++ os) o' is2 (conditional_deep ((ns ++ cs) ++ bs) within o)) refl))))))

    pub value_deep : (ns : List (Noted Tok)) (condition : Bool) {d : ℕ} (within : d ≤ conditions.limit) {e : Expr Tok Tok} {fs : List (Noted Tok)} {ts rest : Tokens} → Value itself itself (PastLimitAt conditions.limit Hit) d e fs ts rest
        → Reaches conditions Hit (read token_leaves (r.At levels.Value condition (input conditions d ts ns))) (e, input conditions d rest (ns ++ fs)) (expr_literals e)
    value_deep ns condition {d} within {ts = ts} (g.not {fs = fs} {bang = bang} {tokens = tokens} kind v) =
        renoted conditions Hit (append_assoc ns (noted features.NegationOperator bang.tok) fs) (by conditions Hit (level_is token_leaves levels.Value condition (input conditions d ts ns))
        (rw (accept_taken kinds.Bang bang tokens conditions d ns kind) (pass conditions Hit _ (value_deep (ns ++ noted features.NegationOperator bang.tok) false within v) refl)))
    value_deep ns condition {d} within {ts = ts} {rest = rest} (g.literal {token = token} kind) =
        renoted conditions Hit (sym (append-nil ns)) (by conditions Hit (level_is token_leaves levels.Value condition (input conditions d ts ns))
        (rw (accept_left kinds.Bang ts conditions d ns (λ e. cc), accept_taken kinds.StringToken token rest conditions d ns kind) (pass conditions Hit _ (pass conditions Hit _ (cooked conditions Hit (tree.StringLiteral false) (literal.string_of false) (literal.Plain token.tok) token refl refl) refl) refl)))
    value_deep ns condition {d} within {ts = ts} {rest = rest} (g.expanded {mark = mark} {token = token} m) =
        let n = m.marks.is_name in
        renoted conditions Hit (sym (append-nil ns)) (by conditions Hit (level_is token_leaves levels.Value condition (input conditions d ts ns))
        (rw (
          accept_left kinds.Bang ts conditions d ns (λ e. cc),
          accept_left kinds.StringToken ts conditions d ns (λ e. cc),
          marked_taken (codes "x") kinds.StringToken mark token rest conditions d ns m,
        ) (pass conditions Hit _ (pass conditions Hit _ (cooked conditions Hit (tree.StringLiteral true) (literal.string_of true) (literal.Expanded token.tok) token refl refl) refl) refl)))
    value_deep ns condition {d} within {ts = ts} {rest = rest} (g.format_literal {mark = mark} {token = token} m) =
        let n = m.marks.is_name in
        renoted conditions Hit (sym (append-nil ns)) (by conditions Hit (level_is token_leaves levels.Value condition (input conditions d ts ns))
        (rw (
          accept_left kinds.Bang ts conditions d ns (λ e. cc),
          accept_left kinds.StringToken ts conditions d ns (λ e. cc),
          marked_left (codes "x") kinds.StringToken ts conditions d ns (no_x kinds.StringToken kinds.StringToken mark token rest m),
          marked_taken (codes "f") kinds.StringToken mark token rest conditions d ns m,
        ) (pass conditions Hit _ (pass conditions Hit _ (cooked conditions Hit tree.FormatLiteral literal.Single (literal.Single token.tok) token refl refl) refl) refl)))
    value_deep ns condition {d} within {ts = ts} (g.format_string {fs = fs} {gs = gs} {mark = mark} {start = start} {tokens = tokens} m q ps) =
        let n = m.marks.is_name in
        let s = m.is_string in
        renoted conditions Hit (append_assoc ns fs gs) (by conditions Hit (level_is token_leaves levels.Value condition (input conditions d ts ns))
        (rw (
          accept_left kinds.Bang ts conditions d ns (λ e. cc),
          accept_left kinds.StringToken ts conditions d ns (λ e. cc),
          marked_left (codes "x") kinds.StringToken ts conditions d ns (no_x kinds.FormatStringStart kinds.StringToken mark start tokens m),
          marked_left (codes "f") kinds.StringToken ts conditions d ns (λ x. let k = x.is_string in cc),
          accept_left kinds.Backtick ts conditions d ns (λ e. cc),
          marked_taken (codes "f") kinds.FormatStringStart mark start tokens conditions d ns m,
        )
        (then conditions Hit _ (cooked conditions Hit (λ l. l) literal.Start (literal.Start start.tok) start refl refl) (then conditions Hit _ (expression_deep ns false within q) (pass conditions Hit _ (parts_deep (ns ++ fs) start.tok within ps) refl)))))
    value_deep ns condition {d} within {ts = ts} {rest = rest} (g.backtick {token = token} kind) =
        renoted conditions Hit (sym (append-nil ns)) (by conditions Hit (level_is token_leaves levels.Value condition (input conditions d ts ns))
        (rw (
          accept_left kinds.Bang ts conditions d ns (λ e. cc),
          accept_left kinds.StringToken ts conditions d ns (λ e. cc),
          marked_left (codes "x") kinds.StringToken ts conditions d ns (no_mark (codes "x") kinds.StringToken token rest (no_word (codes "x") token kind (λ e. cc))),
          marked_left (codes "f") kinds.StringToken ts conditions d ns (no_mark (codes "f") kinds.StringToken token rest (no_word (codes "f") token kind (λ e. cc))),
          accept_taken kinds.Backtick token rest conditions d ns kind,
        ) (pass conditions Hit _ (pass conditions Hit _ (cooked conditions Hit tree.Backtick literal.Command (literal.Command token.tok) token refl refl) refl) refl)))
    value_deep ns condition {d} within {fs = fs} {ts = ts} {rest = rest} (g.assert {word = w} {opener = opener} {closer = closer} {tokens = tokens} is kind c kind2) =
        by conditions Hit (value_past condition d ts ns (named w opener tokens is.is_name (λ e. cc) (λ e. cc)))
        (rw (word_taken (codes "assert") w (opener ∷ tokens) conditions d ns is, expect_taken kinds.ParenL opener tokens conditions d ns kind)
        (pass conditions Hit _ (condition_deep ns within c) (rw (accept_left kinds.Comma (closer ∷ rest) conditions d (ns ++ fs) (λ e. cc), expect_taken kinds.ParenR closer rest conditions d (ns ++ fs) kind2) refl)))
    value_deep ns condition {d} within {ts = ts} {rest = rest} (g.assert_message {fs = fs} {gs = gs} {word = w} {opener = opener} {comma = comma} {closer = closer} {tokens = tokens} {following = following} is kind c kind2 m kind3) =
        renoted conditions Hit (append_assoc ns fs gs) (by conditions Hit (value_past condition d ts ns (named w opener tokens is.is_name (λ e. cc) (λ e. cc)))
        (rw (word_taken (codes "assert") w (opener ∷ tokens) conditions d ns is, expect_taken kinds.ParenL opener tokens conditions d ns kind)
        (then conditions Hit _ (condition_deep ns within c) (rw (accept_taken kinds.Comma comma following conditions d (ns ++ fs) kind2)
        (pass conditions Hit _ (expression_deep (ns ++ fs) false within m) (rw (expect_taken kinds.ParenR closer rest conditions d ((ns ++ fs) ++ gs) kind3) refl))))))
    value_deep ns condition {d} within {ts = ts} {rest = rest} (g.variable {name = name} kind na un nx) =
        renoted conditions Hit (sym (append-nil ns)) (by conditions Hit (value_past condition d ts ns (record { bang = λ e. cc; string = λ e. cc; expanded = un.expanded; single = un.literal; format = un.format; backtick = λ e. cc }))
        (rw (word_left (codes "assert") ts conditions d ns na, accept_taken kinds.Identifier name rest conditions d ns kind, accept_left kinds.ParenL rest conditions d ns nx) (is_read tt refl)))
    value_deep ns condition {d} within {ts = ts} (g.call {fs = fs} {name = name} {opener = opener} {tokens = tokens} kind na kind2 s) =
        renoted conditions Hit (append_assoc ns fs (called name.tok.lexeme name.tok)) (by conditions Hit (value_past condition d ts ns (named name opener tokens kind (λ e. cc) (λ e. cc)))
        (rw (word_left (codes "assert") ts conditions d ns na, accept_taken kinds.Identifier name (opener ∷ tokens) conditions d ns kind, accept_taken kinds.ParenL opener tokens conditions d ns kind2)
        (pass conditions Hit _ (sequence_deep ns within (λ e. cc) s) refl)))
    value_deep ns condition {d} within {fs = fs} {rest = rest} (g.group {opener = opener} {closer = closer} {following = following} kind q kind2) =
        by conditions Hit (past_names condition d opener following ns (record { bang = λ e. cc; string = λ e. cc; backtick = λ e. cc; name = λ e. cc }))
        (rw (accept_taken kinds.ParenL opener following conditions d ns kind) (pass conditions Hit _ (expression_deep ns false within q) (rw (expect_taken kinds.ParenR closer rest conditions d (ns ++ fs) kind2) refl)))
    value_deep ns condition {d} within {ts = ts} (g.list {fs = fs} {opener = opener} {tokens = tokens} kind s) =
        renoted conditions Hit (append_assoc ns (noted features.ListLiteral opener.tok) fs)
        (by conditions Hit (past_names condition d opener tokens ns (record { bang = λ e. cc; string = λ e. cc; backtick = λ e. cc; name = λ e. cc }))
        (rw (accept_left kinds.ParenL ts conditions d ns (λ e. cc), accept_taken kinds.BracketL opener tokens conditions d ns kind)
        (pass conditions Hit _ (sequence_deep (ns ++ noted features.ListLiteral opener.tok) within (λ e. cc) s) refl)))

    -- the closing delimiter isn't a comma
    pub sequence_deep : (ns : List (Noted Tok)) {k : TokenKind} {d : ℕ} (within : d ≤ conditions.limit) {e : Exprs Tok Tok} {fs : List (Noted Tok)} {ts rest : Tokens} → k ≢ kinds.Comma → Sequence itself itself (PastLimitAt conditions.limit Hit) k d e fs ts rest
        → Reaches conditions Hit (read token_leaves (r.Sequence k (input conditions d ts ns))) (e, input conditions d rest (ns ++ fs)) (exprs_literals e)
    sequence_deep ns {k} {d} within {ts = ts} {rest = rest} nc (g.none {closer = closer} kind) =
        renoted conditions Hit (sym (append-nil ns)) (by conditions Hit (sequence_is token_leaves k (input conditions d ts ns)) (rw (accept_taken k closer rest conditions d ns kind) (is_read tt refl)))
    sequence_deep ns {k} {d} within {fs = fs} {ts = ts} {rest = rest} nc (g.last {e = e} {closer = closer} nx q kind) =
        by conditions Hit (sequence_is token_leaves k (input conditions d ts ns)) (rw (accept_left k ts conditions d ns nx)
        (then conditions Hit _ (last_reached k d (input conditions d ts ns) e closer rest (ns ++ fs) nc kind (expression_deep ns false within q)) (is_read tt refl)))
    sequence_deep ns {k} {d} within {ts = ts} {rest = rest} nc (g.more {e = e} {fs = fs} {gs = gs} {comma = comma} {following = following} nx q kind s) =
        renoted conditions Hit (append_assoc ns fs gs) (by conditions Hit (sequence_is token_leaves k (input conditions d ts ns)) (rw (accept_left k ts conditions d ns nx)
        (then conditions Hit _ (element_reached k d (input conditions d ts ns) e comma following (ns ++ fs) kind (expression_deep ns false within q)) (pass conditions Hit _ (sequence_deep (ns ++ fs) within nc s) refl))))

    pub parts_deep : (ns : List (Noted Tok)) (start : Tok) {d : ℕ} (within : d ≤ conditions.limit) {e : Parts Tok Tok} {fs : List (Noted Tok)} {ts rest : Tokens} → FormatParts itself itself (PastLimitAt conditions.limit Hit) d e fs ts rest
        → Reaches conditions Hit (read token_leaves (r.FormatParts start.lexeme (input conditions d ts ns))) (e, input conditions d rest (ns ++ fs)) (parts_literals start e)
    parts_deep ns start {d} within {ts = ts} {rest = rest} (g.end {token = token} kind) =
        renoted conditions Hit (sym (append-nil ns)) (by conditions Hit (parts_is token_leaves start.lexeme (input conditions d ts ns))
        (pass conditions Hit _ (end_reached start d token rest ns kind) refl))
    parts_deep ns start {d} within {ts = ts} (g.next {fs = fs} {gs = gs} {token = token} {tokens = tokens} kind q ps) =
        renoted conditions Hit (append_assoc ns fs gs) (by conditions Hit (parts_is token_leaves start.lexeme (input conditions d ts ns))
        (then conditions Hit _ (part_reached start d token tokens ns kind) (then conditions Hit _ (expression_deep ns false within q) (pass conditions Hit _ (parts_deep (ns ++ fs) start within ps) refl))))
