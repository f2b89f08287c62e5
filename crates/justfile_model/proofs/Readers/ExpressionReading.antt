-- The parser of expressions, one rule at a time, and the state after it.
use Rattle.std.proofs.Common.{◌≡◌, ℕ, ◌+◌, ◌*◌, ◌<◌, ◌≤◌, Bool, true, false, List, [], ◌∷◌, length, Option, Some, None, Ok, Err, IfOk, refl, arith, ◌∙◌, codes}
use Rattle.justfile_vocabulary.specs.declared.token_kind.TokenKind.{TokenKind}
use Rattle.justfile_vocabulary.specs.declared.token_kind.TokenKind.TheVariants as kinds
use Rattle.justfile_model.specs.declared.level.Level.{Level}
use Rattle.justfile_model.specs.declared.level.Level.TheVariants as levels
use Rattle.justfile_vocabulary.specs.declared.list_feature.ListFeature.TheVariants as features
use Rattle.justfile_model.specs.declared.operator.Operator.{Operator}
use Rattle.justfile_model.specs.Grammars.Expressions.{ends_open}
use Rattle.justfile_model.specs.Readers.ExpressionReader as r
use Rattle.justfile_model.specs.Readers.ExpressionReader.{Met, Out, Place, ReadExpr, accept_operator, assert_rule, binary_rule, braced_rule, closed, condition_rule, conditional_rule, conjunct_rule, cooked, element_rule, format_rest_rule, format_rule, format_string_rule, group_rule, is_within, list_rule, literal, name_rule, opened, otherwise_rule, part, parts_rule, read, rule, sequence_rule, size, stop_expression, value_rule}
use Rattle.justfile_model.specs.Grammars.Features.{noted_if}
use Rattle.justfile_model.specs.LiteralTexts.Literals as literals
use Rattle.justfile_model.specs.Trees.Operators.{binary, feature_of, operand, rank, right}
use Rattle.justfile_model.specs.Readers.ReaderState.{◌>>=◌, Leaves, Read, State, accept, accept_marked, accept_keyword, expect, note, with}
use Rattle.justfile_model.specs.Lists.Recursive.{below}
use Rattle.justfile_model.specs.Trees.Tree.{Expr}
use Rattle.justfile_model.proofs.Readers.ReadingSteps.{ItemRest, Found, Goes, Keeps, Past, accepts, accepts_marked, accepts_word, after_test, following, bind_alike, choose_alike, cooks, either, either_goes, expects, finds, first, first_alike, found_after, from_there, goes_after, keeps, known, mapped, operators, parts_go, past, past_then, test_alike, then, then_goes, there, weaken}
use Rattle.justfile_model.proofs.Lists.Turns.{below_smaller, recursive_is, recursive_keeps}

module _ {R T B : Type 0} where
  -- after what was opened
  closes : (k : Level) (s t : State R T B) → Past (opened k s) t → Past s (closed k t)
  closes levels.Expression s t h = (h.0, omega (arith, h.1), h.2)
  closes levels.Disjunct s t h = h
  closes _ s t h = h

  opened_length : (k : Level) (s : State R T B) → length (opened k s).left ≡ length s.left
  opened_length levels.Expression s = refl
  opened_length _ s = refl

few : (k : Level) → rank (right k) ≤ 4
few levels.Expression = omega arith
few _ = omega arith

module _ {R T A B S : Type 0} (leaves : Leaves R T A B S) where
  -- ---- what is left

  abbrev pub Advances : (x : Place R T B) → Out leaves x → Type 0
  Advances (r.At k c s) found = Goes s found
  Advances (r.Conditional w s) found = Goes s found
  Advances (r.Sequence c s) found = Goes s found
  Advances (r.FormatParts l s) found = Goes s found

  -- a note takes nothing
  noted_after : (e : Expr A B) (from : List T) (s : State R T B) → ItemRest s (r.note_uncompared leaves e from s)
  noted_after e [] s = there s
  noted_after e (t ∷ from) s = there s

  ended_keeps : (b : Bool) (e : Expr A B) (s : State R T B) → Keeps s (r.ended_by leaves b e s)
  ended_keeps false e s = there s
  ended_keeps true e s = either s (accept_keyword leaves (codes "else") s) _ _ (accepts_word leaves (codes "else") s) (there s) (λ w. tt)

  module _ (f : (x : Place R T B) → Out leaves x) (h : (x : Place R T B) → Advances x (f x)) where
    binary_goes : (k : Level) (c : Bool) (s : State R T B) → Goes s (binary_rule leaves f k c s)
    unfolding binary_rule
    binary_goes k c s = after_test (is_within (leaves.conditions s.run).limit k s) _ _ (Goes s) (λ _. inner (f (r.At (operand k) c (opened k s))) (h (r.At (operand k) c (opened k s)))) (λ _. tt)
      where
        last : (l : Expr A B × State R T B) (g : Expr A B → Expr A B) (found : ReadExpr leaves) → Past (opened k s) l.1 → Keeps l.1 found → Goes s (found >>= λ x. Ok (g x.0, closed k x.1))
        last l g (Ok x) p q = closes k s x.1 (past_then (opened k s) l.1 x.1 p q)
        last l g (Err e) p q = tt

        tail : (l : Expr A B × State R T B) → Past (opened k s) l.1 → (o : Met R T B) → ((op : Operator × T × State R T B) → o ≡ Some op → Past l.1 op.2) → Goes s (r.binary_tail leaves f k c l o)
        tail l p None t = closes k s l.1 p
        tail l p (Some op) t =
            let n = with (noted_if (feature_of op.0 c) (leaves.position op.1)) op.2 in
            last l (λ x. binary op.0 l.0 (leaves.position op.1) x) (f (r.At (right k) false n)) p (from_there l.1 n _ (weaken l.1 op.2 (t op refl)) (keeps n _ (h (r.At (right k) false n))))

        inner : (found : ReadExpr leaves) → Goes (opened k s) found → Goes s (found >>= λ l. r.binary_tail leaves f k c l (accept_operator leaves k l.1))
        inner (Ok l) p = tail l p (accept_operator leaves k l.1) (operators leaves k l.1)
        inner (Err e) p = tt

    conjunct_goes : (c : Bool) (s : State R T B) → Goes s (conjunct_rule leaves f c s)
    unfolding conjunct_rule
    conjunct_goes c s =
        either_goes s (accept_keyword leaves (codes "if") s) _ _ (accepts_word leaves (codes "if") s)
        (either_goes s (accept leaves kinds.Slash s) _ _ (accepts leaves kinds.Slash s) (binary_goes levels.Conjunct c s) (λ op. mapped op.1 _ _ (h (r.At levels.Conjunct false op.1))))
        (λ w. keeps w.1 _ (h (r.Conditional w.0 w.1)))

    condition_goes : (s : State R T B) → Goes s (condition_rule leaves f s)
    unfolding condition_rule
    condition_goes s = first s (f (r.At levels.Expression true s)) _ (h (r.At levels.Expression true s)) (λ e. noted_after e.0 s.left e.1)

    braced_goes : (s : State R T B) → Goes s (braced_rule leaves f s)
    unfolding braced_rule
    braced_goes s =
        first s (expect leaves kinds.BraceL s) _ (expects leaves kinds.BraceL s) (λ o.
        then o.1 _ _ (keeps o.1 _ (h (r.At levels.Expression false o.1))) (λ e. then e.1 _ _ (keeps e.1 _ (expects leaves kinds.BraceR e.1)) (λ x. there x.1)))

    otherwise_goes : (s : State R T B) → Goes s (otherwise_rule leaves f s)
    unfolding otherwise_rule
    otherwise_goes s =
        either_goes s (accept_keyword leaves (codes "if") s) _ _ (accepts_word leaves (codes "if") s)
        (first s (braced_rule leaves f s) _ (braced_goes s) (λ o. ended_keeps (ends_open o.0) o.0 o.1))
        (λ i. keeps i.1 _ (h (r.Conditional i.0 i.1)))

    conditional_goes : (w : T) (s : State R T B) → Goes s (conditional_rule leaves f w s)
    unfolding conditional_rule
    conditional_goes w s =
        first s (condition_rule leaves f s) _ (condition_goes s) (λ c. then c.1 (braced_rule leaves f c.1) _ (keeps c.1 _ (braced_goes c.1)) (λ b.
        either b.1 (accept_keyword leaves (codes "else") b.1) _ _ (accepts_word leaves (codes "else") b.1) (there b.1) (λ w. mapped w.1 _ _ (otherwise_goes w.1))))

    element_goes : (k : TokenKind) (s : State R T B) → Goes s (element_rule leaves f k s)
    unfolding element_rule
    element_goes k s =
        first s (f (r.At levels.Expression false s)) _ (h (r.At levels.Expression false s)) (λ e.
        either {X = Expr A B × Bool} e.1 (accept leaves kinds.Comma e.1) _ _ (accepts leaves kinds.Comma e.1)
        (then e.1 _ _ (keeps e.1 _ (expects leaves k e.1)) (λ x. there x.1))
        (λ comma. there comma.1))

    elements_keep : (k : TokenKind) (e : Expr A B) (b : Bool) (s : State R T B) → Keeps s (r.elements leaves f k e b s)
    elements_keep k e true s = there s
    elements_keep k e false s = mapped s _ _ (h (r.Sequence k s))

    sequence_goes : (k : TokenKind) (s : State R T B) → Goes s (sequence_rule leaves f k s)
    unfolding sequence_rule
    sequence_goes k s =
        either_goes s (accept leaves k s) _ _ (accepts leaves k s)
        (first s (element_rule leaves f k s) _ (element_goes k s) (λ e. elements_keep k e.0.0 e.0.1 e.1))
        (λ x. there x.1)

    parts_keep : (start : List ℕ) (leaf : A) (b : Bool) (s : State R T B) → Keeps s (r.parts leaves f start leaf b s)
    parts_keep start leaf true s = there s
    parts_keep start leaf false s = then s _ _ (keeps s _ (h (r.At levels.Expression false s))) (λ e. mapped e.1 _ _ (h (r.FormatParts start e.1)))

    parts_rule_goes : (start : List ℕ) (s : State R T B) → Goes s (parts_rule leaves f start s)
    unfolding parts_rule
    parts_rule_goes start s = first s (part leaves start s) _ (parts_go leaves start s) (λ p. parts_keep start p.0.0 p.0.1 p.1)

    rest_goes : (leaf : A) (start : List ℕ) (s : State R T B) → Goes s (format_rest_rule leaves f leaf start s)
    unfolding format_rest_rule
    rest_goes leaf start s = first s (f (r.At levels.Expression false s)) _ (h (r.At levels.Expression false s)) (λ e. mapped e.1 _ _ (h (r.FormatParts start e.1)))

    string_goes : (x : T × State R T B) → Goes x.1 (format_string_rule leaves f x)
    unfolding format_string_rule
    string_goes x = then_goes x.1 (cooked leaves (λ l. l) literals.Start x) _ (cooks leaves (λ l. l) literals.Start x) (λ start. rest_goes start.0 (leaves.see x.0).tok.lexeme start.1)

    list_goes : (s : State R T B) → Goes s (list_rule leaves f s)
    unfolding list_rule
    list_goes s = either_goes s (accept leaves kinds.BracketL s) _ _ (accepts leaves kinds.BracketL s) tt (λ op. mapped op.1 _ _ (h (r.Sequence kinds.BracketR (note leaves features.ListLiteral op.0 op.1))))

    group_goes : (s : State R T B) → Goes s (group_rule leaves f s)
    unfolding group_rule
    group_goes s =
        either_goes s (accept leaves kinds.ParenL s) _ _ (accepts leaves kinds.ParenL s) (list_goes s) (λ op.
        then op.1 _ _ (keeps op.1 _ (h (r.At levels.Expression false op.1))) (λ e. then e.1 _ _ (keeps e.1 _ (expects leaves kinds.ParenR e.1)) (λ x. there x.1)))

    name_goes : (s : State R T B) → Goes s (name_rule leaves f s)
    unfolding name_rule
    name_goes s =
        either_goes s (accept leaves kinds.Identifier s) _ _ (accepts leaves kinds.Identifier s) (group_goes s) (λ n.
        either n.1 (accept leaves kinds.ParenL n.1) _ _ (accepts leaves kinds.ParenL n.1) (there n.1) (λ op. then op.1 _ _ (keeps op.1 _ (h (r.Sequence kinds.ParenR op.1))) (λ x. there x.1)))

    assert_goes : (s : State R T B) → Goes s (assert_rule leaves f s)
    unfolding assert_rule
    assert_goes s =
        either_goes s (accept_keyword leaves (codes "assert") s) _ _ (accepts_word leaves (codes "assert") s) (name_goes s) (λ w.
        then w.1 _ _ (keeps w.1 _ (expects leaves kinds.ParenL w.1)) (λ o. then o.1 (condition_rule leaves f o.1) _ (keeps o.1 _ (condition_goes o.1)) (λ c.
        either c.1 (accept leaves kinds.Comma c.1) _ _ (accepts leaves kinds.Comma c.1)
        (then c.1 _ _ (keeps c.1 _ (expects leaves kinds.ParenR c.1)) (λ p. there p.1))
        (λ comma. then comma.1 _ _ (keeps comma.1 _ (h (r.At levels.Expression false comma.1))) (λ m. then m.1 _ _ (keeps m.1 _ (expects leaves kinds.ParenR m.1)) (λ p. there p.1))))))

    format_goes : (s : State R T B) → Goes s (format_rule leaves f s)
    unfolding format_rule
    format_goes s =
        either_goes s (accept_marked leaves (codes "f") kinds.FormatStringStart s) _ _ (accepts_marked leaves (codes "f") kinds.FormatStringStart s)
        (assert_goes s) (λ x. keeps x.1 _ (string_goes x))

    or_goes : (s : State R T B) (o : Option (Expr A B)) (t : State R T B) → Found leaves s o t → Goes s (r.literal_or leaves f o t)
    or_goes s (Some e) t h = h
    or_goes s None t h = goes_after s t _ h (format_goes t)

    value_goes : (s : State R T B) → Goes s (value_rule leaves f s)
    unfolding value_rule
    value_goes s =
        either_goes s (accept leaves kinds.Bang s) _ _ (accepts leaves kinds.Bang s) (go (literal leaves s) (finds leaves s)) (λ op.
        mapped op.1 _ _ (h (r.At levels.Value false (note leaves features.NegationOperator op.0 op.1))))
      where
        go : (found : Read R T B (Option (Expr A B))) → IfOk found (λ x. Found leaves s x.0 x.1) → Goes s (found >>= λ x. r.literal_or leaves f x.0 x.1)
        go (Ok x) k = or_goes s x.0 x.1 k
        go (Err e) k = tt

    at_goes : (k : Level) (c : Bool) (s : State R T B) → Goes s (r.at_rule leaves f k c s)
    at_goes levels.Expression c s = binary_goes levels.Expression c s
    at_goes levels.Disjunct c s = binary_goes levels.Disjunct c s
    at_goes levels.Compared c s = binary_goes levels.Compared c s
    at_goes levels.Conjunct c s = conjunct_goes c s
    at_goes levels.Value c s = value_goes s

    rule_goes : (x : Place R T B) → Advances x (rule leaves f x)
    rule_goes (r.At k c s) = at_goes k c s
    rule_goes (r.Conditional w s) = conditional_goes w s
    rule_goes (r.Sequence k s) = sequence_goes k s
    rule_goes (r.FormatParts l s) = parts_rule_goes l s

  stop_goes : (x : Place R T B) → Advances x (stop_expression leaves x)
  stop_goes (r.At k c s) = tt
  stop_goes _ = tt

  -- what is read is past where reading began, in the same run and at the same depth
  pub advances : (x : Place R T B) → Advances x (read leaves x)
  unfolding read
  advances x = recursive_keeps size (stop_expression leaves) (rule leaves) Advances stop_goes rule_goes x

  pub condition_past : (s : State R T B) → Goes s (condition_rule leaves (read leaves) s)
  condition_past = condition_goes (read leaves) advances

  pub braced_past : (s : State R T B) → Goes s (braced_rule leaves (read leaves) s)
  braced_past = braced_goes (read leaves) advances

  pub element_past : (k : TokenKind) (s : State R T B) → Goes s (element_rule leaves (read leaves) k s)
  element_past = element_goes (read leaves) advances

  -- ---- the calls inside are the parser itself

  inside : Place R T B → (y : Place R T B) → Out leaves y
  inside x = below size (stop_expression leaves) (rule leaves) x (read leaves)

  unfolded : (x : Place R T B) → read leaves x ≡ rule leaves (inside x) x
  unfolding read inside
  unfolded x = recursive_is size (stop_expression leaves) (rule leaves) x

  inside_is : (x y : Place R T B) → size y < size x → inside x y ≡ read leaves y
  unfolding inside
  inside_is x y h = below_smaller size (stop_expression leaves) (rule leaves) x (read leaves) y h

  tail_alike : (x : Place R T B) (k : Level) (c : Bool) (l : Expr A B × State R T B) (o : Met R T B)
      → ((op : Operator × T × State R T B) → o ≡ Some op → 8 * length op.2.left + 4 < size x) → r.binary_tail leaves (inside x) k c l o ≡ r.binary_tail leaves (read leaves) k c l o
  tail_alike x k c l None h = refl
  tail_alike x k c l (Some op) h =
      let next = r.At (right k) false (with (noted_if (feature_of op.0 c) (leaves.position op.1)) op.2) in
      first_alike _ _ _ (inside_is x next (omega (arith, h op refl, few k)))

  module _ (k : Level) (c : Bool) (s : State R T B) (tighter : rank (operand k) < rank k) where
    binary_alike : binary_rule leaves (inside (r.At k c s)) k c s ≡ binary_rule leaves (read leaves) k c s
    unfolding binary_rule
    binary_alike =
        let x = r.At k c s in
        let first = r.At (operand k) c (opened k s) in
        test_alike (is_within (leaves.conditions s.run).limit k s) _ _ _ _ (λ _. first_alike _ _ _ (inside_is x first (omega (arith, tighter, opened_length k s))) ∙ bind_alike (read leaves first) _ _ (λ l is.
        tail_alike x k c l (accept_operator leaves k l.1) (λ op e. omega (arith, (operators leaves k l.1 op e).0, (past (opened k s) _ l (advances first) is).0, opened_length k s)))) (λ _. refl)

  conjunct_alike : (c : Bool) (s : State R T B) → conjunct_rule leaves (inside (r.At levels.Conjunct c s)) c s ≡ conjunct_rule leaves (read leaves) c s
  unfolding conjunct_rule
  conjunct_alike c s =
      let x = r.At levels.Conjunct c s in
      choose_alike (accept_keyword leaves (codes "if") s) _ _ _ _
      (λ _. choose_alike (accept leaves kinds.Slash s) _ _ _ _ (λ _. binary_alike levels.Conjunct c s (omega arith))
      (λ op e. first_alike _ _ _ (inside_is x (r.At levels.Conjunct false op.1) (omega (arith, (accepts leaves kinds.Slash s op e).0)))))
      (λ w e. inside_is x (r.Conditional w.0 w.1) (omega (arith, (accepts_word leaves (codes "if") s w e).0)))

  condition_alike : (x : Place R T B) (s : State R T B) → 8 * length s.left + 4 < size x → condition_rule leaves (inside x) s ≡ condition_rule leaves (read leaves) s
  unfolding condition_rule
  condition_alike x s h = first_alike _ _ _ (inside_is x (r.At levels.Expression true s) h)

  braced_alike : (x : Place R T B) (s : State R T B) → 8 * length s.left ≤ size x → braced_rule leaves (inside x) s ≡ braced_rule leaves (read leaves) s
  unfolding braced_rule
  braced_alike x s h =
      bind_alike (expect leaves kinds.BraceL s) _ _ (λ o e. first_alike _ _ _ (inside_is x (r.At levels.Expression false o.1) (omega (arith, h, (past s _ o (expects leaves kinds.BraceL s) e).0))))

  otherwise_alike : (x : Place R T B) (s : State R T B) → 8 * length s.left ≤ size x → otherwise_rule leaves (inside x) s ≡ otherwise_rule leaves (read leaves) s
  unfolding otherwise_rule
  otherwise_alike x s h =
      choose_alike (accept_keyword leaves (codes "if") s) _ _ _ _
      (λ _. first_alike _ _ _ (braced_alike x s h))
      (λ i e. inside_is x (r.Conditional i.0 i.1) (omega (arith, h, (accepts_word leaves (codes "if") s i e).0)))

  pub conditional_is : (w : T) (s : State R T B) → read leaves (r.Conditional w s) ≡ conditional_rule leaves (read leaves) w s
  unfolding conditional_rule
  conditional_is word s =
      let x = r.Conditional word s in
      unfolded x ∙ (first_alike _ _ _ (condition_alike x s (omega arith)) ∙ bind_alike (condition_rule leaves (read leaves) s) _ _ (λ c is.
      let one = (past s _ c (condition_past s) is).0 in
      first_alike _ _ _ (braced_alike x c.1 (omega (arith, one))) ∙ bind_alike (braced_rule leaves (read leaves) c.1) _ _ (λ b is2.
      let two = (past c.1 _ b (braced_past c.1) is2).0 in
      choose_alike (accept_keyword leaves (codes "else") b.1) _ _ _ _ (λ _. refl) (λ w e.
      first_alike _ _ _ (otherwise_alike x w.1 (omega (arith, one, two, (accepts_word leaves (codes "else") b.1 w e).0)))))))

  element_alike : (x : Place R T B) (k : TokenKind) (s : State R T B) → 8 * length s.left + 4 < size x → element_rule leaves (inside x) k s ≡ element_rule leaves (read leaves) k s
  unfolding element_rule
  element_alike x k s h = first_alike _ _ _ (inside_is x (r.At levels.Expression false s) h)

  elements_alike : (x : Place R T B) (k : TokenKind) (e : Expr A B) (b : Bool) (s : State R T B) → 8 * length s.left + 5 < size x → r.elements leaves (inside x) k e b s ≡ r.elements leaves (read leaves) k e b s
  elements_alike x k e true s h = refl
  elements_alike x k e false s h = first_alike _ _ _ (inside_is x (r.Sequence k s) h)

  pub sequence_is : (k : TokenKind) (s : State R T B) → read leaves (r.Sequence k s) ≡ sequence_rule leaves (read leaves) k s
  unfolding sequence_rule
  sequence_is k s =
      let x = r.Sequence k s in
      unfolded x ∙ choose_alike (accept leaves k s) _ _ _ _
      (λ _. first_alike _ _ _ (element_alike x k s (omega arith)) ∙ bind_alike (element_rule leaves (read leaves) k s) _ _ (λ e is.
      elements_alike x k e.0.0 e.0.1 e.1 (omega (arith, (past s _ e (element_past k s) is).0))))
      (λ _ _. refl)

  parts_alike : (x : Place R T B) (start : List ℕ) (leaf : A) (b : Bool) (s : State R T B) → 8 * length s.left + 4 < size x → r.parts leaves (inside x) start leaf b s ≡ r.parts leaves (read leaves) start leaf b s
  parts_alike x start leaf true s h = refl
  parts_alike x start leaf false s h =
      let first = r.At levels.Expression false s in
      first_alike _ _ _ (inside_is x first h) ∙ bind_alike (read leaves first) _ _ (λ e is.
      first_alike _ _ _ (inside_is x (r.FormatParts start e.1) (omega (arith, h, (past s _ e (advances first) is).0))))

  pub parts_is : (start : List ℕ) (s : State R T B) → read leaves (r.FormatParts start s) ≡ parts_rule leaves (read leaves) start s
  unfolding parts_rule
  parts_is start s =
      let x = r.FormatParts start s in
      unfolded x ∙ bind_alike (part leaves start s) _ _ (λ p is. parts_alike x start p.0.0 p.0.1 p.1 (omega (arith, (past s _ p (parts_go leaves start s) is).0)))

  module _ (x : Place R T B) (s : State R T B) (h : 8 * length s.left ≤ size x) where
    list_alike : list_rule leaves (inside x) s ≡ list_rule leaves (read leaves) s
    unfolding list_rule
    list_alike =
        choose_alike (accept leaves kinds.BracketL s) _ _ _ _ (λ _. refl)
        (λ o e. first_alike _ _ _ (inside_is x (r.Sequence kinds.BracketR (note leaves features.ListLiteral o.0 o.1)) (omega (arith, h, (accepts leaves kinds.BracketL s o e).0))))

    group_alike : group_rule leaves (inside x) s ≡ group_rule leaves (read leaves) s
    unfolding group_rule
    group_alike =
        choose_alike (accept leaves kinds.ParenL s) _ _ _ _ (λ _. list_alike)
        (λ o e. first_alike _ _ _ (inside_is x (r.At levels.Expression false o.1) (omega (arith, h, (accepts leaves kinds.ParenL s o e).0))))

    name_alike : name_rule leaves (inside x) s ≡ name_rule leaves (read leaves) s
    unfolding name_rule
    name_alike =
        choose_alike (accept leaves kinds.Identifier s) _ _ _ _ (λ _. group_alike) (λ n e. choose_alike (accept leaves kinds.ParenL n.1) _ _ _ _ (λ _. refl)
        (λ o e2. first_alike _ _ _ (inside_is x (r.Sequence kinds.ParenR o.1) (omega (arith, h, (accepts leaves kinds.Identifier s n e).0, (accepts leaves kinds.ParenL n.1 o e2).0)))))

    assert_alike : assert_rule leaves (inside x) s ≡ assert_rule leaves (read leaves) s
    unfolding assert_rule
    assert_alike = choose_alike (accept_keyword leaves (codes "assert") s) _ _ _ _ (λ _. name_alike) (λ w e. bind_alike (expect leaves kinds.ParenL w.1) _ _ (λ o e2.
        let one = (accepts_word leaves (codes "assert") s w e).0 in
        let two = (past w.1 _ o (expects leaves kinds.ParenL w.1) e2).0 in
        first_alike _ _ _ (condition_alike x o.1 (omega (arith, h, one, two))) ∙ bind_alike (condition_rule leaves (read leaves) o.1) _ _ (λ c is.
        choose_alike (accept leaves kinds.Comma c.1) _ _ _ _ (λ _. refl)
        (λ comma e3. first_alike _ _ _ (inside_is x (r.At levels.Expression false comma.1)
        (omega (arith, h, one, two, (past o.1 _ c (condition_past o.1) is).0, (accepts leaves kinds.Comma c.1 comma e3).0)))))))

    rest_alike : (leaf : A) (start : List ℕ) (t : State R T B) → length t.left < length s.left → format_rest_rule leaves (inside x) leaf start t ≡ format_rest_rule leaves (read leaves) leaf start t
    unfolding format_rest_rule
    rest_alike leaf start t less =
        let first = r.At levels.Expression false t in
        first_alike _ _ _ (inside_is x first (omega (arith, h, less))) ∙ bind_alike (read leaves first) _ _ (λ e is.
        first_alike _ _ _ (inside_is x (r.FormatParts start e.1) (omega (arith, h, less, (past t _ e (advances first) is).0))))

    string_alike : (y : T × State R T B) → length y.1.left < length s.left → format_string_rule leaves (inside x) y ≡ format_string_rule leaves (read leaves) y
    unfolding format_string_rule
    string_alike y less =
        bind_alike (cooked leaves (λ l. l) literals.Start y) _ _ (λ start is.
        rest_alike start.0 (leaves.see y.0).tok.lexeme start.1 (omega (arith, less, (following y.1 _ start (cooks leaves (λ l. l) literals.Start y) is).0)))

    format_alike : format_rule leaves (inside x) s ≡ format_rule leaves (read leaves) s
    unfolding format_rule
    format_alike =
        choose_alike (accept_marked leaves (codes "f") kinds.FormatStringStart s) _ _ _ _ (λ _. assert_alike)
        (λ y e. string_alike y (accepts_marked leaves (codes "f") kinds.FormatStringStart s y e).0)

    or_alike : (o : Option (Expr A B)) → r.literal_or leaves (inside x) o s ≡ r.literal_or leaves (read leaves) o s
    or_alike (Some e) = refl
    or_alike None = format_alike

  value_alike : (c : Bool) (s : State R T B) → value_rule leaves (inside (r.At levels.Value c s)) s ≡ value_rule leaves (read leaves) s
  unfolding value_rule
  value_alike c s =
      let x = r.At levels.Value c s in
      choose_alike (accept leaves kinds.Bang s) _ _ _ _
      (λ _. bind_alike (literal leaves s) _ _ (λ l is. or_alike x l.1 (omega (arith, (found_after leaves s l.0 l.1 (known l (λ y. Found leaves s y.0 y.1) is (finds leaves s))).0)) l.0))
      (λ b e. first_alike _ _ _ (inside_is x (r.At levels.Value false (note leaves features.NegationOperator b.0 b.1)) (omega (arith, (accepts leaves kinds.Bang s b e).0))))

  at_alike : (k : Level) (c : Bool) (s : State R T B) → r.at_rule leaves (inside (r.At k c s)) k c s ≡ r.at_rule leaves (read leaves) k c s
  at_alike levels.Expression c s = binary_alike levels.Expression c s (omega arith)
  at_alike levels.Disjunct c s = binary_alike levels.Disjunct c s (omega arith)
  at_alike levels.Compared c s = binary_alike levels.Compared c s (omega arith)
  at_alike levels.Conjunct c s = conjunct_alike c s
  at_alike levels.Value c s = value_alike c s

  pub level_is : (k : Level) (c : Bool) (s : State R T B) → read leaves (r.At k c s) ≡ r.at_rule leaves (read leaves) k c s
  level_is k c s = unfolded (r.At k c s) ∙ at_alike k c s
