-- Parses expressions, collects their features and cooks their literals. A law states that this agrees with the grammar.
use Rattle.std.specs.Prelude.{ℕ, ◌+◌, ◌*◌, Bool, true, false, List, [], ◌∷◌, length, Option, Some, None, Result, Ok, Err, nat_lt, if◌then◌else◌, codes}
use Rattle.justfile_vocabulary.specs.declared.token_kind.TokenKind.{TokenKind}
use Rattle.justfile_vocabulary.specs.declared.token_kind.TokenKind.TheVariants as kinds
use Rattle.justfile_model.specs.declared.level.Level.{Level}
use Rattle.justfile_model.specs.declared.level.Level.TheVariants.{Expression, Disjunct, Compared, Conjunct, Value}
use Rattle.justfile_vocabulary.specs.declared.list_feature.ListFeature.TheVariants as features
use Rattle.justfile_model.specs.declared.operator.Operator.{Operator}
use Rattle.justfile_model.specs.Trees.Tree as t
use Rattle.justfile_model.specs.Trees.Tree.{Expr, Exprs, Parts}
use Rattle.justfile_model.specs.Grammars.Features.{called, noted_if, uncompared}
use Rattle.justfile_model.specs.Grammars.Expressions.{ends_open}
use Rattle.justfile_model.specs.LiteralTexts.Literals as literals
use Rattle.justfile_model.specs.LiteralTexts.Literals.{Literal, LiteralFault, cooked_text, string_of}
use Rattle.justfile_model.specs.Trees.Operators.{binary, feature_of, is_at, operand, operator_of, rank, right}
use Rattle.justfile_model.specs.Readers.ReaderState.{◌>>=◌, Leaves, NotCooked, Read, State, TooDeep, Unexpected, accept, accept_marked, accept_keyword, at, choose, deeper, expect, note, refused, shallower, with}
use Rattle.justfile_model.specs.Lists.Recursive.{recursive}

-- what is parsed next, and the state in which it is parsed
pub data Place (R T B : Type 0) : Type 0 where
  -- an expression of this level; the flag says whether it is a condition
  At : (level : Level) (condition : Bool) (s : State R T B) → Place R T B
  -- the rest of a conditional after its `if`, whose token is `word`
  Conditional : (word : T) (s : State R T B) → Place R T B
  -- a sequence of expressions, up to and including the closing delimiter
  Sequence : (closing : TokenKind) (s : State R T B) → Place R T B
  -- the rest of a format string after one of its expressions, where `start` is the string's first part
  FormatParts : (start : List ℕ) (s : State R T B) → Place R T B

abbrev pub size : {R T B : Type 0} → Place R T B → ℕ
size (At level c s) = 8 * length s.left + rank level
size (Conditional w s) = 8 * length s.left + 5
size (Sequence c s) = 8 * length s.left + 5
size (FormatParts l s) = 8 * length s.left

-- an operator, its token, and the state after it; nothing if no operator is next
abbrev pub Met : (R T B : Type 0) → Type 0
Met R T B = Option (Operator × T × State R T B)

-- depth: each expression at the loosest level is one deeper, up to the limit
module _ {R T B : Type 0} where
  abbrev pub is_within : (limit : ℕ) → Level → State R T B → Bool
  is_within limit Expression s = nat_lt s.depth limit
  is_within limit Disjunct s = true
  is_within limit Compared s = true
  is_within limit Conjunct s = true
  is_within limit Value s = true

  abbrev pub opened : Level → State R T B → State R T B
  opened Expression s = deeper s
  opened Disjunct s = s
  opened Compared s = s
  opened Conjunct s = s
  opened Value s = s

  abbrev pub closed : Level → State R T B → State R T B
  closed Expression s = shallower s
  closed Disjunct s = s
  closed Compared s = s
  closed Conjunct s = s
  closed Value s = s

module _ {R T A B S : Type 0} (leaves : Leaves R T A B S) where
  abbrev pub ReadExpr : Type 0
  ReadExpr = Read R T B (Expr A B)

  abbrev pub Out : Place R T B → Type 0
  Out (Sequence c s) = Read R T B (Exprs A B)
  Out (FormatParts l s) = Read R T B (Parts A B)
  Out (At level c s) = ReadExpr
  Out (Conditional w s) = ReadExpr

  -- ---- literals

  -- a value made from a literal's text, if the literal has one
  abbrev pub by_text : {X : Type 0} → (List ℕ → X) → T × State R T B → Result (List ℕ) LiteralFault → Read R T B X
  by_text make x (Ok text) = Ok (make text, x.1)
  by_text make x (Err fault) = Err (NotCooked fault (leaves.position x.0))

  -- a value made from the leaf of a literal
  abbrev pub cooked_by : {X : Type 0} → (A → X) → T × State R T B → Literal (List ℕ) → Read R T B X
  cooked_by make x literal = by_text (λ text. make (leaves.literal x.0 literal text)) x (cooked_text (leaves.conditions x.1.run).expander literal)

  -- a value made from the leaf of a token that is a literal of the given form
  unfoldable pub cooked : {X : Type 0} → (A → X) → (List ℕ → Literal (List ℕ)) → T × State R T B → Read R T B X
  cooked make literal x = cooked_by make x (literal (leaves.see x.0).tok.lexeme)

  unfoldable pub literal_string : (expanded : Bool) → T × State R T B → ReadExpr
  literal_string expanded = cooked (t.StringLiteral expanded) (string_of expanded)

  -- a format string without interpolations
  unfoldable pub whole_format_string : T × State R T B → ReadExpr
  whole_format_string = cooked t.FormatLiteral literals.Single

  unfoldable pub backtick : T × State R T B → ReadExpr
  backtick = cooked t.Backtick literals.Command

  -- the result of `literal` for a literal that was found
  abbrev pub found : Expr A B × State R T B → Read R T B (Option (Expr A B))
  found x = Ok (Some x.0, x.1)

  -- a literal, if one is next
  unfoldable pub literal : State R T B → Read R T B (Option (Expr A B))
  literal s =
      choose (accept leaves kinds.StringToken s)
      (choose (accept_marked leaves (codes "x") kinds.StringToken s)
      (choose (accept_marked leaves (codes "f") kinds.StringToken s)
      (choose (accept leaves kinds.Backtick s) (Ok (None, s))
      (λ x. backtick x >>= found))
      (λ x. whole_format_string x >>= found))
      (λ x. literal_string true x >>= found))
      (λ x. literal_string false x >>= found)

  -- the part of a format string after an expression, and whether it is the last part
  unfoldable pub part : (start : List ℕ) → State R T B → Read R T B (A × Bool)
  part start s =
      choose (accept leaves kinds.FormatStringContinue s)
      (expect leaves kinds.FormatStringEnd s >>= cooked (λ l. (l, true)) (literals.End start))
      (cooked (λ l. (l, false)) (literals.Continue start))

  -- ---- operators

  abbrev pub met_at : Level → State R T B → T → List T → Option Operator → Met R T B
  met_at level s t ts None = None
  met_at level s t ts (Some operator) = if is_at level operator then Some (operator, t, at s ts) else None

  abbrev pub operator_by : Level → State R T B → List T → Met R T B
  operator_by level s [] = None
  operator_by level s (t ∷ ts) = met_at level s t ts (operator_of (leaves.see t).tok.kind)

  -- the next token, if it is an operator of this level
  unfoldable pub accept_operator : Level → State R T B → Met R T B
  accept_operator level s = operator_by level s s.left

  -- ---- conditionals

  -- After an `else` branch that ends in a conditional without `else`, another `else` is an error.
  abbrev pub ended_by : Bool → Expr A B → State R T B → ReadExpr
  ended_by false e s = Ok (e, s)
  ended_by true e s = choose (accept_keyword leaves (codes "else") s) (Ok (e, s)) (λ w. Err (Unexpected (Some w.0)))

  -- notes a condition that isn't a comparison, at its first token
  abbrev pub note_uncompared : Expr A B → (from : List T) → State R T B → State R T B
  note_uncompared e [] s = s
  note_uncompared e (first ∷ from) s = with (uncompared e (leaves.position first)) s

  -- ---- the rules

  module _ (read : (x : Place R T B) → Out x) where
    -- the rest of an expression after its left operand
    abbrev pub binary_tail : Level → Bool → Expr A B × State R T B → Met R T B → ReadExpr
    binary_tail level c l None = Ok (l.0, closed level l.1)
    binary_tail level c l (Some op) = do
      r ← read (At (right level) false (with (noted_if (feature_of op.0 c) (leaves.position op.1)) op.2))
      Ok (binary op.0 l.0 (leaves.position op.1) r.0, closed level r.1)

    -- an operator of the level with its operands, or the left operand alone
    unfoldable pub binary_rule : Level → Bool → State R T B → ReadExpr
    binary_rule level c s = if is_within (leaves.conditions s.run).limit level s then (do
      l ← read (At (operand level) c (opened level s))
      binary_tail level c l (accept_operator level l.1))
        else Err (refused TooDeep s)

    unfoldable pub conjunct_rule : Bool → State R T B → ReadExpr
    conjunct_rule c s =
        choose (accept_keyword leaves (codes "if") s)
        (choose (accept leaves kinds.Slash s)
        (binary_rule Conjunct c s)
        (λ op. do
          r ← read (At Conjunct false op.1)
          Ok (t.Root (leaves.position op.0) r.0, r.1)))
        (λ w. read (Conditional w.0 w.1))

    -- the condition of an `if` or `assert`
    unfoldable pub condition_rule : State R T B → ReadExpr
    condition_rule s = do
      e ← read (At Expression true s)
      Ok (e.0, note_uncompared e.0 s.left e.1)

    -- an expression in braces
    unfoldable pub braced_rule : State R T B → ReadExpr
    braced_rule s = do
      o ← expect leaves kinds.BraceL s
      e ← read (At Expression false o.1)
      c ← expect leaves kinds.BraceR e.1
      Ok (e.0, c.1)

    -- the rest of a conditional after `else`
    unfoldable pub otherwise_rule : State R T B → ReadExpr
    otherwise_rule s =
        choose (accept_keyword leaves (codes "if") s)
        (do
          o ← braced_rule s
          ended_by (ends_open o.0) o.0 o.1)
        (λ i. read (Conditional i.0 i.1))

    unfoldable pub conditional_rule : T → State R T B → ReadExpr
    conditional_rule word s = do
      c ← condition_rule s
      b ← braced_rule c.1
      choose (accept_keyword leaves (codes "else") b.1)
          (Ok (t.If c.0 b.0, note leaves features.IfWithoutElse word b.1))
          (λ w. do
            o ← otherwise_rule w.1
            Ok (t.IfElse c.0 b.0 o.0, o.1))

    -- an element of a sequence, and whether it is the last one
    unfoldable pub element_rule : TokenKind → State R T B → Read R T B (Expr A B × Bool)
    element_rule closing s = do
      e ← read (At Expression false s)
      choose {X = Read R T B (Expr A B × Bool)} (accept leaves kinds.Comma e.1)
          (do
            x ← expect leaves closing e.1
            Ok ((e.0, true), x.1))
          (λ comma. Ok ((e.0, false), comma.1))

    -- the rest of a sequence after an element
    abbrev pub elements : TokenKind → Expr A B → (is_closed : Bool) → State R T B → Read R T B (Exprs A B)
    elements closing e true s = Ok (t.more e t.none, s)
    elements closing e false s = do
      es ← read (Sequence closing s)
      Ok (t.more e es.0, es.1)

    unfoldable pub sequence_rule : TokenKind → State R T B → Read R T B (Exprs A B)
    sequence_rule closing s =
        choose (accept leaves closing s)
        (do
          e ← element_rule closing s
          elements closing e.0.0 e.0.1 e.1)
        (λ x. Ok (t.none, x.1))

    -- the rest of a format string after one of its parts
    abbrev pub parts : (start : List ℕ) → A → (is_last : Bool) → State R T B → Read R T B (Parts A B)
    parts start leaf true s = Ok (t.Last leaf, s)
    parts start leaf false s = do
      e ← read (At Expression false s)
      ps ← read (FormatParts start e.1)
      Ok (t.Continue leaf e.0 ps.0, ps.1)

    unfoldable pub parts_rule : (start : List ℕ) → State R T B → Read R T B (Parts A B)
    parts_rule start s = do
      p ← part start s
      parts start p.0.0 p.0.1 p.1

    -- the rest of a format string after its first part
    unfoldable pub format_rest_rule : A → (start : List ℕ) → State R T B → ReadExpr
    format_rest_rule leaf start s = do
      e ← read (At Expression false s)
      ps ← read (FormatParts start e.1)
      Ok (t.FormatString leaf e.0 ps.0, ps.1)

    -- a format string with interpolations
    unfoldable pub format_string_rule : T × State R T B → ReadExpr
    format_string_rule x = do
      start ← cooked (λ l. l) literals.Start x
      format_rest_rule start.0 (leaves.see x.0).tok.lexeme start.1

    -- a list; any other token is refused
    unfoldable pub list_rule : State R T B → ReadExpr
    list_rule s = choose (accept leaves kinds.BracketL s) (Err (refused Unexpected s)) (λ o. do
      es ← read (Sequence kinds.BracketR (note leaves features.ListLiteral o.0 o.1))
      Ok (t.ListOf (leaves.position o.0) es.0, es.1))

    -- a group, or what `list_rule` reads
    unfoldable pub group_rule : State R T B → ReadExpr
    group_rule s = choose (accept leaves kinds.ParenL s) (list_rule s) (λ o. do
      e ← read (At Expression false o.1)
      c ← expect leaves kinds.ParenR e.1
      Ok (t.Group e.0, c.1))

    -- a variable or a call, or what `group_rule` reads
    unfoldable pub name_rule : State R T B → ReadExpr
    name_rule s = choose (accept leaves kinds.Identifier s) (group_rule s) (λ n.
        choose (accept leaves kinds.ParenL n.1) (Ok (t.Variable (leaves.name n.0), n.1)) (λ o. do
          es ← read (Sequence kinds.ParenR o.1)
          Ok (t.Call (leaves.name n.0) es.0, with (called (leaves.see n.0).tok.lexeme (leaves.position n.0)) es.1)))

    -- an assertion, or what `name_rule` reads
    unfoldable pub assert_rule : State R T B → ReadExpr
    assert_rule s = choose (accept_keyword leaves (codes "assert") s) (name_rule s) (λ w. do
      o ← expect leaves kinds.ParenL w.1
      c ← condition_rule o.1
      choose (accept leaves kinds.Comma c.1)
          (do
            p ← expect leaves kinds.ParenR c.1
            Ok (t.Assert (leaves.position w.0) c.0, p.1))
          (λ comma. do
            m ← read (At Expression false comma.1)
            p ← expect leaves kinds.ParenR m.1
            Ok (t.AssertMessage (leaves.position w.0) c.0 m.0, p.1)))

    -- a format string with interpolations, or a value that isn't a literal
    unfoldable pub format_rule : State R T B → ReadExpr
    format_rule s = choose (accept_marked leaves (codes "f") kinds.FormatStringStart s) (assert_rule s) format_string_rule

    abbrev pub literal_or : Option (Expr A B) → State R T B → ReadExpr
    literal_or (Some e) s = Ok (e, s)
    literal_or None s = format_rule s

    unfoldable pub value_rule : State R T B → ReadExpr
    value_rule s = choose (accept leaves kinds.Bang s)
        (do
          l ← literal s
          literal_or l.0 l.1)
        (λ b. do
          v ← read (At Value false (note leaves features.NegationOperator b.0 b.1))
          Ok (t.Not v.0, v.1))

    abbrev pub at_rule : Level → Bool → State R T B → ReadExpr
    at_rule Value c s = value_rule s
    at_rule Conjunct c s = conjunct_rule c s
    at_rule level c s = binary_rule level c s

    abbrev pub rule : (x : Place R T B) → Out x
    rule (At level c s) = at_rule level c s
    rule (Conditional w s) = conditional_rule w s
    rule (Sequence c s) = sequence_rule c s
    rule (FormatParts l s) = parts_rule l s

  abbrev pub stop_expression : (x : Place R T B) → Out x
  stop_expression (At level c s) = Err (Unexpected None)
  stop_expression (Conditional w s) = Err (Unexpected None)
  stop_expression (Sequence c s) = Err (Unexpected None)
  stop_expression (FormatParts l s) = Err (Unexpected None)

  unfoldable pub read : (x : Place R T B) → Out x
  read = recursive size stop_expression rule

  abbrev pub condition : State R T B → ReadExpr
  condition = condition_rule read

  abbrev pub braced : State R T B → ReadExpr
  braced = braced_rule read

  abbrev pub element : TokenKind → State R T B → Read R T B (Expr A B × Bool)
  element = element_rule read

  abbrev pub format_string : T × State R T B → ReadExpr
  format_string = format_string_rule read

  abbrev pub value : State R T B → ReadExpr
  value = value_rule read

  abbrev pub format : State R T B → ReadExpr
  format = format_rule read

  abbrev pub assert : State R T B → ReadExpr
  assert = assert_rule read

  abbrev pub name : State R T B → ReadExpr
  name = name_rule read

  abbrev pub group : State R T B → ReadExpr
  group = group_rule read

  abbrev pub list : State R T B → ReadExpr
  list = list_rule read
