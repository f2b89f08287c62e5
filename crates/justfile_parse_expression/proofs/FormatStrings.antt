-- The rest of a format string ends with the delimiter of its start.
use Rattle.std.proofs.Common.{◌≡◌, ℕ, ◌<◌, Bool, true, false, cond, IsTrue, List, [], ◌∷◌, ◌++◌, length, Option, Some, None, Result, Ok, Err, map, take, drop, append_assoc, refl, sym, ap, ◌∙◌, subst}
use Rattle.std.proofs.lemmas.List.{map-append, take-append-drop}
use denote.Enum.Bare.{same_true}
use Rattle.justfile_vocabulary.specs.contracts.token_kind.TokenKind.{the_type}
use Rattle.justfile_token.specs.StringKind.{kind_of}
use Rattle.justfile_token.specs.Token.{lexeme_of}
use Rattle.justfile_vocabulary.specs.declared.format_string_part.FormatStringPart.TheVariants as string_parts
use Rattle.justfile_token.specs.declared.string_kind.StringKind.{StringKind}
use Rattle.justfile_vocabulary.specs.declared.token_kind.TokenKind.{TokenKind}
use Rattle.justfile_token.specs.declared.token.Token.{Token}
use Rattle.justfile_vocabulary.specs.declared.token_kind.TokenKind.TheVariants as kinds
use Rattle.justfile_literal.specs.Literal.{is_part}
use Rattle.justfile_model.specs.Grammars.Expressions as grammar
use Rattle.justfile_model.specs.LiteralTexts.Literals.{LiteralFault, cooked_format_text}
use Rattle.justfile_model.specs.Lexing.Tok.{tok_of}
use Rattle.justfile_model.specs.Trees.Tree.{Expr, Last, Continue}
use Rattle.justfile_parse_expression.specs.FormatStrings.{AreEnded, IsEnded, IsEndedAt, IsEndedPastExpression, IsEndedFrom}
use Rattle.justfile_model.specs.Readers.ExpressionReader as expressions
use Rattle.justfile_model.specs.Readers.ReaderState as reading
use Rattle.justfile_model.specs.Readers.ReaderState.{◌>>=◌, accept_by, at, choose, marked_by, marks, same_kind}
use Rattle.justfile_parse_expression.specs.TableReader.{At, Read, ReadExpr, State, accept, accept_marked, expect, leaves, pair, part, part_by, read}
use Rattle.justfile_parse_expression.specs.Significant.{significant_of}
use Rattle.justfile_expression.specs.LeafTree.{Leaf}
use Rattle.justfile_parse_expression.specs.View.{state_at, state_of}
use Rattle.justfile_model.specs.declared.level.Level.TheVariants as levels
use Rattle.justfile_parse_expression.specs.Significant.{TableToken}
use Rattle.justfile_model.proofs.Readers.ExpressionReading.{advances}
use Rattle.justfile_model.proofs.Readers.ReadingSteps.{known}
use Rattle.justfile_parse_expression.proofs.Anywhere.{derives}
use Rattle.justfile_parse_expression.proofs.Rules.{part_is}
use Rattle.justfile_parse_expression.specs.declared.parser_state.ParserState.{ParserState}

-- ---- the tokens that are taken

abbrev pub Taken : Type 0
Taken = Option (TableToken × State)

kind_is : (kind : TokenKind) (t : TableToken) → same_kind t.0.kind kind ≡ true → t.0.kind ≡ kind
unfolding same_kind
kind_is kind t h = same_true the_type tt _ _ h

-- the next token, of this kind
abbrev pub IsNext : TokenKind → State → List TableToken → Taken → Type 0
IsNext kind s table_tokens None = Unit {0}
IsNext kind s table_tokens (Some x) = (table_tokens ≡ x.0 ∷ x.1.left) × (x.0.0.kind ≡ kind) × (x.1.depth ≡ s.depth)

pub accepted : (kind : TokenKind) (s : State) → IsNext kind s s.left (accept kind s)
unfolding reading.accept leaves
accepted kind s = go s.left
  where
    by_test : (t : TableToken) (ts : List TableToken) (b : Bool) → (b ≡ true → t.0.kind ≡ kind) → IsNext kind s (t ∷ ts) (cond b (Some (t, at s ts)) None)
    by_test t ts true h = (refl, h refl, refl)
    by_test t ts false h = tt

    go : (table_tokens : List TableToken) → IsNext kind s table_tokens (accept_by leaves (λ t. same_kind t.tok.kind kind) s table_tokens)
    go [] = tt
    go (t ∷ ts) = by_test t ts (same_kind t.0.kind kind) (kind_is kind t)

abbrev pub IsExpected : TokenKind → List TableToken → Read TableToken → Type 0
IsExpected kind table_tokens (Err f) = Unit {0}
IsExpected kind table_tokens (Ok x) = (table_tokens ≡ x.0 ∷ x.1.left) × (x.0.0.kind ≡ kind)

pub expected : (kind : TokenKind) (s : State) → IsExpected kind s.left (expect kind s)
unfolding reading.expect
expected kind s = go (accept kind s) (accepted kind s)
  where
    go : (o : Taken) → IsNext kind s s.left o → IsExpected kind s.left (choose {X = Read TableToken} o (Err (reading.refused reading.Unexpected s)) (λ x. Ok x))
    go None h = tt
    go (Some x) h = (h.0, h.1)

-- a token after another
abbrev IsMarked : List TableToken → Taken → Type 0
IsMarked table_tokens None = Unit {0}
IsMarked table_tokens (Some x) = (mark : TableToken) × (table_tokens ≡ mark ∷ x.0 ∷ x.1.left)

marked : (word : List ℕ) (kind : TokenKind) (s : State) → IsMarked s.left (accept_marked word kind s)
unfolding reading.accept_marked
marked word kind s = go s.left
  where
    by_test : (m t : TableToken) (ts : List TableToken) (b : Bool) → IsMarked (m ∷ t ∷ ts) (cond b (Some (t, at s ts)) None)
    by_test m t ts true = (m, refl)
    by_test m t ts false = tt

    go : (table_tokens : List TableToken) → IsMarked table_tokens (marked_by leaves word kind s table_tokens)
    go [] = tt
    go (m ∷ []) = tt
    go (m ∷ t ∷ ts) = by_test m t ts (marks word kind (leaves.see m) (leaves.see t))

-- ---- from a start on

-- after the start of a format string
pub after_start : {X : Type 0} (answer : X → List ℕ → Result (List ℕ) (List ℕ)) (p : ParserState X) (word : List ℕ) (start : TableToken) (rest : State) → accept_marked word kinds.FormatStringStart (state_of answer p) ≡ Some (start, rest) → start.0.kind ≡ kinds.FormatStringStart
    → IsEndedFrom (kind_of (lexeme_of start.0)) rest
unfolding state_of state_at IsEndedFrom AreEnded
after_start answer p word start rest found kind =
    let table = p.tokens.now in
    let m = subst (IsMarked (drop p.next table)) found (marked word kinds.FormatStringStart (state_of answer p)) in
    let front = map significant_of (take p.next table) in
    let following = map significant_of rest.left in
    let split : map significant_of table ≡ front ++ map significant_of (drop p.next table) = ap (map significant_of) (sym (take-append-drop p.next table)) ∙ map-append significant_of (take p.next table) (drop p.next table) in
    let whole : map significant_of table ≡ (front ++ significant_of m.0 ∷ []) ++ significant_of start ∷ following
    = split ∙ ap (λ (ts : List TableToken). front ++ map significant_of ts) m.1 ∙ sym (append_assoc front (significant_of m.0 ∷ []) (significant_of start ∷ following)) in
    p.ended (front ++ significant_of m.0 ∷ []) (significant_of start) following whole kind rest.depth

-- the part that ends it
pub last_ended : (k : StringKind) (s : State) (t : TableToken) (rest : State) → expect kinds.FormatStringEnd s ≡ Ok (t, rest) → IsEndedAt k s → IsTrue (is_part k string_parts.End (lexeme_of t.0))
unfolding IsEndedAt IsEnded
last_ended k s t rest found h =
    let x = subst (IsExpected kinds.FormatStringEnd s.left) found (expected kinds.FormatStringEnd s) in
    let ended = subst (λ (ts : List TableToken). IsEnded k s.depth (map significant_of ts)) x.0 h in
    ended (Last (tok_of t.0)) [] (map significant_of rest.left) (grammar.end x.1)

-- in the same run, at the same depth
past : (s : State) (e : Expr Leaf Token) (rest : State) → read (At levels.Expression false s) ≡ Ok (e, rest) → rest.depth ≡ s.depth
past s e rest found = (known {X = Expr Leaf Token × State} (e, rest) (λ x. length x.1.left < length s.left × (x.1.depth ≡ s.depth) × (x.1.run ≡ s.run)) found (advances leaves (At levels.Expression false s))).1

module _ (k : StringKind) where
  -- after an expression
  pub after_expression : (s : State) (e : Expr Leaf Token) (rest : State) → read (At levels.Expression false s) ≡ Ok (e, rest) → IsEndedFrom k s → IsEndedAt k rest
  unfolding IsEndedFrom IsEndedAt IsEndedPastExpression
  after_expression s e rest found h =
      let x = derives s e rest found in
      let P : ℕ → Type 0 = λ d. IsEnded k d (map significant_of rest.left) in
      subst P (sym (past s e rest found)) (h x.0 x.1 (map significant_of rest.left) x.2)

  -- after a part that is not the last
  after_continue : (s : State) (t : TableToken) (rest : State) → s.left ≡ t ∷ rest.left → t.0.kind ≡ kinds.FormatStringContinue → IsEndedAt k s → IsEndedPastExpression k s.depth (map significant_of rest.left)
  unfolding IsEndedAt IsEndedPastExpression IsEnded
  after_continue s t rest split kind h e fs following x ps gs end parts =
      let ended = subst (λ (ts : List TableToken). IsEnded k s.depth (map significant_of ts)) split h in
      ended (Continue (tok_of t.0) e ps) (fs ++ gs) end (grammar.next kind x parts)

  abbrev GoesOn : State → Read (Leaf × Bool) → Type 0
  GoesOn s found = (x : (Leaf × Bool) × State) → found ≡ Ok x → x.0.1 ≡ false → IsEndedPastExpression k s.depth (map significant_of x.1.left) × (x.1.depth ≡ s.depth)

  abbrev flagged : Bool → Leaf × State → Read (Leaf × Bool)
  flagged b l = Ok ((l.0, b), l.1)

  abbrev is_last : Read (Leaf × Bool) → Bool
  is_last (Ok x) = x.0.1
  is_last (Err f) = true

  abbrev rest_of : State → Read (Leaf × Bool) → State
  rest_of s (Ok x) = x.1
  rest_of s (Err f) = s

  -- the last part goes on to nothing
  last_goes : (s : State) (found : Read Leaf) → GoesOn s (found >>= flagged true)
  last_goes s (Ok l) x is more = let e : true ≡ false = ap is_last is ∙ more in cc
  last_goes s (Err f) x is more = cc

  end_goes : (start : List ℕ) (s : State) (end : Read TableToken) → GoesOn s (end >>= λ x. part_by (kind_of start) string_parts.End x >>= flagged true)
  end_goes start s (Ok x) = last_goes s (part_by (kind_of start) string_parts.End x)
  end_goes start s (Err f) = λ x is more. cc

  -- a part is after its token
  text_goes : (make : List ℕ → Leaf) (s : State) (x : TableToken × State) (text : Result (List ℕ) LiteralFault) → IsEndedPastExpression k s.depth (map significant_of x.1.left) × (x.1.depth ≡ s.depth) → GoesOn s (expressions.by_text leaves make x text >>= flagged false)
  text_goes make s x (Ok text) h y is more =
      let P : State → Type 0 = λ t. IsEndedPastExpression k s.depth (map significant_of t.left) × (t.depth ≡ s.depth) in
      subst P (ap (rest_of s) is) h
  text_goes make s x (Err f) h y is more = cc

  continue_goes : (start : List ℕ) (s : State) (x : TableToken × State) → IsEndedPastExpression k s.depth (map significant_of x.1.left) × (x.1.depth ≡ s.depth) → GoesOn s (part_by (kind_of start) string_parts.Continue x >>= flagged false)
  unfolding part_by
  continue_goes start s x = text_goes _ s x (cooked_format_text (kind_of start) string_parts.Continue (lexeme_of x.0.0))

  after_part : (start : List ℕ) (s : State) → IsEndedAt k s → GoesOn s (part start s)
  after_part start s h = subst (GoesOn s) (sym (part_is start s)) (by_continue (accept kinds.FormatStringContinue s) (accepted kinds.FormatStringContinue s))
    where
      by_continue : (o : Taken) → IsNext kinds.FormatStringContinue s s.left o
          → GoesOn s (choose {X = Read (Leaf × Bool)} o (expect kinds.FormatStringEnd s >>= λ x. part_by (kind_of start) string_parts.End x >>= flagged true) (λ x. part_by (kind_of start) string_parts.Continue x >>= flagged false))
      by_continue None here = end_goes start s (expect kinds.FormatStringEnd s)
      by_continue (Some x) here = continue_goes start s x (after_continue s x.0 x.1 here.0 here.1 h, here.2)

  abbrev paired : Expr Leaf Token → (Leaf × Bool) × State → Read (Expr Leaf Token × Leaf × Bool)
  paired e p = Ok ((e, p.0.0, p.0.1), p.1)

  abbrev is_last_pair : Read (Expr Leaf Token × Leaf × Bool) → Bool
  is_last_pair (Ok x) = x.0.2
  is_last_pair (Err f) = true

  abbrev rest_of_pair : State → Read (Expr Leaf Token × Leaf × Bool) → State
  rest_of_pair s (Ok x) = x.1
  rest_of_pair s (Err f) = s

  pub after_pair : (start : List ℕ) (s : State) (e : Expr Leaf Token) (leaf : Leaf) (rest : State) → pair start s ≡ Ok ((e, leaf, false), rest) → IsEndedFrom k s → IsEndedFrom k rest
  unfolding pair IsEndedFrom
  after_pair start s e leaf rest found h = by_first (read (At levels.Expression false s)) refl found
    where
      at_depth : (t u : State) → IsEndedPastExpression k t.depth (map significant_of u.left) × (u.depth ≡ t.depth) → IsEndedFrom k u
      at_depth t u x = let P : ℕ → Type 0 = λ d. IsEndedPastExpression k d (map significant_of u.left) in subst P (sym x.1) x.0

      by_part : (x : Expr Leaf Token × State) (o : Read (Leaf × Bool)) → GoesOn x.1 o → (o >>= paired x.0) ≡ Ok ((e, leaf, false), rest) → IsEndedFrom k rest
      by_part x (Err f) goes found = cc
      by_part x (Ok p) goes found = subst (IsEndedFrom k) (ap (rest_of_pair s) found) (at_depth x.1 p.1 (goes p refl (ap is_last_pair found)))

      by_first : (o : ReadExpr) → read (At levels.Expression false s) ≡ o → (o >>= λ x. part start x.1 >>= paired x.0) ≡ Ok ((e, leaf, false), rest) → IsEndedFrom k rest
      by_first (Err f) is found = cc
      by_first (Ok x) is found = by_part x (part start x.1) (after_part start x.1 (after_expression s x.0 x.1 is h)) found
