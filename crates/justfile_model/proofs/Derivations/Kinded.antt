-- A tree that derives from tokens has tokens of the kinds that the grammar requires and, where the grammar determines it, with the required
-- lexeme.
use Rattle.std.proofs.Common.{◌≡◌, ℕ, Bool, List, [], ◌∷◌, Option, Some, None, codes, subst}
use Rattle.std.specs.List.{AllByRecursion}
use Rattle.justfile_vocabulary.specs.declared.token_kind.TokenKind.{TokenKind}
use Rattle.justfile_vocabulary.specs.declared.token_kind.TokenKind.TheVariants as kinds
use Rattle.justfile_model.specs.declared.conditional_operator.ConditionalOperator.{ConditionalOperator}
use Rattle.justfile_model.specs.declared.conditional_operator.ConditionalOperator.TheVariants.{Equality}
use Rattle.justfile_model.specs.Trees.ConditionalOperator.{operator_sign}
use Rattle.justfile_model.specs.Lexing.Tok.{Tok}
use Rattle.justfile_model.specs.Lexing.SignificantTokens.{AllSpelled, HasSpelling, SignificantToken, Spelling}
use Rattle.justfile_model.specs.Grammars.Features.{Noted}
use Rattle.justfile_model.specs.Trees.Tree as tree
use Rattle.justfile_model.specs.Trees.Tree.{Expr, Exprs, Parts, Argument, WrittenAttribute, at_last, commented_attribute, commented_line, itself}
use Rattle.justfile_model.proofs.Meanings.MeaningParts.{InArgument}
use Rattle.justfile_model.specs.Grammars.AttributeLines as lines
use Rattle.justfile_model.specs.Grammars.AttributeLines.{IsKey, ArgumentOf, Arguments, AttributeOf, Bracketed, AttributesEnd, AttributeLines}
use Rattle.justfile_model.specs.Grammars.Expressions as g
use Rattle.justfile_model.specs.Grammars.Expressions.{Tokens, IsKind, IsWord, operator_kind, Expression, Disjunct, Compared, Conjunct, Condition, Braced, Conditional, Value, Sequence, FormatParts}
use Rattle.justfile_model.proofs.Derivations.AttributeProgress.{argument_left, attribute_left, attributes_end_left, bracketed_left}
use Rattle.justfile_model.proofs.Derivations.ExpressionProgress.{LeftOf, braced_left, compared_left, condition_left, conjunct_left, disjunct_left, expression_left, later, next, value_left}
use Rattle.justfile_model.proofs.Lists.AllParts.{both}

-- ---- trees of such tokens

-- a token of the kind with the lexeme
pub record IsSpelled (kind : TokenKind) (word : List ℕ) (t : Tok) : Type 0 where
  pub kind_is : t.kind ≡ kind
  pub lexeme_is : t.lexeme ≡ word

abbrev mutual
  pub KindedExpr : Expr Tok Tok → Type 0
  KindedExpr (tree.Or l r) = KindedExpr l × KindedExpr r
  KindedExpr (tree.And l r) = KindedExpr l × KindedExpr r
  KindedExpr (tree.Comparison l operator token r) = KindedExpr l × IsSpelled (operator_kind operator) (operator_sign operator) token × KindedExpr r
  KindedExpr (tree.Concatenation l operator r) = KindedExpr l × IsSpelled kinds.Plus (codes "+") operator × KindedExpr r
  KindedExpr (tree.ListConcatenation l operator r) = KindedExpr l × IsSpelled kinds.PlusPlus (codes "++") operator × KindedExpr r
  KindedExpr (tree.Join l operator r) = KindedExpr l × IsSpelled kinds.Slash (codes "/") operator × KindedExpr r
  KindedExpr (tree.Root operator r) = IsSpelled kinds.Slash (codes "/") operator × KindedExpr r
  KindedExpr (tree.If c b) = KindedExpr c × KindedExpr b
  KindedExpr (tree.IfElse c b o) = KindedExpr c × KindedExpr b × KindedExpr o
  KindedExpr (tree.Not e) = KindedExpr e
  KindedExpr (tree.StringLiteral expanded token) = token.kind ≡ kinds.StringToken
  KindedExpr (tree.FormatLiteral token) = token.kind ≡ kinds.StringToken
  KindedExpr (tree.FormatString start e parts) = (start.kind ≡ kinds.FormatStringStart) × KindedExpr e × KindedParts parts
  KindedExpr (tree.Backtick token) = token.kind ≡ kinds.Backtick
  KindedExpr (tree.Assert name c) = IsSpelled kinds.Identifier (codes "assert") name × KindedExpr c
  KindedExpr (tree.AssertMessage name c m) = IsSpelled kinds.Identifier (codes "assert") name × KindedExpr c × KindedExpr m
  KindedExpr (tree.Variable name) = name.kind ≡ kinds.Identifier
  KindedExpr (tree.Call name arguments) = (name.kind ≡ kinds.Identifier) × KindedExprs arguments
  KindedExpr (tree.Group e) = KindedExpr e
  KindedExpr (tree.ListOf opener elements) = IsSpelled kinds.BracketL (codes "[") opener × KindedExprs elements

  pub KindedExprs : Exprs Tok Tok → Type 0
  KindedExprs tree.none = Unit {0}
  KindedExprs (tree.more e others) = KindedExpr e × KindedExprs others

  pub KindedParts : Parts Tok Tok → Type 0
  KindedParts (tree.Last token) = token.kind ≡ kinds.FormatStringEnd
  KindedParts (tree.Continue token e parts) = (token.kind ≡ kinds.FormatStringContinue) × KindedExpr e × KindedParts parts

abbrev pub IsName : Tok → Type 0
IsName t = t.kind ≡ kinds.Identifier

abbrev pub KindedArgument : Argument Tok Tok → Type 0
KindedArgument = InArgument KindedExpr IsName

abbrev pub KindedAttribute : WrittenAttribute Tok Tok → Type 0
KindedAttribute w = AllByRecursion KindedArgument w.arguments

abbrev pub KindedWritten : List (WrittenAttribute Tok Tok) → Type 0
KindedWritten ws = AllByRecursion KindedAttribute ws

-- ---- tokens

compared_sign : (by : ConditionalOperator) (lexeme : List ℕ) → Spelling (operator_kind by) lexeme → lexeme ≡ operator_sign by
compared_sign Equality lexeme h = h
compared_sign _ lexeme h = h

is_spelled : (kind : TokenKind) (word : List ℕ) (t : SignificantToken) → (Spelling kind t.tok.lexeme → t.tok.lexeme ≡ word) → IsKind kind t → HasSpelling t
    → IsSpelled kind word t.tok
is_spelled kind word t from k h = record { kind_is = k; lexeme_is = from (subst (λ kind. Spelling kind t.tok.lexeme) k h) }

word_spelled : (word : List ℕ) (t : SignificantToken) → IsWord word t → IsSpelled kinds.Identifier word t.tok
word_spelled word t w = record { kind_is = w.is_name; lexeme_is = w.spelled }

-- the tokens that are left are spelled as well
pub after : {rest tokens : Tokens} → LeftOf rest tokens → AllSpelled tokens → AllSpelled rest
after next s = s.1
after (later h) s = after h s.1

-- ---- what is derived of such tokens

module _ (MayEnter : ℕ → Option SignificantToken → Type 0) where
  mutual
    expression_kinded : {condition : Bool} {depth : ℕ} {e : Expr Tok Tok} {fs : List (Noted Tok)} {tokens rest : Tokens}
        → Expression itself itself MayEnter condition depth e fs tokens rest → AllSpelled tokens → KindedExpr e
    expression_kinded (g.or o l k r) s = (disjunct_kinded l s, expression_kinded r (after (disjunct_left itself itself MayEnter l) s).1)
    expression_kinded (g.disjunct o l n) s = disjunct_kinded l s

    disjunct_kinded : {condition : Bool} {depth : ℕ} {e : Expr Tok Tok} {fs : List (Noted Tok)} {tokens rest : Tokens}
        → Disjunct itself itself MayEnter condition depth e fs tokens rest → AllSpelled tokens → KindedExpr e
    disjunct_kinded (g.and l k r) s = (compared_kinded l s, disjunct_kinded r (after (compared_left itself itself MayEnter l) s).1)
    disjunct_kinded (g.comparison l n) s = compared_kinded l s

    compared_kinded : {condition : Bool} {depth : ℕ} {e : Expr Tok Tok} {fs : List (Noted Tok)} {tokens rest : Tokens}
        → Compared itself itself MayEnter condition depth e fs tokens rest → AllSpelled tokens → KindedExpr e
    compared_kinded (g.compare {operator = operator} by l k r) s =
        let x = after (conjunct_left itself itself MayEnter l) s in
        let sign = is_spelled (operator_kind by) (operator_sign by) operator (compared_sign by operator.tok.lexeme) k x.0 in
        (conjunct_kinded l s, sign, conjunct_kinded r x.1)
    compared_kinded (g.conjunct l n) s = conjunct_kinded l s

    conjunct_kinded : {depth : ℕ} {e : Expr Tok Tok} {fs : List (Noted Tok)} {tokens rest : Tokens}
        → Conjunct itself itself MayEnter depth e fs tokens rest → AllSpelled tokens → KindedExpr e
    conjunct_kinded (g.conditional w c) s = conditional_kinded c s.1
    conjunct_kinded (g.root {operator = operator} k r) s = (is_spelled kinds.Slash (codes "/") operator (λ e. e) k s.0, conjunct_kinded r s.1)
    conjunct_kinded (g.join {operator = operator} n l k r) s =
        let x = after (value_left itself itself MayEnter l) s in
        (value_kinded l s, is_spelled kinds.Slash (codes "/") operator (λ e. e) k x.0, conjunct_kinded r x.1)
    conjunct_kinded (g.list_concatenation {operator = operator} n l k r) s =
        let x = after (value_left itself itself MayEnter l) s in
        (value_kinded l s, is_spelled kinds.PlusPlus (codes "++") operator (λ e. e) k x.0, conjunct_kinded r x.1)
    conjunct_kinded (g.concatenation {operator = operator} n l k r) s =
        let x = after (value_left itself itself MayEnter l) s in
        (value_kinded l s, is_spelled kinds.Plus (codes "+") operator (λ e. e) k x.0, conjunct_kinded r x.1)
    conjunct_kinded (g.value n l j) s = value_kinded l s

    condition_kinded : {depth : ℕ} {e : Expr Tok Tok} {fs : List (Noted Tok)} {tokens rest : Tokens}
        → Condition itself itself MayEnter depth e fs tokens rest → AllSpelled tokens → KindedExpr e
    condition_kinded (g.condition e) s = expression_kinded e s

    braced_kinded : {depth : ℕ} {e : Expr Tok Tok} {fs : List (Noted Tok)} {tokens rest : Tokens}
        → Braced itself itself MayEnter depth e fs tokens rest → AllSpelled tokens → KindedExpr e
    braced_kinded (g.braces o e c) s = expression_kinded e s.1

    conditional_kinded : {depth : ℕ} {word : SignificantToken} {e : Expr Tok Tok} {fs : List (Noted Tok)} {tokens rest : Tokens}
        → Conditional itself itself MayEnter depth word e fs tokens rest → AllSpelled tokens → KindedExpr e
    conditional_kinded (g.if_only c b n) s = (condition_kinded c s, braced_kinded b (after (condition_left itself itself MayEnter c) s))
    conditional_kinded (g.if_else c b w o n) s =
        let x = after (condition_left itself itself MayEnter c) s in
        (condition_kinded c s, braced_kinded b x, braced_kinded o (after (braced_left itself itself MayEnter b) x).1)
    conditional_kinded (g.else_if c b w v o) s =
        let x = after (condition_left itself itself MayEnter c) s in
        (condition_kinded c s, braced_kinded b x, conditional_kinded o (after (braced_left itself itself MayEnter b) x).1.1)

    value_kinded : {depth : ℕ} {e : Expr Tok Tok} {fs : List (Noted Tok)} {tokens rest : Tokens}
        → Value itself itself MayEnter depth e fs tokens rest → AllSpelled tokens → KindedExpr e
    value_kinded (g.not k e) s = value_kinded e s.1
    value_kinded (g.literal k) s = k
    value_kinded (g.expanded m) s = m.is_string
    value_kinded (g.format_literal m) s = m.is_string
    value_kinded (g.format_string m e ps) s =
        (m.is_string, expression_kinded e s.1.1, parts_kinded ps (after (expression_left itself itself MayEnter e) s.1.1))
    value_kinded (g.backtick k) s = k
    value_kinded (g.assert {word = word} w o c k) s = (word_spelled (codes "assert") word w, condition_kinded c s.1.1)
    value_kinded (g.assert_message {word = word} w o c k m l) s =
        (word_spelled (codes "assert") word w, condition_kinded c s.1.1, expression_kinded m (after (condition_left itself itself MayEnter c) s.1.1).1)
    value_kinded (g.variable k n u p) s = k
    value_kinded (g.call k n o es) s = (k, sequence_kinded es s.1.1)
    value_kinded (g.group o e k) s = expression_kinded e s.1
    value_kinded (g.list {opener = opener} o es) s = (is_spelled kinds.BracketL (codes "[") opener (λ e. e) o s.0, sequence_kinded es s.1)

    sequence_kinded : {closing : TokenKind} {depth : ℕ} {es : Exprs Tok Tok} {fs : List (Noted Tok)} {tokens rest : Tokens}
        → Sequence itself itself MayEnter closing depth es fs tokens rest → AllSpelled tokens → KindedExprs es
    sequence_kinded (g.none k) s = tt
    sequence_kinded (g.last n e k) s = (expression_kinded e s, tt)
    sequence_kinded (g.more n e k es) s = (expression_kinded e s, sequence_kinded es (after (expression_left itself itself MayEnter e) s).1)

    parts_kinded : {depth : ℕ} {ps : Parts Tok Tok} {fs : List (Noted Tok)} {tokens rest : Tokens}
        → FormatParts itself itself MayEnter depth ps fs tokens rest → AllSpelled tokens → KindedParts ps
    parts_kinded (g.end k) s = k
    parts_kinded (g.next k e ps) s = (k, expression_kinded e s.1, parts_kinded ps (after (expression_left itself itself MayEnter e) s.1))

  -- ---- attributes

  key_kind : (t : SignificantToken) (ts : Tokens) → IsKey (t ∷ ts) → t.tok.kind ≡ kinds.Identifier
  key_kind t [] h = h
  key_kind t (u ∷ ts) h = h.0

  argument_kinded : {keys : Bool} {a : Argument Tok Tok} {fs : List (Noted Tok)} {tokens rest : Tokens} → ArgumentOf itself itself MayEnter keys a fs tokens rest
      → AllSpelled tokens → KindedArgument a
  argument_kinded (lines.positional n e) s = expression_kinded e s
  argument_kinded (lines.bare {key = key} {rest = rest} k n) s = key_kind key rest k
  argument_kinded (lines.keyed k q e) s = (k, expression_kinded e s.1.1)

  arguments_kinded : {keys : Bool} {arguments : List (Argument Tok Tok)} {fs : List (Noted Tok)} {tokens rest : Tokens}
      → Arguments itself itself MayEnter keys arguments fs tokens rest → AllSpelled tokens → AllByRecursion KindedArgument arguments
  arguments_kinded (lines.none k) s = tt
  arguments_kinded (lines.last a k) s = (argument_kinded a s, tt)
  arguments_kinded (lines.more a k others) s = (argument_kinded a s, arguments_kinded others (after (argument_left itself itself MayEnter a) s).1)

  attribute_kinded : {w : WrittenAttribute Tok Tok} {fs : List (Noted Tok)} {tokens rest : Tokens} → AttributeOf itself itself MayEnter w fs tokens rest
      → AllSpelled tokens → KindedAttribute w
  attribute_kinded (lines.plain k n m) s = tt
  attribute_kinded (lines.short k c e) s = (expression_kinded e s.1.1, tt)
  attribute_kinded (lines.long k o arguments) s = arguments_kinded arguments s.1.1

  bracketed_kinded : {ws : List (WrittenAttribute Tok Tok)} {fs : List (Noted Tok)} {tokens rest : Tokens} → Bracketed itself itself MayEnter ws fs tokens rest
      → AllSpelled tokens → KindedWritten ws
  bracketed_kinded (lines.last w k) s = (attribute_kinded w s, tt)
  bracketed_kinded (lines.more w k ws) s = (attribute_kinded w s, bracketed_kinded ws (after (attribute_left itself itself MayEnter w) s).1)

  last_kinded : (c : List ℕ) (ws : List (WrittenAttribute Tok Tok)) → KindedWritten ws → KindedWritten (at_last (commented_attribute c) ws)
  last_kinded c [] h = tt
  last_kinded c (w ∷ []) h = (h.0, tt)
  last_kinded c (w ∷ v ∷ ws) h = (h.0, last_kinded c (v ∷ ws) h.1)

  commented_kinded : (comment : Option (List ℕ)) (ws : List (WrittenAttribute Tok Tok)) → KindedWritten ws → KindedWritten (commented_line comment ws)
  commented_kinded None ws h = h
  commented_kinded (Some c) ws h = last_kinded c ws h

  pub lines_spelled : {ws : List (WrittenAttribute Tok Tok)} {fs : List (Noted Tok)} {tokens rest : Tokens}
      → AttributeLines itself itself MayEnter ws fs tokens rest → AllSpelled tokens → AllSpelled rest
  lines_spelled (lines.none n) s = s
  lines_spelled (lines.line k b e more) s =
      lines_spelled more (after (attributes_end_left itself itself MayEnter e) (after (bracketed_left itself itself MayEnter b) s.1))

  pub lines_kinded : {ws : List (WrittenAttribute Tok Tok)} {fs : List (Noted Tok)} {tokens rest : Tokens}
      → AttributeLines itself itself MayEnter ws fs tokens rest → AllSpelled tokens → KindedWritten ws
  lines_kinded (lines.none n) s = tt
  lines_kinded (lines.line {ws = ws} {others = others} {comment = comment} k b e more) s =
      both KindedAttribute (commented_line comment ws) others (commented_kinded comment ws (bracketed_kinded b s.1))
      (lines_kinded more (after (attributes_end_left itself itself MayEnter e) (after (bracketed_left itself itself MayEnter b) s.1)))
