-- The operators of an expression, in the steps in which the parser takes them.
use Rattle.std.proofs.Common.{◌≡◌, Bool, true, false, List, [], ◌∷◌, Option, None, Ok, Err, IsTrue, if◌then◌else◌, codes, refl, ap, ◌∙◌}
use Rattle.justfile_token.specs.declared.token.Token.{Token}
use Rattle.justfile_vocabulary.specs.declared.token_kind.TokenKind.TheVariants as kinds
use Rattle.justfile_model.specs.Readers.ExpressionReader as expressions
use Rattle.justfile_model.specs.Readers.ExpressionReader.{Met, closed, met_at, opened, operator_by}
use Rattle.justfile_model.specs.Trees.Operators.{is_binary}
use Rattle.justfile_model.specs.Readers.ReaderState.{◌>>=◌, choose, with}
use Rattle.justfile_model.specs.Grammars.Features.{noted}
use Rattle.justfile_model.specs.Trees.Tree as t
use Rattle.justfile_model.specs.Trees.Tree.{Expr}
use Rattle.justfile_model.specs.declared.level.Level.{Level}
use Rattle.justfile_model.specs.declared.level.Level.TheVariants.{Expression, Disjunct, Compared, Conjunct, Value}
use Rattle.justfile_vocabulary.specs.declared.list_feature.ListFeature.TheVariants as features
use Rattle.justfile_model.specs.declared.operator.Operator.{Operator}
use Rattle.justfile_parse_expression.specs.Chains.{chain}
use Rattle.justfile_parse_expression.specs.TableReader as r
use Rattle.justfile_parse_expression.specs.TableReader.{At, Read, ReadExpr, ReadError, State, accept, accept_keyword, enter, front_operator, is_within, leaves, literal, operation, operations, read, value}
use Rattle.justfile_expression.specs.LeafTree.{Leaf}
use Rattle.justfile_parse_expression.specs.Significant.{TableToken}
use Rattle.justfile_model.proofs.Readers.ExpressionReading as laws
use Rattle.justfile_parse_expression.proofs.Rules.{bind_alike, choose_alike, then_made}

abbrev Lhs : Type 0
Lhs = Expr Leaf Token × State

regroup : (found : ReadExpr) (f g : Lhs → ReadExpr) → (found >>= f >>= g) ≡ (found >>= λ l. f l >>= g)
regroup (Ok l) f g = refl
regroup (Err e) f g = refl

-- ---- an expression of a level

-- whether one more expression may be opened; where too many are open, the refusal
abbrev allowed : (within : Bool) → State → ReadError → Read (Unit {0})
allowed within s e = if within then Ok (tt, s) else Err e

pub opened_by : (within : Bool) (s : State) (e : ReadError) (f : State → ReadExpr) → (if within then f s else Err e) ≡ (allowed within s e >>= λ o. f o.1)
opened_by true s e f = refl
opened_by false s e f = refl

compared_is : (c : Bool) (s : State) → read (At Compared c s) ≡ (read (At Conjunct c s) >>= operations Compared c)
unfolding expressions.binary_rule operation operations
compared_is c s = laws.level_is leaves Compared c s

disjunct_is : (c : Bool) (s : State) → read (At Disjunct c s) ≡ (read (At Conjunct c s) >>= operations Disjunct c)
unfolding expressions.binary_rule operation operations
disjunct_is c s =
    laws.level_is leaves Disjunct c s
    ∙ ap (λ (f : ReadExpr). f >>= operation Disjunct c) (compared_is c s)
    ∙ regroup (read (At Conjunct c s)) (operations Compared c) (operation Disjunct c)

expression_is : (c : Bool) (s : State) → read (At Expression c s) ≡ (enter Expression s >>= λ o. read (At Conjunct c o.1) >>= operations Expression c)
unfolding expressions.binary_rule enter leaves operation operations
expression_is c s =
    laws.level_is leaves Expression c s
    ∙ opened_by (is_within Expression s) (opened Expression s) _ (λ o. read (At Disjunct c o) >>= operation Expression c)
    ∙ bind_alike (enter Expression s) _ _ (λ o.
    ap (λ (f : ReadExpr). f >>= operation Expression c) (disjunct_is c o.1) ∙ regroup (read (At Conjunct c o.1)) (operations Disjunct c) (operation Expression c))

-- an expression of a level begins with a conjunct
pub level_is : (k : Level) (c : Bool) (s : State) → IsTrue (is_binary k) → read (At k c s) ≡ (enter k s >>= λ o. read (At Conjunct c o.1) >>= operations k c)
unfolding enter operations
level_is Expression c s h = expression_is c s
level_is Disjunct c s h = disjunct_is c s
level_is Compared c s h = compared_is c s
level_is Conjunct c s h = alone (read (At Conjunct c s))
  where
    alone : (found : ReadExpr) → found ≡ (found >>= λ l. Ok l)
    alone (Ok l) = refl
    alone (Err e) = refl
level_is Value c s h = absurd (no_operators h)
  where
    no_operators : IsTrue (is_binary Value) → ⊥
    no_operators h = cc

pub conjunct_is : (c : Bool) (s : State) → read (At Conjunct c s)
    ≡ choose {X = ReadExpr} (accept_keyword (codes "if") s)
    (choose {X = ReadExpr} (accept kinds.Slash s)
    (value s >>= operation Conjunct c)
    (λ op. chain Conjunct (t.Root op.0.0) op.1))
    (λ w. read (r.Conditional w.0 w.1))
unfolding expressions.conjunct_rule expressions.binary_rule operation leaves chain
conjunct_is c s =
    laws.level_is leaves Conjunct c s
    ∙ choose_alike (accept_keyword (codes "if") s) _ _ _ _
    (choose_alike (accept kinds.Slash s) _ _ _ _ (ap (λ (f : ReadExpr). f >>= operation Conjunct c) (laws.level_is leaves Value c s)) (λ op. refl))
    (λ w. refl)

pub value_is : (s : State) → value s
    ≡ choose {X = ReadExpr} (accept kinds.Bang s)
    (literal s >>= λ l. expressions.literal_or leaves read l.0 l.1)
    (λ b. value (with (noted features.NegationOperator b.0.0) b.1) >>= then_made t.Not)
unfolding expressions.value_rule leaves
value_is s =
    choose_alike (accept kinds.Bang s) _ _ _ _ refl (λ b. ap (λ (f : ReadExpr). f >>= then_made t.Not) (laws.level_is leaves Value false (with (noted features.NegationOperator b.0.0) b.1)))

-- ---- the operators after a conjunct

-- no operator comes next
none_at : (k : Level) (s : State) (table_tokens : List TableToken) → front_operator table_tokens ≡ None → operator_by leaves k s table_tokens ≡ None
unfolding leaves
none_at k s [] h = refl
none_at k s (t ∷ ts) h = ap (λ (o : Option Operator). met_at leaves k s t ts o) h

operation_ends : (k : Level) (c : Bool) (l : Lhs) → front_operator l.1.left ≡ None → operation k c l ≡ Ok (l.0, closed k l.1)
unfolding operation expressions.accept_operator
operation_ends k c l h = ap (λ (o : Met _ _ _). expressions.binary_tail leaves read k c l o) (none_at k l.1 l.1.left h)

pub operations_end : (k : Level) (c : Bool) (l : Lhs) → front_operator l.1.left ≡ None → operations k c l ≡ Ok (l.0, closed k l.1)
unfolding operations
operations_end Expression c l h = rw (operation_ends Compared c l h, operation_ends Disjunct c l h) (operation_ends Expression c l h)
operations_end Disjunct c l h = rw (operation_ends Compared c l h) (operation_ends Disjunct c l h)
operations_end Compared c l h = operation_ends Compared c l h
operations_end Conjunct c l h = refl
operations_end Value c l h = refl
