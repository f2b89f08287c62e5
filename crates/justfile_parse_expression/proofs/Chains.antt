-- The loop that parses a chain reads what the definitions read recursively.
use Rattle.std.proofs.Common.{◌≡◌, false, List, [], ◌∷◌, ◌++◌, Option, Some, None, Ok, Err, refl, sym, ap, ◌∙◌, codes}
use Rattle.justfile_vocabulary.specs.declared.token_kind.TokenKind.TheVariants as kinds
use Rattle.justfile_model.specs.Readers.ExpressionReader as expressions
use Rattle.justfile_model.specs.Readers.ExpressionReader.{closed, opened}
use Rattle.justfile_model.specs.Trees.Operators.{right}
use Rattle.justfile_model.specs.Trees.Tree as t
use Rattle.justfile_model.specs.Readers.ReaderState.{◌>>=◌, choose}
use Rattle.justfile_model.specs.declared.level.Level.{Level}
use Rattle.justfile_model.specs.declared.level.Level.TheVariants.{Expression, Disjunct, Compared, Conjunct, Value}
use Rattle.justfile_model.specs.declared.operator.Operator.{Operator}
use Rattle.justfile_parse_expression.specs.Chains.{StepTree, Last, Next, Tree, link, link_by, link_of, operand_step, chain, chain_closed, chain_tree, step}
use Rattle.justfile_parse_expression.specs.TableReader as r
use Rattle.justfile_parse_expression.specs.TableReader.{At, Read, ReadExpr, ReadError, State, accept, accept_operator, accept_keyword, enter, is_within, leaves, operation, read, value}
use Rattle.justfile_parse_expression.specs.MethodResults.{IsExpressionError, literal_read_error, read_error_at}
use Rattle.justfile_parse_expression.specs.declared.expression.Link.{Link}
use Rattle.justfile_parse_expression.specs.Significant.{TableToken}
use Rattle.justfile_parse_expression.specs.declared.expression_error.ExpressionError.{ExpressionError}
use Rattle.justfile_parse_expression.specs.declared.expression_error.ExpressionError.TheVariants.{Refused, Literal, Memory, Numbers}
use Rattle.justfile_model.proofs.Readers.ExpressionReading as laws
use Rattle.justfile_parse_expression.proofs.Operators.{conjunct_is, opened_by}
use Rattle.justfile_parse_expression.proofs.Rules.{bind_alike, bound}

-- ---- what was read before, and what is still read

abbrev pub with_chain : Level → List Link → ReadExpr → ReadExpr
with_chain k ls found = found >>= λ e. Ok (chain_tree ls e.0, chain_closed k ls e.1)

pub chain_pushed : (ls : List Link) (l : Link) (e : Tree) → chain_tree (ls ++ l ∷ []) e ≡ chain_tree ls (link_of l e)
chain_pushed [] l e = refl
chain_pushed (x ∷ ls) l e = ap (link_of x) (chain_pushed ls l e)

pub closed_pushed : (k : Level) (ls : List Link) (l : Link) (s : State) → chain_closed k (ls ++ l ∷ []) s ≡ chain_closed k ls (closed k s)
closed_pushed k [] l s = refl
closed_pushed k (x ∷ ls) l s = ap (λ (s : State). closed k s) (closed_pushed k ls l s)

pub regroup : (k : Level) (ls : List Link) (l : Link) (found : ReadExpr) → with_chain k (ls ++ l ∷ []) found ≡ with_chain k ls (found >>= λ e. Ok (link_of l e.0, closed k e.1))
regroup k ls l (Ok x) = rw (chain_pushed ls l x.0, closed_pushed k ls l x.1) refl
regroup k ls l (Err f) = refl

-- nothing is read yet
pub begins : (k : Level) (found : ReadExpr) → with_chain k [] found ≡ found
begins k (Ok x) = refl
begins k (Err f) = refl

-- ---- a step, and what goes on after it

abbrev after : Level → StepTree × State → ReadExpr
after k (Last e, s) = Ok (e, closed k s)
after k (Next make, s) = chain k make s

link_after : (k : Level) (l : Tree × State) (o : Option (Operator × TableToken × State)) → expressions.binary_tail leaves read k false l o ≡ (link_by false l o >>= after k)
unfolding leaves chain
link_after k l None = refl
link_after k l (Some op) = refl

operand_after : (k : Level) (found : ReadExpr) → (found >>= operation k false) ≡ ((found >>= link k) >>= after k)
unfolding operation link
operand_after k (Ok l) = link_after k l (accept_operator k l.1)
operand_after k (Err f) = refl

last_after : (k : Level) (found : ReadExpr) → ((s : State) → closed k s ≡ s) → found ≡ ((found >>= λ e. Ok (Last e.0, e.1)) >>= after k)
last_after k (Ok e) h = ap (λ (s : State). Ok (e.0, s)) (sym (h e.1))
last_after k (Err f) h = refl

slash_after : (o : Option (TableToken × State)) (x : ReadExpr) (y : Read StepTree) → x ≡ (y >>= after Conjunct)
    → choose {X = ReadExpr} o x (λ op. chain Conjunct (t.Root op.0.0) op.1)
    ≡ (choose {X = Read StepTree} o y (λ op. Ok (Next (t.Root op.0.0), op.1)) >>= after Conjunct)
slash_after None x y h = h
slash_after (Some op) x y h = refl

if_after : (o : Option (TableToken × State)) (x : ReadExpr) (y : Read StepTree) → x ≡ (y >>= after Conjunct)
    → choose {X = ReadExpr} o x (λ w. read (r.Conditional w.0 w.1))
    ≡ (choose {X = Read StepTree} o y (λ w. read (r.Conditional w.0 w.1) >>= λ e. Ok (Last e.0, e.1)) >>= after Conjunct)
if_after None x y h = h
if_after (Some w) x y h = last_after Conjunct (read (r.Conditional w.0 w.1)) (λ s. refl)

conjunct_after : (s : State) → read (At Conjunct false s) ≡ (operand_step s >>= after Conjunct)
unfolding operand_step
conjunct_after s = conjunct_is false s ∙ if_after (accept_keyword (codes "if") s) _ _ (slash_after (accept kinds.Slash s) _ _ (operand_after Conjunct (value s)))

disjunct_after : (s : State) → read (At Disjunct false s) ≡ (step Disjunct s >>= after Disjunct)
unfolding expressions.binary_rule operation enter step
disjunct_after s = laws.level_is leaves Disjunct false s ∙ operand_after Disjunct (read (At Compared false s))

expression_after : (s : State) → read (At Expression false s) ≡ (step Expression s >>= after Expression)
unfolding expressions.binary_rule operation enter leaves step
expression_after s =
    laws.level_is leaves Expression false s
    ∙ opened_by (is_within Expression s) (opened Expression s) _ (λ o. read (At Disjunct false o) >>= operation Expression false)
    ∙ bind_alike (enter Expression s) _ _ (λ o. operand_after Expression (read (At Disjunct false o.1)))
    ∙ bound (enter Expression s) (λ o. read (At Disjunct false o.1) >>= link Expression) (after Expression)

-- the right side of an operator is a step, and what goes on after it
right_is : (k : Level) (s : State) → read (At (right k) false s) ≡ (step k s >>= after k)
unfolding step
right_is Expression s = expression_after s
right_is Disjunct s = disjunct_after s
right_is Compared s = last_after Compared (read (At Conjunct false s)) (λ s. refl)
right_is Conjunct s = conjunct_after s
right_is Value s = laws.level_is leaves Value false s ∙ last_after Value (value s) (λ s. refl)

-- ---- the loop

module _ (k : Level) (s : State) (ls : List Link) (l : Link) where
  pub goes_on : (next : Link) (rest : State) → step k s ≡ Ok (Next (link_of next), rest)
      → with_chain k (ls ++ l ∷ []) (chain k (link_of next) rest) ≡ with_chain k ls (chain k (link_of l) s)
  unfolding chain
  goes_on next rest h =
      let one : read (At (right k) false s) ≡ chain k (link_of next) rest = rw (right_is k s, h) refl in
      regroup k ls l (chain k (link_of next) rest) ∙ sym (ap (λ (found : ReadExpr). with_chain k ls (found >>= λ e. Ok (link_of l e.0, closed k e.1))) one)

  pub ends : (e : Tree) (rest : State) → step k s ≡ Ok (Last e, rest)
      → with_chain k ls (chain k (link_of l) s) ≡ Ok (chain_tree ls (link_of l e), chain_closed k ls (closed k (closed k rest)))
  unfolding chain
  ends e rest h = rw (right_is k s, h) refl

  fails : (f : ReadError) → step k s ≡ Err f → with_chain k ls (chain k (link_of l) s) ≡ Err f
  unfolding chain
  fails f h = rw (right_is k s, h) refl

  -- where a step stops, the chain does
  pub stops : (stop : ExpressionError) (left : State) (found : ReadExpr) → with_chain k ls (chain k (link_of l) s) ≡ found → IsExpressionError stop left ⊥ (step k s) → IsExpressionError stop left ⊥ found
  stops (Refused refusal) left found is h = sym is ∙ fails (read_error_at refusal left) h
  stops (Literal refused) left found is h = sym is ∙ fails (literal_read_error refused.value.error) h
  stops Memory left found is h = tt
  stops Numbers left found is h = absurd h
