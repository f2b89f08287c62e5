-- Expressions that nest to the right, as a chain of links: each link holds what comes before its right side.
use Rattle.std.specs.Prelude.{ℕ, zero, suc, Bool, false, List, [], ◌∷◌, Option, Some, None, Ok, codes}
use Rattle.justfile_token.specs.declared.token.Token.{Token}
use Rattle.justfile_vocabulary.specs.declared.list_feature.ListFeature.TheVariants as features
use Rattle.justfile_vocabulary.specs.declared.token_kind.TokenKind.TheVariants as kinds
use Rattle.justfile_model.specs.Readers.ExpressionReader as expressions
use Rattle.justfile_model.specs.Readers.ExpressionReader.{closed}
use Rattle.justfile_model.specs.Grammars.Expressions.{ends_open}
use Rattle.justfile_model.specs.Grammars.Features.{noted, noted_if}
use Rattle.justfile_model.specs.Trees.Operators.{binary, feature_of, operand, right}
use Rattle.justfile_model.specs.Readers.ReaderState.{◌>>=◌, choose, with}
use Rattle.justfile_model.specs.Trees.Tree as tree
use Rattle.justfile_model.specs.Trees.Tree.{Expr}
use Rattle.justfile_model.specs.declared.level.Level.{Level}
use Rattle.justfile_model.specs.declared.level.Level.TheVariants.{Expression, Disjunct, Compared, Conjunct, Value}
use Rattle.justfile_model.specs.declared.operator.Operator.{Operator}
use Rattle.justfile_parse_expression.specs.TableReader as r
use Rattle.justfile_parse_expression.specs.TableReader.{At, Read, ReadExpr, State, accept, accept_operator, accept_keyword, braced, condition, enter, leaves, literal, read, value}
use Rattle.justfile_parse_expression.specs.declared.conditional.Branch as arms
use Rattle.justfile_parse_expression.specs.declared.conditional.Branch.TheVariants as branch_variants
use Rattle.justfile_parse_expression.specs.declared.expression.Link as links
use Rattle.justfile_parse_expression.specs.declared.expression.Link.TheVariants as link_variants
use Rattle.justfile_parse_expression.specs.declared.expression.Step as steps
use Rattle.justfile_parse_expression.specs.declared.expression.Step.TheVariants as step_variants
use Rattle.justfile_parse_expression.specs.Significant.{TableToken}
use Rattle.justfile_expression.specs.LeafTree.{Leaf, leaf_tree_of}

abbrev pub Tree : Type 0
Tree = Expr Leaf Token

-- what comes next in a chain: its last expression, or the function that a link applies to its right side
pub data StepTree : Type 0 where
  Last : Tree → StepTree
  Next : (Tree → Tree) → StepTree

abbrev pub link_of : links.Link → Tree → Tree
link_of (link_variants.Operation lhs operator token) = binary operator (leaf_tree_of lhs.value) token.now
link_of (link_variants.Root token) = tree.Root token.now
link_of (link_variants.Branch condition branch) = tree.IfElse (leaf_tree_of condition.value) (leaf_tree_of branch.value)

abbrev pub step_of : steps.Step → StepTree
step_of (step_variants.Last e) = Last (leaf_tree_of e.value)
step_of (step_variants.Next l) = Next (link_of l)

abbrev pub chain_tree : List links.Link → (last : Tree) → Tree
chain_tree [] last = last
chain_tree (l ∷ ls) last = link_of l (chain_tree ls last)

-- closes the expressions that the links of a chain are part of: at the loosest level, each right side is an expression of its own.
-- Before them `join_chain` closes two more: the last expression, and that of the last link, which isn't in the chain.
abbrev pub chain_closed : Level → List links.Link → State → State
chain_closed k [] s = s
chain_closed k (l ∷ ls) s = closed k (chain_closed k ls s)

-- what follows a left side: the operator, if there is one
abbrev pub link_by : (condition : Bool) → Tree × State → Option (Operator × TableToken × State) → Read StepTree
link_by c l None = Ok (Last l.0, l.1)
link_by c l (Some op) = Ok (Next (binary op.0 l.0 op.1.0), with (noted_if (feature_of op.0 c) op.1.0) op.2)

unfoldable pub link : Level → Tree × State → Read StepTree
link k l = link_by false l (accept_operator k l.1)

-- an operand and the operator after it, if there is one; or a prefix operator
unfoldable pub operand_step : State → Read StepTree
operand_step s =
    choose {X = Read StepTree} (accept_keyword (codes "if") s)
    (choose {X = Read StepTree} (accept kinds.Slash s)
    (value s >>= link Conjunct)
    (λ op. Ok (Next (tree.Root op.0.0), op.1)))
    (λ w. read (r.Conditional w.0 w.1) >>= λ e. Ok (Last e.0, e.1))

-- what comes next in a chain, after an operator of the level; comparisons form no chains
unfoldable pub step : Level → State → Read StepTree
step Expression s = enter Expression s >>= λ o. read (At (operand Expression) false o.1) >>= link Expression
step Disjunct s = enter Disjunct s >>= λ o. read (At (operand Disjunct) false o.1) >>= link Disjunct
step Compared s = read (At Conjunct false s) >>= λ e. Ok (Last e.0, e.1)
step Conjunct s = operand_step s
step Value s = value s >>= λ e. Ok (Last e.0, e.1)

-- the right side of an operator of the level, joined with its link
unfoldable pub chain : Level → (make : Tree → Tree) → State → ReadExpr
chain k make s = read (At (right k) false s) >>= λ e. Ok (make e.0, closed k e.1)

-- ---- conditionals

-- what comes next in a conditional: its end, or a branch and the `if` of the conditional after it
pub data BranchTree : Type 0 where
  End : Tree → BranchTree
  ElseIf : (Tree → Tree) → TableToken → BranchTree

abbrev pub branch_of : arms.Branch → BranchTree
branch_of (branch_variants.Last e) = End (leaf_tree_of e.value)
branch_of (branch_variants.Next l word) = ElseIf (link_of l) word.now

-- the `else` branch in braces; if it ends in a conditional without `else`, no `else` may follow
unfoldable pub last_branch : State → ReadExpr
last_branch s = braced s >>= λ o. r.ended_by (ends_open o.0) o.0 o.1

unfoldable pub branch : (word : TableToken) → State → Read BranchTree
branch word s =
    condition s >>= λ c.
    braced c.1 >>= λ b.
    choose {X = Read BranchTree} (accept_keyword (codes "else") b.1)
    (Ok (End (tree.If c.0 b.0), with (noted features.IfWithoutElse word.0) b.1))
    (λ e.
    choose {X = Read BranchTree} (accept_keyword (codes "if") e.1)
    (last_branch e.1 >>= λ o. Ok (End (tree.IfElse c.0 b.0 o.0), o.1))
    (λ i. Ok (ElseIf (tree.IfElse c.0 b.0) i.0, i.1)))

-- a conditional after its `if`, joined with the branch before it
unfoldable pub branches : (make : Tree → Tree) → (word : TableToken) → State → ReadExpr
branches make word s = read (r.Conditional word s) >>= λ e. Ok (make e.0, e.1)

-- ---- values

-- a value without `!` before it
unfoldable pub bare : State → ReadExpr
bare s = literal s >>= λ l. expressions.literal_or leaves read l.0 l.1

abbrev pub negated : (count : ℕ) → Tree → Tree
negated zero e = e
negated (suc n) e = tree.Not (negated n e)

-- a value after `count` times `!`
unfoldable pub negation : (count : ℕ) → State → ReadExpr
negation n s = bare s >>= λ e. Ok (negated n e.0, e.1)
