-- How two expressions compare along their right sides: what is compared before these, and what after them.
use Rattle.std.specs.Prelude.{Option, None, Some}
use Rattle.std.specs.Global.{Box}
use Rattle.std.specs.declared.cmp.Ordering.{Ordering}
use Rattle.std.specs.declared.cmp.Ordering.TheVariants.{Equal}
use Rattle.justfile_token.specs.declared.token.Token.{Token}
use Rattle.justfile_model.specs.Trees.ExpressionCases.{case_node}
use Rattle.justfile_model.specs.Trees.Key.{Key, node, end, next}
use Rattle.justfile_model.specs.declared.expression_case.ExpressionCase.TheVariants as cases
use Rattle.justfile_expression.specs.Leaf.{KeyLeaf, token_key, operator_key}
use Rattle.justfile_expression.specs.Order.{key, optional_key}
use Rattle.justfile_expression.specs.declared.expression.Expression.{Expression, And', Comparison', Concatenation', Conditional', Join', ListConcatenation', Not', Or', Held-Expression-Assert-1 as OptionalExpression, None', Some'}

-- whether an optional expression is present: a key that has nothing of the expression
abbrev pub presence_key : OptionalExpression → Key KeyLeaf
presence_key None' = node 0 end
presence_key (Some' p e) = node 1 end

-- the same for an `Option` of a box
abbrev pub option_presence : Option (Box Expression) → Key KeyLeaf
option_presence None = node 0 end
option_presence (Some e) = node 1 end

-- the key of an expression up to its right side; for a conditional also whether it has an `else` branch
abbrev pub left_key : Expression → Key KeyLeaf
left_key (And' p lhs q rhs) = case_node cases.And (next (key lhs) end)
left_key (Comparison' p lhs o q rhs t) = case_node cases.Comparison (next (key lhs) (next (operator_key o) end))
left_key (Concatenation' p lhs t q rhs) = case_node cases.Concatenation (next (key lhs) (next (token_key t) end))
left_key (Conditional' p condition q branch otherwise) =
    case_node cases.Conditional (next (key condition) (next (key branch) (next (presence_key otherwise) end)))
left_key (Join' lhs t q rhs) = case_node cases.Join (next (optional_key lhs) (next (token_key t) end))
left_key (ListConcatenation' p lhs t q rhs) = case_node cases.ListConcatenation (next (key lhs) (next (token_key t) end))
left_key (Not' p operand) = case_node cases.Not end
left_key (Or' p lhs q rhs) = case_node cases.Or (next (key lhs) end)
left_key e = key e

-- the token that is compared after the right side: the operator of a comparison
abbrev pub token_after : Expression → Option Token
token_after (Comparison' p lhs o q rhs t) = Some t
token_after e = None

-- two optional values compare by `cmp` if both are present, and are equal otherwise
abbrev pub both_cmp : {X : Type 0} → (X → X → Ordering) → Option X → Option X → Ordering
both_cmp cmp (Some x) (Some y) = cmp x y
both_cmp cmp x y = Equal
