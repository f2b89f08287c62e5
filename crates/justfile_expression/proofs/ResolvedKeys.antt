-- Resolution keeps the content of an expression, which ignores the numbers of variables.
use mathlib.Core.Former.{Count}
use Rattle.std.proofs.Common.{◌≡◌, ◌∙◌, ℕ, List, Option, refl, sym}
use Rattle.justfile_numbers.specs.declared.number.Number.{Number}
use Rattle.justfile_model.specs.Trees.ContentKeys.{expr_key}
use Rattle.justfile_model.specs.Trees.ContentLeaf.{unseen}
use Rattle.justfile_model.specs.Trees.ExpressionCases.{case_node}
use Rattle.justfile_model.specs.Trees.Key.{leaf, end, next, sequence, present_key, map_key, map_keys}
use Rattle.justfile_model.specs.declared.expression_case.ExpressionCase.TheVariants as cases
use Rattle.justfile_expression.specs.Content.{content_key, content_of}
use Rattle.justfile_expression.specs.Leaf.{literal_key, operator_key, text_key, token_key}
use Rattle.justfile_expression.specs.LeafTree.{leaf_tree_of}
use Rattle.justfile_expression.specs.LeafViews.{views_leaves}
use Rattle.justfile_expression.specs.Order.{optional_key, row_keys, row_parts}
use Rattle.justfile_expression.specs.Resolved.{AreResolved, AreResolvedParts, IsResolved, IsResolvedOptional}
use Rattle.justfile_expression.specs.SeenKeys.{key_seen}
use Rattle.justfile_expression.specs.declared.expression.Expression.{Expression, And', Assert', Backtick, Call', Comparison', Concatenation', Conditional', FormatString', Group', Join', List', ListConcatenation', Not', Or', StringLiteral, Variable, Held-Expression-Assert-1 as OptionalExpression, None', Some', Row_of-Expression as ExpressionRow, end_of-Expression as row_end, more_of-Expression as row_more, Row_of-Expression-FormatString-1-2 as FormatRow, end_of-Expression-FormatString-1-2 as format_row_end, more_of-Expression-FormatString-1-2 as format_row_more}
use Rattle.std.specs.Prelude.{string_bytes}

module _ (numbers : (name : List ℕ) → Option Number) where
  mutual
    kept_content : (resolved original : Expression) → IsResolved numbers resolved original → content_key resolved ≡ content_key original
    kept_content (And' p lhs q rhs) (And' p' lhs' q' rhs') is =
        λ i. case_node cases.And (next (kept_content lhs lhs' is.0 i) (next (kept_content rhs rhs' is.1 i) end))
    kept_content (Assert' p condition message name) (Assert' p' condition' message' name') is =
        λ i. case_node cases.Assert (next (kept_content condition condition' is.0 i) (next (kept_optional message message' is.1 i) (next (map_key content_of (token_key (is.2 i).token)) end)))
    kept_content (Backtick contents t) (Backtick contents' t') is =
        λ i. case_node cases.Backtick (next (map_key content_of (text_key (string_bytes (is.0 i)))) (next (map_key content_of (token_key (is.1 i))) end))
    kept_content (Call' name m arguments) (Call' name' n arguments') is =
        λ i. case_node cases.Call (next (map_key content_of (token_key (is.0 i).token)) (next (sequence (kept_row _ _ arguments arguments' is.1 i)) end))
    kept_content (Comparison' p lhs o q rhs t) (Comparison' p' lhs' o' q' rhs' t') is =
        λ i. case_node cases.Comparison (next (kept_content lhs lhs' is.0 i) (next (map_key content_of (operator_key (is.1 i)))
        (next (kept_content rhs rhs' is.2 i) (next (map_key content_of (token_key (is.3 i))) end))))
    kept_content (Concatenation' p lhs t q rhs) (Concatenation' p' lhs' t' q' rhs') is =
        λ i. case_node cases.Concatenation (next (kept_content lhs lhs' is.0 i) (next (map_key content_of (token_key (is.1 i))) (next (kept_content rhs rhs' is.2 i) end)))
    kept_content (Conditional' p condition q branch otherwise) (Conditional' p' condition' q' branch' otherwise') is =
        λ i. case_node cases.Conditional (next (kept_content condition condition' is.0 i) (next (kept_content branch branch' is.1 i) (next (kept_optional otherwise otherwise' is.2 i) end)))
    kept_content (FormatString' start m parts) (FormatString' start' n parts') is =
        λ i. case_node cases.FormatString (next (map_key content_of (literal_key (is.0 i))) (next (sequence (kept_parts _ _ parts parts' is.1 i)) end))
    kept_content (Group' p contents) (Group' p' contents') is = λ i. case_node cases.Group (next (kept_content contents contents' is i) end)
    kept_content (Join' lhs t q rhs) (Join' lhs' t' q' rhs') is =
        λ i. case_node cases.Join (next (kept_optional lhs lhs' is.0 i) (next (map_key content_of (token_key (is.1 i))) (next (kept_content rhs rhs' is.2 i) end)))
    kept_content (List' m elements opener) (List' n elements' opener') is =
        λ i. case_node cases.List (next (sequence (kept_row _ _ elements elements' is.0 i)) (next (map_key content_of (token_key (is.1 i))) end))
    kept_content (ListConcatenation' p lhs t q rhs) (ListConcatenation' p' lhs' t' q' rhs') is =
        λ i. case_node cases.ListConcatenation (next (kept_content lhs lhs' is.0 i) (next (map_key content_of (token_key (is.1 i))) (next (kept_content rhs rhs' is.2 i) end)))
    kept_content (Not' p operand) (Not' p' operand') is = λ i. case_node cases.Not (next (kept_content operand operand' is i) end)
    kept_content (Or' p lhs q rhs) (Or' p' lhs' q' rhs') is =
        λ i. case_node cases.Or (next (kept_content lhs lhs' is.0 i) (next (kept_content rhs rhs' is.1 i) end))
    kept_content (StringLiteral l) (StringLiteral l') is = λ i. case_node cases.StringLiteral (next (map_key content_of (literal_key (is i))) end)
    kept_content (Variable name n) (Variable name' n') is =
        λ i. case_node cases.Variable (next (map_key content_of (token_key (is.0 i).token)) (next (leaf unseen) end))
    kept_content _ _ is = absurd is

    kept_optional : (resolved original : OptionalExpression) → IsResolvedOptional numbers resolved original
        → map_key content_of (optional_key resolved) ≡ map_key content_of (optional_key original)
    kept_optional None' None' is = refl
    kept_optional (Some' p e) (Some' p' e') is = λ i. present_key (kept_content e e' is i)
    kept_optional None' (Some' p' e') is = absurd is
    kept_optional (Some' p e) None' is = absurd is

    kept_row : (m n : Count) (resolved : ExpressionRow m) (originals : ExpressionRow n) → AreResolved numbers resolved originals
        → map_keys content_of (row_keys resolved) ≡ map_keys content_of (row_keys originals)
    kept_row m n row_end row_end is = refl
    kept_row m n (row_more e es) (row_more e' es') is = λ i. next (kept_content e e' is.0 i) (kept_row _ _ es es' is.1 i)
    kept_row m n row_end (row_more e' es') is = absurd is
    kept_row m n (row_more e es) row_end is = absurd is

    kept_parts : (m n : Count) (resolved : FormatRow m) (originals : FormatRow n) → AreResolvedParts numbers resolved originals
        → map_keys content_of (row_parts resolved) ≡ map_keys content_of (row_parts originals)
    kept_parts m n format_row_end format_row_end is = refl
    kept_parts m n (format_row_more e l es) (format_row_more e' l' es') is =
        λ i. next (sequence (next (kept_content e e' is.0 i) (next (map_key content_of (literal_key (is.1 i))) end))) (kept_parts _ _ es es' is.2 i)
    kept_parts m n format_row_end (format_row_more e' l' es') is = absurd is
    kept_parts m n (format_row_more e l es) format_row_end is = absurd is

  -- the key that the definitions give to its tree
  pub kept_key : (resolved original : Expression) → IsResolved numbers resolved original → expr_key views_leaves (leaf_tree_of resolved) ≡ expr_key views_leaves (leaf_tree_of original)
  kept_key resolved original is = sym (key_seen resolved) ∙ kept_content resolved original is ∙ key_seen original
