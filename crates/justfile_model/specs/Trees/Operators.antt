-- The operators between two expressions, and their precedence.
use Rattle.std.specs.Prelude.{ℕ, Bool, true, false, Option, Some, None, nat_eq}
use Rattle.justfile_vocabulary.specs.declared.token_kind.TokenKind.{TokenKind}
use Rattle.justfile_vocabulary.specs.declared.token_kind.TokenKind.TheVariants as kinds
use Rattle.justfile_model.specs.declared.conditional_operator.ConditionalOperator.TheVariants.{Equality, Inequality, RegexMatch, RegexMismatch}
use Rattle.justfile_model.specs.declared.level.Level.{Level}
use Rattle.justfile_model.specs.declared.level.Level.TheVariants.{Expression, Disjunct, Compared, Conjunct, Value}
use Rattle.justfile_vocabulary.specs.declared.list_feature.ListFeature.{ListFeature}
use Rattle.justfile_vocabulary.specs.declared.list_feature.ListFeature.TheVariants as features
use Rattle.justfile_model.specs.declared.operator.Operator.{Operator}
use Rattle.justfile_model.specs.declared.operator.Operator.TheVariants.{Or, And, Compare, Join, ListConcatenation, Concatenation}
use Rattle.justfile_model.specs.Trees.Tree as tree
use Rattle.justfile_model.specs.Trees.Tree.{Expr}

abbrev pub rank : Level → ℕ
rank Expression = 4
rank Disjunct = 3
rank Compared = 2
rank Conjunct = 1
rank Value = 0

-- the level has binary operators
abbrev pub is_binary : Level → Bool
is_binary Expression = true
is_binary Disjunct = true
is_binary Compared = true
is_binary Conjunct = true
is_binary Value = false

-- the level of the left operand
abbrev pub operand : Level → Level
operand Expression = Disjunct
operand Disjunct = Compared
operand Compared = Conjunct
operand Conjunct = Value
operand Value = Value

-- the level of the right operand: the same level, or conjuncts after a comparison
abbrev pub right : Level → Level
right Expression = Expression
right Disjunct = Disjunct
right Compared = Conjunct
right Conjunct = Conjunct
right Value = Value

-- the binary operator of a token kind
abbrev pub operator_of : TokenKind → Option Operator
operator_of kinds.BarBar = Some Or
operator_of kinds.AmpersandAmpersand = Some And
operator_of kinds.BangEquals = Some (Compare Inequality)
operator_of kinds.EqualsTilde = Some (Compare RegexMatch)
operator_of kinds.BangTilde = Some (Compare RegexMismatch)
operator_of kinds.EqualsEquals = Some (Compare Equality)
operator_of kinds.Slash = Some Join
operator_of kinds.PlusPlus = Some ListConcatenation
operator_of kinds.Plus = Some Concatenation
operator_of _ = None

-- the level of an operator
abbrev pub level_of : Operator → Level
level_of Or = Expression
level_of And = Disjunct
level_of (Compare by) = Compared
level_of Join = Conjunct
level_of ListConcatenation = Conjunct
level_of Concatenation = Conjunct

-- the operator is at this level
abbrev pub is_at : Level → Operator → Bool
is_at level operator = nat_eq (rank level) (rank (level_of operator))

-- the feature of an operator; the first comparison in a condition has none
abbrev pub feature_of : Operator → (condition : Bool) → Option ListFeature
feature_of Or condition = Some features.LogicalOperator
feature_of And condition = Some features.LogicalOperator
feature_of (Compare by) true = None
feature_of (Compare by) false = Some features.ComparisonOperator
feature_of Join condition = None
feature_of ListConcatenation condition = Some features.ListConcatenationOperator
feature_of Concatenation condition = None

abbrev pub binary : {A B : Type 0} → Operator → (lhs : Expr A B) → B → (rhs : Expr A B) → Expr A B
binary Or lhs token rhs = tree.Or lhs rhs
binary And lhs token rhs = tree.And lhs rhs
binary (Compare by) lhs token rhs = tree.Comparison lhs by token rhs
binary Join lhs token rhs = tree.Join lhs token rhs
binary ListConcatenation lhs token rhs = tree.ListConcatenation lhs token rhs
binary Concatenation lhs token rhs = tree.Concatenation lhs token rhs
