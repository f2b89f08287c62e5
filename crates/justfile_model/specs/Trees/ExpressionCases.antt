-- Keys of expressions: the label of such a key is the expression's case.
use Rattle.std.specs.Prelude.{ℕ}
use denote.Enum.Declared.{tag_of}
use Rattle.justfile_model.specs.Trees.Key.{Key, Keys, node}
use Rattle.justfile_model.specs.contracts.expression_case.ExpressionCase.{the_type}
use Rattle.justfile_model.specs.declared.expression_case.ExpressionCase.{ExpressionCase}

-- the index of a case in declared order, counted from 0
abbrev pub case_label : ExpressionCase → ℕ
case_label = tag_of the_type

-- the key of an expression of this case, whose parts have these keys
abbrev pub case_node : {L : Type 0} → ExpressionCase → Keys L → Key L
case_node c parts = node (case_label c) parts
