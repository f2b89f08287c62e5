use denote.Enum.Bare.{same_true, true_same}
use Rattle.justfile_model.specs.contracts.parameter_kind.ParameterKind as parameter
use Rattle.justfile_expression.specs.contracts.list_operator.ListOperator as operator
use Rattle.justfile_vocabulary.specs.contracts.byte_class.ByteClass as class
use Rattle.justfile_vocabulary.specs.contracts.item_kind.ItemKind as item
use Rattle.justfile_vocabulary.specs.contracts.keyword.Keyword as keyword
use Rattle.justfile_vocabulary.specs.contracts.list_feature.ListFeature as feature
use Rattle.justfile_expression.proofs.laws.cases_equal.Goals as goal

pub returns : goal.returns
returns c = record {
  classes = λ x y. (same_true class.the_type tt x y, true_same class.the_type x y);
  keywords = λ x y. (same_true keyword.the_type tt x y, true_same keyword.the_type x y);
  items = λ x y. (same_true item.the_type tt x y, true_same item.the_type x y);
  features = λ x y. (same_true feature.the_type tt x y, true_same feature.the_type x y);
  operators = λ x y. (same_true operator.the_type tt x y, true_same operator.the_type x y);
  parameters = λ x y. (same_true parameter.the_type tt x y, true_same parameter.the_type x y);
}
