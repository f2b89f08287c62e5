-- Features that require the setting `lists`, and their messages.
use Rattle.std.specs.Prelude.{ℕ, Bool, true, false, List, codes}
use Rattle.justfile_vocabulary.specs.declared.list_feature.ListFeature.{ListFeature}
use Rattle.justfile_vocabulary.specs.declared.list_feature.ListFeature.TheVariants as features

-- the feature is the call of a function; no other feature is
abbrev pub is_function : ListFeature → Bool
is_function features.BoolFunction = true
is_function features.JoinListFunction = true
is_function features.NumJobsFunction = true
is_function features.ShowFunction = true
is_function features.SplitFunction = true
is_function features.WhichFunction = true
is_function _ = false

-- the message for a file that uses the feature without the setting
abbrev pub feature_text : ListFeature → List ℕ
feature_text features.ArgMax = codes "`[arg(max)]` requires `set lists`"
feature_text features.ArgMin = codes "`[arg(min)]` requires `set lists`"
feature_text features.BoolFunction = codes "the `bool()` function requires `set lists`"
feature_text features.ComparisonOperator = codes "comparison operators require `set lists`"
feature_text features.Flag = codes "`flag` arguments require `set lists`"
feature_text features.IfWithoutElse = codes "`if` without `else` requires `set lists`"
feature_text features.JoinListFunction = codes "the `join_list()` function requires `set lists`"
feature_text features.ListConcatenationOperator = codes "list concatenation operator `++` requires `set lists`"
feature_text features.ListLiteral = codes "list literals require `set lists`"
feature_text features.LogicalOperator = codes "logical operators require `set lists`"
feature_text features.Multiple = codes "`[arg(multiple)]` requires `set lists`"
feature_text features.NegationOperator = codes "negation operator requires `set lists`"
feature_text features.NonComparisonCondition = codes "`if` and `assert` conditions other than comparisons require `set lists`"
feature_text features.NumJobsFunction = codes "the `num_jobs()` function requires `set lists`"
feature_text features.ShowFunction = codes "the `show()` function requires `set lists`"
feature_text features.SplitFunction = codes "the `split()` function requires `set lists`"
feature_text features.WhichFunction = codes "the `which()` function requires `set lists`"
