-- The features of expressions and attributes that require the setting `lists`.
use Rattle.std.specs.Prelude.{ℕ, Bool, true, false, List, [], ◌∷◌, ◌++◌, map, Option, Some, None, codes, if◌then◌else◌}
use Rattle.std.specs.Option.{option_map}
use Rattle.std.specs.Str.{bytes_eq}
use Rattle.justfile_vocabulary.specs.declared.list_feature.ListFeature.{ListFeature}
use Rattle.justfile_vocabulary.specs.declared.list_feature.ListFeature.TheVariants as features
use Rattle.justfile_model.specs.Trees.Tree.{ArgumentRules, Bound, Comparison, Expr}

-- a feature, and the projection of the token at which it is noted
abbrev pub Noted : Type 0 → Type 0
Noted B = ListFeature × B

-- the feature with another projection of its token
abbrev pub over_noted : {B D : Type 0} → (B → D) → Noted B → Noted D
over_noted g n = (n.0, g n.1)

-- the features of a construct: those of its attributes, and those of the rest
pub record ConstructFeatures (B : Type 0) : Type 0 where
  pub attributes : List (Noted B)
  pub content : List (Noted B)

-- the features with another projection of their tokens
abbrev pub over_features : {B D : Type 0} → (B → D) → ConstructFeatures B → ConstructFeatures D
over_features g f = record { attributes = map (over_noted g) f.attributes; content = map (over_noted g) f.content }

abbrev pub noted : {B : Type 0} → ListFeature → B → List (Noted B)
noted feature at = (feature, at) ∷ []

-- a comparison, unless it is the first one in a condition
abbrev pub compared : {B : Type 0} → (condition : Bool) → B → List (Noted B)
compared true at = []
compared false at = noted features.ComparisonOperator at

-- the feature of calling the function with this name
abbrev pub function_feature : (name : List ℕ) → Option ListFeature
function_feature name =
    if bytes_eq name (codes "bool") then Some features.BoolFunction
    else if bytes_eq name (codes "join_list") then Some features.JoinListFunction
    else if bytes_eq name (codes "num_jobs") then Some features.NumJobsFunction
    else if bytes_eq name (codes "show") then Some features.ShowFunction
    else if bytes_eq name (codes "split") then Some features.SplitFunction
    else if bytes_eq name (codes "which") then Some features.WhichFunction
    else None

abbrev pub noted_if : {B : Type 0} → Option ListFeature → B → List (Noted B)
noted_if None at = []
noted_if (Some feature) at = noted feature at

-- a feature at an optional key
abbrev pub noted_at : {B : Type 0} → ListFeature → Option B → List (Noted B)
noted_at feature None = []
noted_at feature (Some at) = noted feature at

-- the position of the key of an optional bound
abbrev pub bound_place : {B : Type 0} → Option (Bound B) → Option B
bound_place bound = option_map (λ (b : Bound _). b.key) bound

-- the feature of a condition that isn't a comparison
abbrev pub uncompared_feature : {A B : Type 0} → Expr A B → Option ListFeature
uncompared_feature (Comparison l operator token r) = None
uncompared_feature _ = Some features.NonComparisonCondition

-- a condition that isn't a comparison, noted at its first token
abbrev pub uncompared : {A B : Type 0} → Expr A B → B → List (Noted B)
uncompared e at = noted_if (uncompared_feature e) at

-- a call of a function, noted at its name
abbrev pub called : {B : Type 0} → (name : List ℕ) → B → List (Noted B)
called name at = noted_if (function_feature name) at

-- the features of an `arg` attribute, each noted at its key
abbrev pub rules_features : {A B : Type 0} → ArgumentRules A B → List (Noted B)
rules_features a =
    noted_at features.Flag a.flag ++ noted_at features.Multiple a.multiple ++ noted_at features.ArgMax (bound_place a.max)
    ++ noted_at features.ArgMin (bound_place a.min)
