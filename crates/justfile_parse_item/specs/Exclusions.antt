-- Attributes of a recipe that exclude each other.
use Rattle.std.specs.Prelude.{◌≡◌, List, [], ◌∷◌, Option, Some, None}
use Rattle.justfile_attribute_rules.specs.RuleErrors.{IsKindOfRule}
use Rattle.justfile_token.specs.declared.compile_error_kind.CompileErrorKind.{CompileErrorKind}
use Rattle.justfile_token.specs.declared.token.Token.{Token}
use Rattle.justfile_model.specs.Meanings.RecipeRules.{exclusions_broken}
use Rattle.justfile_model.specs.Meanings.Rules.{Broken}
use Rattle.justfile_model.specs.Trees.Tree.{Entry}
use Rattle.justfile_expression.specs.LeafViews.{views_leaves}
use Rattle.justfile_expression.specs.LeafTree.{Leaf}

-- The kind of error is that of the first broken rule; there is none if no rule is broken.
abbrev pub IsKindOfFirst : (recipe : Token) → List (Broken Token) → Option CompileErrorKind → Type 0
IsKindOfFirst recipe [] None = Unit {0}
IsKindOfFirst recipe (b ∷ bs) (Some kind) = IsKindOfRule recipe b.rule kind × (b.token ≡ recipe)
IsKindOfFirst recipe _ _ = ⊥

-- The kind of error is that of the first two attributes that exclude each other.
abbrev pub IsExclusion : (recipe : Token) → List (Entry Leaf Token) → Option CompileErrorKind → Type 0
IsExclusion recipe entries kind = IsKindOfFirst recipe (exclusions_broken views_leaves recipe entries) kind
