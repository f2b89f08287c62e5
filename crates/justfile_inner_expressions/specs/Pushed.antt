-- Expressions to which a vector of references refers.
use Rattle.std.specs.Prelude.{◌≡◌, List, [], ◌∷◌, ◌++◌, map, Option, None, Some}
use Rattle.std.specs.Borrow.{Bor}
use Rattle.std.specs.Global.{Box, Vec}
use Rattle.justfile_expression.specs.declared.expression.Expression.{Expression}

-- the expressions that references refer to
abbrev pub referents : List (Bor Expression) → List Expression
referents references = map (λ e. e.now) references

-- a vector refers to what it referred to before, and then to these expressions
abbrev pub ArePushed : (new old : Vec (Bor Expression)) → List Expression → Type 0
ArePushed new old expressions = referents new.items ≡ referents old.items ++ expressions

-- an optional expression, as a list
abbrev pub optional_expressions : Option (Box Expression) → List Expression
optional_expressions None = []
optional_expressions (Some e) = e.value ∷ []
