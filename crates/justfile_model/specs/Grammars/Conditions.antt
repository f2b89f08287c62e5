-- The conditions under which a file is parsed.
use Rattle.std.specs.Prelude.{ℕ}
use Rattle.justfile_model.specs.LiteralTexts.Literals.{Expansions}

-- a version of the program
pub record VersionNumbers : Type 0 where
  pub major : ℕ
  pub minor : ℕ
  pub patch : ℕ

-- the limit for nested expressions, the expander, and the current version
pub record Conditions : Type 0 where
  pub limit : ℕ
  pub expander : Expansions
  pub current : VersionNumbers

-- the conditions with another expander
abbrev pub with_expander : Expansions → Conditions → Conditions
with_expander expander conditions = record { limit = conditions.limit; expander = expander; current = conditions.current }

-- the conditions with another limit
abbrev pub with_limit : ℕ → Conditions → Conditions
with_limit limit conditions = record { limit = limit; expander = conditions.expander; current = conditions.current }
