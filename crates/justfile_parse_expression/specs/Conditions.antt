-- The conditions that a file is read under.
use Rattle.std.specs.Prelude.{ℕ, List, Result}
use Rattle.justfile_numbers.specs.declared.version.Version.{Version}
use Rattle.justfile_literal.specs.Literal.{answers_by}
use Rattle.justfile_model.specs.Grammars.Conditions.{Conditions}
use Rattle.justfile_model.specs.Meanings.Versions.{version_numbers}

-- the results of an expander, the running version, and how many expressions may be nested
abbrev pub conditions_of : {X : Type 0} → (answer : X → List ℕ → Result (List ℕ) (List ℕ)) → (expander : X) → (current : Version) → (limit : ℕ) → Conditions
conditions_of answer expander current limit = record { limit = limit; expander = answers_by answer expander; current = version_numbers current }
