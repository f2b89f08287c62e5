-- The results of expanding a text.
use Rattle.std.specs.Prelude.{◌≡◌, ℕ, List, Result, Err, string_bytes}
use Rattle.justfile_token.specs.declared.expander.ExpandFault.{ExpandFault}
use Rattle.justfile_token.specs.declared.expander.ExpandFault.TheVariants.{Refused, Memory}

-- The fault agrees with the answer: a refusal gives the answer's reason, and running out of memory tells nothing about the answer.
abbrev pub Refuses : Result (List ℕ) (List ℕ) → ExpandFault → Type 0
Refuses answer (Refused message) = answer ≡ Err (string_bytes message)
Refuses answer Memory = Unit {0}
