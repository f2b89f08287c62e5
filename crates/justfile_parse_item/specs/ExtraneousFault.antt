-- The fault of attributes that precede no construct.
use Rattle.std.specs.Prelude.{◌≡◌, ℕ}
use Rattle.justfile_token.specs.declared.fault.Fault.{Fault}
use Rattle.justfile_token.specs.declared.fault.Fault.TheVariants as faults
use Rattle.justfile_token.specs.declared.token.Token.{Token}
use Rattle.justfile_parse_base.specs.ParseErrors.{IsExtraneous}

-- The fault is that of `count` attributes before a blank line or a comment.
abbrev pub IsExtraneousFault : ℕ → (opener : Token) → Fault → Type 0
IsExtraneousFault count opener (faults.Compile e) = IsExtraneous count e.kind × (e.token ≡ opener)
IsExtraneousFault count opener _ = ⊥
