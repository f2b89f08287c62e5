-- What is known of a mention.
use Rattle.std.specs.Prelude.{ℕ, Bool, List, Option, string_bytes}
use Rattle.editor_language.specs.declared.mention.Mention.{Mention}
use Rattle.editor_language.specs.declared.mention.Role.{Role}
use Rattle.editor_language.specs.declared.parts.Span.{Span}

-- what is known of a mention
pub record Noted : Type 0 where
  pub role : Role
  pub name : List ℕ
  pub scope : Option ℕ
  pub span : Span
  pub defines : Bool

abbrev pub noted : Mention → Noted
noted m = record { role = m.role; name = string_bytes m.name; scope = m.scope; span = m.span; defines = m.defines }
