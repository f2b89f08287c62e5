-- Mentions of names.
use Rattle.std.specs.Prelude.{ℕ, Bool, false, true, ◌&&◌, ◌==◌, nat_le, Option, None, Some, string_bytes}
use Rattle.std.specs.Str.{bytes_eq}
use Rattle.editor_language.specs.declared.mention.Mention.{Mention}
use Rattle.editor_language.specs.declared.mention.Role.{Role}
use Rattle.editor_language.specs.declared.mention.Role.TheVariants.{Recipe, Variable, Function, Parameter, Constant}

abbrev pub role_number : Role → ℕ
role_number Recipe = 0
role_number Variable = 1
role_number Function = 2
role_number Parameter = 3
role_number Constant = 4

abbrev pub same_scope : (first second : Option ℕ) → Bool
same_scope None None = true
same_scope (Some first) (Some second) = first == second
same_scope None (Some second) = false
same_scope (Some first) None = false

-- whether two mentions are of the same name: it stands for the same, and is known in the same item alone, or in all of them
abbrev pub is_like : (first second : Mention) → Bool
is_like first second =
    role_number first.role == role_number second.role && same_scope first.scope second.scope && bytes_eq (string_bytes first.name) (string_bytes second.name)

-- whether the offset is in the mention, or at its end
abbrev pub is_at : (offset : ℕ) → Mention → Bool
is_at offset m = nat_le m.span.start offset && nat_le offset m.span.end
