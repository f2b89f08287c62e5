-- Which parameters are seen where a name is used.
use Rattle.std.specs.Prelude.{ℕ, Bool, false, List, [], ◌∷◌, Option, None, Some, cond, nat_eq, nat_lt}
use Rattle.std.specs.Option.{option_or}
use Rattle.justfile_token.specs.declared.token.Token.{Token}
use Rattle.justfile_line.specs.Line.{first_text}
use Rattle.justfile_line.specs.declared.line.Line.{Line}
use Rattle.justfile_recipe_header.specs.declared.parameter.Parameter.{Parameter}
use Rattle.justfile_references.specs.Defaults.{is_in}
use Rattle.justfile_references.specs.declared.defaults.Defaults.{Defaults}

-- the offset of a parameter, if that is before another offset
abbrev pub offset_before : (end : ℕ) → (offset : ℕ) → Option ℕ
offset_before end offset = cond (nat_lt offset end) (Some offset) None

-- the offset of the last of these parameters before a token
abbrev pub last_before : Token → List Parameter → Option ℕ
last_before t [] = None
last_before t (p ∷ ps) = option_or (last_before t ps) (offset_before t.offset p.name.token.offset)

-- The offset before which the parameters are that are seen at a token, or none if all are. A default sees those before its own one, which is the last one before the token.
abbrev pub end_at : Defaults → List Parameter → Token → Option ℕ
end_at defaults parameters t = cond (is_in defaults t) (last_before t parameters) None

-- whether a text begins with `#`
abbrev pub begins_with_hash : Option (List ℕ) → Bool
begins_with_hash None = false
begins_with_hash (Some []) = false
begins_with_hash (Some (byte ∷ others)) = nat_eq byte 35

-- whether a line begins with a text that begins with `#`
abbrev pub is_comment : Line → Bool
is_comment line = begins_with_hash (first_text line)
