-- The inside of literals in format strings and elsewhere: format mode and plain mode.
use Rattle.std.specs.Prelude.{ℕ, Bool, true, not, ◌&&◌, List, [], ◌∷◌}
use Rattle.justfile_token.specs.declared.string_kind.StringKind.{StringKind}
use Rattle.justfile_model.specs.declared.raw_text.RawText.TheVariants.{Literal}
use Rattle.justfile_model.specs.Lexing.Bytes.{is_interpolation_start}
use Rattle.justfile_model.specs.Lexing.LiteralText.{pieces_len, hides}

-- The number of bytes before the first `{{` that isn't hidden, or the length of the text if there is none. A `{{{{` hides the braces in it.
-- In double quotes a backslash hides the brace after it, or all four.
abbrev pub before_start : StringKind → List ℕ → ℕ
before_start k = pieces_len (hides (Literal k true)) is_interpolation_start 0

-- there is no `{{` in the text
abbrev pub has_no_start : List ℕ → Bool
has_no_start [] = true
has_no_start (b ∷ bs) = not (is_interpolation_start (b ∷ bs)) && has_no_start bs
