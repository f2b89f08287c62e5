-- The token for the blanks at the start of a line if they differ from the open levels.
use Rattle.std.specs.Prelude.{ℕ, List, length, not, nat_eq, Ok, Err, if◌then◌else◌}
use Rattle.std.specs.List.{starts_with}
use Rattle.justfile_vocabulary.specs.declared.token_kind.TokenKind.TheVariants.{Indent}
use Rattle.justfile_model.specs.Lexing.Bytes.{is_mixed}
use Rattle.justfile_model.specs.Lexing.LexicalFault.{Here, InconsistentLeadingWhitespace, MixedLeadingWhitespace}
use Rattle.justfile_model.specs.Lexing.Modes.{Mode, innermost}
use Rattle.justfile_model.specs.Lexing.Next.{NextToken, tested_blanks}

-- blanks that aren't a level and don't continue a body
abbrev pub indent : Mode → List ℕ → NextToken
indent m found =
    if is_mixed (tested_blanks m found) then Err (Here (MixedLeadingWhitespace (tested_blanks m found)) 0 (length (tested_blanks m found)))
    else if not (starts_with nat_eq found (innermost m)) then Err (Here (InconsistentLeadingWhitespace (innermost m) found) 0 (length found))
    else Ok (Indent, length found)
