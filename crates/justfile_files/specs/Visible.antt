-- Names and texts as messages and lists show them, so that no control character reaches a terminal.
use Rattle.std.specs.Prelude.{ℕ, Bool, true, false, ◌&&◌, not, ◌==◌, List, ◌++◌, chars, codes, encode_utf8, if◌then◌else◌}
use Rattle.std.specs.Char.{is_control}
use Rattle.std.specs.Fmt.{digits}
use Rattle.std.specs.List.{flat_map}

-- a control character as `\u{..}`, with its number in base 16, and any other one as it is; a line feed too, where these are kept
abbrev pub visible_character : (keeps_feeds : Bool) → ℕ → List ℕ
visible_character keeps_feeds c =
    if is_control c && not (keeps_feeds && c == 10) then codes "\\u{" ++ digits 16 false c ++ codes "}" else encode_utf8 c

abbrev pub visible_text : (keeps_feeds : Bool) → List ℕ → List ℕ
visible_text keeps_feeds text = flat_map (visible_character keeps_feeds) (chars text)

abbrev pub visible_name : List ℕ → List ℕ
visible_name name = visible_text false name

abbrev pub visible_lines : List ℕ → List ℕ
visible_lines lines = visible_text true lines
