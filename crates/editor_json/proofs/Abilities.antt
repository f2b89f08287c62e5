-- What the server can do, as text.
use Rattle.std.proofs.Common.{◌≡◌, ◌++◌, refl}
use Rattle.std.specs.Fmt.{digits}
use Rattle.serde_json.proofs.OnLiterals.{serde_json_on_literals}
use Rattle.serde_json.specs.Written.{compact_text}
use Rattle.justfile_lines.specs.declared.encoding.Encoding.{Encoding}
use Rattle.justfile_lines.specs.declared.encoding.Encoding.TheVariants.{Utf8, Utf16}
use Rattle.editor_json.specs.Sent.{abilities_data, encoding_name}
use Rattle.editor_json.specs.declared.results.TheConstants.{AFTER, BEFORE}

pub are_written : (encoding : Encoding) → BEFORE.now ++ (encoding_name encoding ++ AFTER.now) ≡ compact_text (abilities_data encoding)
unfolding serde_json_on_literals digits
are_written Utf8 = refl
are_written Utf16 = refl
