use Rattle.std.proofs.Common.{refl}
use Rattle.std.specs.Char.{encode_utf8}
use Rattle.std.specs.Fmt.{digits}
use Rattle.std.specs.Str.{chars}
use Rattle.unicode_width.proofs.Computing.{unicode_width}
use Rattle.justfile_token.proofs.excerpt_examples.several_columns.Goals as goal

pub returns : goal.returns
unfolding chars digits encode_utf8 unicode_width
returns c = refl
