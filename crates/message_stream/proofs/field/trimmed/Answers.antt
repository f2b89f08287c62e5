use Rattle.std.proofs.Common.{refl}
use Rattle.std.proofs.lemmas.Str.Ascii.{trim_ascii_is}
use Rattle.message_stream.specs.Field.{without_front}
use Rattle.message_stream.proofs.field.trimmed.Goals as goal

pub returns : goal.returns
returns c = trim_ascii_is c.args.value.now c.trim_ascii.result.now (without_front c.args.value.now) refl c.trim_ascii.ensures.value
