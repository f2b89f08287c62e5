use Rattle.std.proofs.Common.{◌∙◌}
use Rattle.justfile_parse_attribute.proofs.ArgumentTexts.{text_among}
use Rattle.justfile_parse_attribute.proofs.arguments.Arguments.has_text.Goals as goal

pub returns : goal.returns
returns c = c.is_among.ensures ∙ text_among c.args.self.now c.args.key.now
