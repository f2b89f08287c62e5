use Rattle.std.proofs.Common.{◌∙◌}
use Rattle.justfile_parse_base.proofs.TextSetLemmas.{among_is}
use Rattle.justfile_parse_base.proofs.text_sets.is_among.Goals as goal

pub returns : goal.returns
returns c = c.contains.ensures ∙ among_is c.args.text.now c.args.texts.now
