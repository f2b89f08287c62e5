use Rattle.std.proofs.lemmas.Iterator.Consumers.{map_from_collect}
use Rattle.justfile_literal_parts.proofs.TextLines.{lines_yielded}
use Rattle.justfile_literal_parts.proofs.unindent.split_lines.Goals as goal

pub returns : goal.returns
returns c = map_from_collect _ c.collect.ensures.ran (lines_yielded c.args.text.now c.split_inclusive.ensures.text c.split_inclusive.ensures.pattern)
