use Rattle.std.proofs.Common.{◌∙◌, ap, arith}
use Rattle.std.proofs.lemmas.List.{with_items_is}
use Rattle.justfile_written.specs.Written.{line_commented}
use Rattle.justfile_parse_attribute.proofs.read_attributes.attach_to_last.Goals as goal

pub returns : goal.returns
returns c =
    with_items_is c.args.pairs.now c.comment_last.new.pairs (omega arith) ∙ c.comment_last.ensures ∙ ap (line_commented c.args.comment) c.as_mut_slice.ensures.value
