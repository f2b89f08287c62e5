use Rattle.std.proofs.Common.{◌∙◌, sym}
use Rattle.justfile_model.specs.Trees.KeyLaws.{then_end}
use Rattle.justfile_attribute.specs.Order.{literal_key}
use Rattle.justfile_attribute.proofs.Ordered.{listed}
use Rattle.justfile_attribute.proofs.order.compare_metadata.Goals as goal

pub returns : goal.returns
returns c = rw c.in-Metadata.is (c.compare_rows.ensures ∙ sym (listed literal_key c.args.texts.now.items c.in-Metadata.other.items) ∙ sym (then_end _))
