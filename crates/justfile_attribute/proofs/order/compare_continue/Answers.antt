use Rattle.std.proofs.Common.{◌∙◌, sym}
use Rattle.justfile_model.specs.Trees.KeyLaws.{then_end}
use Rattle.justfile_attribute.specs.Order.{signal_key}
use Rattle.justfile_attribute.proofs.Ordered.{listed}
use Rattle.justfile_attribute.proofs.order.compare_continue.Goals as goal

pub returns : goal.returns
returns c = rw c.in-Continue.is (c.cmp.ensures ∙ sym (listed signal_key c.args.signals.now.keys c.in-Continue.other.keys) ∙ sym (then_end _))
