use Rattle.std.proofs.Common.{◌∙◌, sym}
use Rattle.justfile_model.specs.Trees.KeyLaws.{then_end}
use Rattle.justfile_attribute.specs.Order.{literal_key}
use Rattle.justfile_attribute.proofs.Ordered.{listed, then_are}
use Rattle.justfile_attribute.proofs.parts_order.compare_commands.Goals as goal

pub returns : goal.returns
returns c =
    then_are _ c.literal_content_cmp.ensures
    (c.compare_rows.ensures ∙ sym (listed literal_key c.args.interpreter.now.arguments.items c.args.other.now.arguments.items) ∙ sym (then_end _)) c.then.ensures
