use Rattle.std.proofs.Common.{arith, ◌∙◌}
use Rattle.justfile_token.specs.Copies.{IsSameText}
use Rattle.justfile_token.proofs.CopiedLists.{one_more}
use Rattle.justfile_attribute.proofs.interpreters.copy_texts.Goals as goal

pub loop-text-preserved : goal.loop-text-preserved
loop-text-preserved c =
    one_more IsSameText c.loop-text.copies.items c.args.texts.now c.push.new.self.items c.loop-text.text-index c.in_ok-to_string.field-0 c.text-item.result
    (omega arith) c.text-item.is c.loop-text.invariant (c.in_ok-to_string.ensures.ok ∙ c.as_str.ensures.value) c.in_ok-push.ensures.items
