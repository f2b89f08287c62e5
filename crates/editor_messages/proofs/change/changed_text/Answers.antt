use Rattle.std.proofs.Common.{string_bytes, arith}
use Rattle.editor_messages.proofs.Applied.{applied_slice}
use Rattle.editor_messages.proofs.change.changed_text.Goals as goal

pub changes-preserved : goal.changes-preserved
changes-preserved c = record {
  within = omega (arith, c.changes.invariant.within, c.min.ensures);
  applied =
      applied_slice c.args.encoding c.args.text.now c.args.changes.now c.changes.done c.min.result (string_bytes c.changes.made) c.as_str.result.now (string_bytes c.in_ok-made-2.made)
      c.changes.invariant.applied c.as_str.ensures.value c.in_ok-made-2.ensures;
}
