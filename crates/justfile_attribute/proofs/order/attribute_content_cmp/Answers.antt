use Rattle.std.proofs.Common.{◌∙◌, sym}
use Rattle.justfile_attribute.proofs.Ordered.{kinds_decide, same_kinds, fields_decide}
use Rattle.justfile_attribute.proofs.order.attribute_content_cmp.Goals as goal

pub returns-then-is_ne : goal.returns-then-is_ne
returns-then-is_ne c =
    kinds_decide c.args.attribute.now c.args.other.now c.compare_kinds-order.result c.compare_kinds-order.ensures (sym c.is_ne.ensures ∙ c.if-is_ne.true)

pub compare_fields-requires : goal.compare_fields-requires
compare_fields-requires c =
    same_kinds c.args.attribute.now c.args.other.now c.compare_kinds-order.result c.compare_kinds-order.ensures (sym c.is_ne.ensures ∙ c.if-is_ne.false)

pub returns : goal.returns
returns c =
    fields_decide c.args.attribute.now c.args.other.now c.compare_kinds-order.result c.compare_kinds-order.ensures c.compare_fields.result
    (sym c.is_ne.ensures ∙ c.if-is_ne.false) c.compare_fields.ensures
