use Rattle.std.proofs.Common.{rules}
use Rattle.std.specs.Ordering.{on}
use Rattle.justfile_expression.proofs.Compared.{at_end}
use Rattle.justfile_attribute.specs.Order.{by_content, literal_key}
use Rattle.justfile_attribute.proofs.parts_order.compare_rows.Goals as goal

pub returns : goal.returns
returns c =
    at_end (on literal_key by_content) c.args.literals.now.items c.deref-literal-items.result.now c.args.others.now.items c.loop-i.i c.len-2.result c.len-3.result c.cmp.result
    (search rules) (search rules) (search rules) c.loop-i-test.false (search rules) c.loop-i.invariant.0 c.loop-i.invariant.1 c.cmp.ensures
