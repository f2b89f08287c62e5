use Rattle.std.proofs.Common.{arith}
use Rattle.editor_json.proofs.Changes.{next_change, no_change}
use Rattle.editor_json.proofs.notifications.changes_of.Goals as goal

pub returns-in_default : goal.returns-in_default
returns-in_default c = no_change c.args.values.now c.loop-value.value-index c.value-item.result (omega (arith, c.loop-value-test.true)) c.value-item.is c.in_default.ensures

pub loop-value-preserved : goal.loop-value-preserved
loop-value-preserved c =
    next_change c.args.values.now c.loop-value.value-index c.value-item.result (omega (arith, c.loop-value-test.true)) c.value-item.is c.loop-value.changes.items c.push.new.self.items c.in-Some.change
    c.loop-value.invariant c.in-Some.ensures c.in_ok-push.ensures.items
