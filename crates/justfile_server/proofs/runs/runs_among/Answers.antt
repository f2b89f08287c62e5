use Rattle.std.proofs.Common.{map, option_copied}
use Rattle.justfile_server.specs.Runs.{ran}
use Rattle.justfile_server.proofs.Runnable.{runs_more}
use Rattle.justfile_server.proofs.runs.runs_among.Goals as goal

pub loop-item-preserved : goal.loop-item-preserved
loop-item-preserved c =
    runs_more c.args.items.now c.loop-item.item-index c.item-item.result (option_copied c.runnable.result) (map ran c.loop-item.runs.items) (map ran c.push_run.new.runs.items) c.loop-item-test.true
    c.item-item.is c.runnable.ensures c.loop-item.invariant c.in_ok-push_run.ensures
