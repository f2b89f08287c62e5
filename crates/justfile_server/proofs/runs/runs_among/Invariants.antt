use Rattle.std.proofs.Common.{◌≡◌, map, take}
use Rattle.std.specs.List.{filter_map}
use Rattle.justfile_server.specs.Runs.{ran, runnable, to_run}
use Rattle.justfile_server.proofs.runs.runs_among.Given as goal

abbrev pub invariant-loop-item : goal.invariant-loop-item
invariant-loop-item l = map ran l.runs.items ≡ map to_run (filter_map runnable (take l.item-index l.items))
