use Rattle.std.proofs.Common.{◌-◌, drop}
use Rattle.justfile_problems.specs.Overridden.{AreKeysOf}
use Rattle.justfile_problems.proofs.overridden.keys_of.Given as goal

abbrev pub invariant-loop-passed : goal.invariant-loop-passed
invariant-loop-passed l = AreKeysOf (drop (l.count - l.passed) l.definitions) l.keys
