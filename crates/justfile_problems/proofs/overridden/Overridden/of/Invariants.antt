use Rattle.std.proofs.Common.{◌-◌, drop}
use Rattle.justfile_problems.specs.Overridden.{AreKeysOf, AreOverridden}
use Rattle.justfile_problems.proofs.overridden.Overridden.of.Given as goal

abbrev pub invariant-loop-passed : goal.invariant-loop-passed
invariant-loop-passed l = record { keys : AreKeysOf (drop (l.count - l.passed) l.definitions) l.later; offsets : AreOverridden l.fn.others (drop (l.count - l.passed) l.definitions) l.offsets }
