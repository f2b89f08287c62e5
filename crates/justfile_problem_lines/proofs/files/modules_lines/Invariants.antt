use Rattle.std.proofs.Common.{string_bytes, take}
use Rattle.justfile_problem_lines.specs.Modules.{TellModules}
use Rattle.justfile_problem_lines.proofs.files.modules_lines.Given as goal

abbrev pub invariant-loop-index : goal.invariant-loop-index
invariant-loop-index l = TellModules l.imported l.files l.links (take l.index-index l.first) (string_bytes l.lines)
