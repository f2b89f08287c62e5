use Rattle.std.proofs.Common.{◌≡◌, ◌++◌, drop}
use Rattle.justfile_server.specs.Blanks.{without_wrong}
use Rattle.justfile_server.proofs.blanks.without_wrong.Given as goal

abbrev pub invariant-loop-part : goal.invariant-loop-part
invariant-loop-part l = l.made.items ++ without_wrong l.before (drop l.part-index l.parts) l.rest ≡ without_wrong 0 l.parts l.text
