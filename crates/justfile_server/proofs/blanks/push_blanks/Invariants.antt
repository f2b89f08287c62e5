use Rattle.std.proofs.Common.{◌≡◌, ◌++◌, map, take}
use Rattle.justfile_server.specs.Blanks.{blank_for}
use Rattle.justfile_server.proofs.blanks.push_blanks.Given as goal

abbrev pub invariant-loop-byte : goal.invariant-loop-byte
invariant-loop-byte l = l.made.items ≡ l.fn.made.items ++ map blank_for (take l.byte-index l.text)
