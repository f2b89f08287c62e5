use Rattle.std.proofs.Common.{◌≡◌, ◌++◌, drop, false}
use Rattle.justfile_facts.specs.Suspects.{body_suspects}
use Rattle.justfile_facts.proofs.suspects.push_lines.Given as goal

-- what is found, with that of the rest, is what is to be found
abbrev pub invariant-loop-line : goal.invariant-loop-line
invariant-loop-line l = l.fn.found.items ++ body_suspects l.shell false l.lines ≡ l.found.items ++ body_suspects l.shell l.continues (drop l.line-index l.lines)
