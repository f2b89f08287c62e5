use Rattle.std.proofs.Common.{◌≡◌, ◌++◌, drop}
use Rattle.justfile_signatures.specs.Label.{parts_from}
use Rattle.justfile_signatures.proofs.label.parts_of.Given as goal

abbrev pub invariant-loop-byte : goal.invariant-loop-byte
invariant-loop-byte l = record {
  at : l.next ≡ l.byte-index;
  parts : l.parts.items ++ parts_from l.start l.byte-index (drop l.byte-index l.label) ≡ parts_from 0 0 l.label;
}
