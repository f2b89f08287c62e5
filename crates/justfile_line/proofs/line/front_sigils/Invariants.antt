use Rattle.justfile_line.proofs.SigilLaws.{IsGathered}
use Rattle.justfile_line.proofs.line.front_sigils.Given as goal

abbrev pub invariant-loop-byte : goal.invariant-loop-byte
invariant-loop-byte l = IsGathered l.guards l.text l.byte-index l.sigils.keys
