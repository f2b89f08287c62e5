use Rattle.std.specs.Io.KnownBytes.{Consumes}
use Rattle.justfile_format.proofs.input.read_all.Given as goal

-- the bytes are what was read
abbrev pub invariant-chunks : goal.invariant-chunks
invariant-chunks g l = Consumes (g.R.Read.remaining l.initial.reader) (g.R.Read.remaining l.reader) l.bytes.items
