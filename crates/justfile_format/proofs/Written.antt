-- What was written remains when the writer is flushed.
use Rattle.std.proofs.Common.{ℕ, List, Option}
use Rattle.std.specs.Io.KnownBytes.{Keeps}
use Rattle.std.proofs.KnownBytes.{Appends-kept}
use Rattle.justfile_format.specs.Formatting.{Formats}

pub flushed : (source : List ℕ) (old mid new : Option (List ℕ)) → Formats source old mid → Keeps mid new → Formats source old new
flushed source old mid new p kept = record { canonical = p.canonical; formatted = p.formatted; written = Appends-kept old mid new p.canonical p.written kept }
