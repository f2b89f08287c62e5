-- What a failure leaves, and its reason.
use Rattle.std.proofs.Common.{ℕ, List, Option}
use Rattle.std.specs.Io.KnownBytes.{Keeps}
use Rattle.std.proofs.KnownBytes.{Appends-kept}
use Rattle.justfile_format.specs.Formatting.{Formats}
use Rattle.justfile_format.specs.Formatting.{FormatsBeginning}
use Rattle.system_run.proofs.Beginnings.{whole}

-- all was written, and stays as it is
pub unflushed : (source : List ℕ) (old mid new : Option (List ℕ)) → Formats source old mid → Keeps mid new → FormatsBeginning source old new
unflushed source old mid new f kept = record {
  canonical = f.canonical;
  formatted = f.formatted;
  written = whole old new f.canonical (Appends-kept old mid new f.canonical f.written kept);
}
