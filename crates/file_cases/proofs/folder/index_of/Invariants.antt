use Rattle.std.proofs.Common.{◌≢◌, ◌≤◌, ◌<◌, ◌-◌, ℕ, get_or, length}
use Rattle.file_cases.specs.declared.folder.MemoryFile.{MemoryFile}
use Rattle.file_cases.proofs.folder.index_of.Given as goal

abbrev pub invariant-files : goal.invariant-files
invariant-files l = record {
  within : l.index ≤ length l.files;
  first : (k : ℕ) → k < l.index → (d : MemoryFile) → (get_or l.files k d).name.now ≢ l.name;
}

abbrev pub decreases-files : goal.decreases-files
decreases-files l = length l.files - l.index
