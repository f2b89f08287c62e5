use Rattle.std.proofs.Common.{◌≡◌, string_bytes, take}
use Rattle.std.specs.List.{fold}
use Rattle.justfile_files.specs.Path.{begun, plain, shown, with_part}
use Rattle.justfile_files.proofs.path.plain_of.Given as goal

abbrev pub invariant-loop-part : goal.invariant-loop-part
invariant-loop-part l = plain (string_bytes l.front) l.names.items ≡ fold (with_part l.absolute) (begun l.absolute) (shown (take l.part-index l.parts))
