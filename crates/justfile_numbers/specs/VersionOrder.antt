-- The order of versions.
use Rattle.std.specs.Ordering.{ordering_then, nat_cmp}
use Rattle.std.specs.declared.cmp.Ordering.{Ordering}
use Rattle.justfile_numbers.specs.declared.version.Version.{Version}

-- compares the major numbers, then the minor ones, then the patch numbers
abbrev pub version_cmp : Version → Version → Ordering
version_cmp v w = ordering_then (nat_cmp v.major w.major) (ordering_then (nat_cmp v.minor w.minor) (nat_cmp v.patch w.patch))
