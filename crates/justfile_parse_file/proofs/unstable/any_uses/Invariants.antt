use Rattle.std.proofs.Common.{◌≡◌, drop}
use Rattle.std.specs.List.{list_any}
use Rattle.justfile_parse_file.specs.Unstable.{uses_feature}
use Rattle.justfile_parse_file.proofs.unstable.any_uses.Given as goal

-- none of the items before uses the feature
abbrev pub invariant-loop-item : goal.invariant-loop-item
invariant-loop-item l = list_any (uses_feature l.feature) l.items ≡ list_any (uses_feature l.feature) (drop l.item-index l.items)
