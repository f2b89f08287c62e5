use Rattle.std.proofs.Common.{◌≡◌, ◌++◌, codes, string_bytes}
use Rattle.std.specs.List.{flat_map}
use Rattle.line_diff.specs.Label.{escaped}
use Rattle.line_diff.proofs.label.in_quotes.Given as goal

-- the characters so far are in the label
abbrev pub invariant-loop-character : goal.invariant-loop-character
invariant-loop-character l = string_bytes l.label ≡ codes "\"" ++ flat_map escaped l.yielded
