use Rattle.std.proofs.Common.{◌≡◌, false}
use Rattle.std.specs.List.{list_any}
use Rattle.line_diff.specs.Label.{is_quoted}
use Rattle.line_diff.proofs.label.has_quoted.Given as goal

-- no character so far is in quotes
abbrev pub invariant-loop-character : goal.invariant-loop-character
invariant-loop-character l = list_any is_quoted l.yielded ≡ false
