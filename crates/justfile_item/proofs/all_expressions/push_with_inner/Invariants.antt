use Rattle.std.proofs.Common.{◌≡◌, ◌++◌}
use Rattle.justfile_inner_expressions.specs.Pushed.{referents}
use Rattle.justfile_item.specs.AllExpressions.{with_inner}
use Rattle.justfile_item.proofs.InnerExpressions.{left_along, steps_left}
use Rattle.justfile_item.proofs.all_expressions.push_with_inner.Given as goal

-- what was found and what is left along the path are the whole
abbrev pub invariant-loop-whole : goal.invariant-loop-whole
invariant-loop-whole l = referents l.found.items ++ left_along l.path.items ≡ referents l.fn.found.items ++ with_inner l.expression

abbrev pub decreases-loop-whole : goal.decreases-loop-whole
decreases-loop-whole l = steps_left l.path.items
