use Rattle.std.proofs.Common.{◌≡◌, ◌≤◌, ◌+◌, ◌*◌, ◌-◌, ℕ, List, ◌++◌, length, take}
use Rattle.std.specs.List.{flat_map}
use Rattle.justfile_expression.specs.Children.{children}
use Rattle.justfile_expression.specs.Text.{text_of}
use Rattle.justfile_expression.proofs.Joined.{child_text}
use Rattle.justfile_expression.proofs.Nodes.{nodes}
use Rattle.justfile_expression.proofs.Walk.{rest_text, rest_nodes}
use Rattle.justfile_expression.proofs.print.+write.Given as goal

abbrev pub decreases-write_expression : goal.decreases-write_expression
decreases-write_expression g l = 2 * nodes l.expression.now + 1

abbrev pub decreases-write_to_last : goal.decreases-write_to_last
decreases-write_to_last g l = 2 * nodes l.expression.now

-- the text written so far, followed by the text of the rest, is the whole text
abbrev pub invariant-write_expression-loop-rest : goal.invariant-write_expression-loop-rest
invariant-write_expression-loop-rest g l = record {
  text : List ℕ;
  taken : g.S.Sink.took l.fn.sink text l.sink;
  completed : text ++ rest_text l.rest ≡ text_of l.fn.expression;
  no_more : rest_nodes l.rest ≤ nodes l.fn.expression + 1;
}

abbrev pub decreases-write_expression-loop-rest : goal.decreases-write_expression-loop-rest
decreases-write_expression-loop-rest g l = rest_nodes l.rest

abbrev pub invariant-write_to_last-loop-part : goal.invariant-write_to_last-loop-part
invariant-write_to_last-loop-part g l = g.S.Sink.took l.initial.sink (flat_map child_text (take l.index (children l.expression))) l.sink

abbrev pub decreases-write_to_last-loop-part : goal.decreases-write_to_last-loop-part
decreases-write_to_last-loop-part g l = length (children l.expression) - l.index
