use Rattle.std.proofs.Common.{◌≡◌, map}
use Rattle.justfile_parse_header.specs.Tree.{argument_tree}
use Rattle.justfile_parse_header.proofs.Stars.{kept_of}
use Rattle.justfile_parse_header.proofs.dependency.tree_arguments.Given as goal

abbrev pub invariant-loop-argument : goal.invariant-loop-argument
invariant-loop-argument l = map argument_tree l.kept.items ≡ map kept_of l.yielded
