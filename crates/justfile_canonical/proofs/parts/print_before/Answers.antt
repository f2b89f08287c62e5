use Rattle.std.proofs.Common.{[]}
use Rattle.justfile_ast.specs.Ast.{features_of, tree_of}
use Rattle.justfile_canonical.proofs.Indented.{holds_items}
use Rattle.justfile_canonical.proofs.LineEnds.{part_line_end}
use Rattle.justfile_canonical.proofs.parts.print_before.Goals as goal

pub print_file-requires-clause-cooked : goal.print_file-requires-clause-cooked
print_file-requires-clause-cooked c = holds_items _ 0 [] c.in-Some.ast.items.items c.in-Some.ensures.given

pub print_file-requires-clause-line_end : goal.print_file-requires-clause-line_end
print_file-requires-clause-line_end c =
    let p = c.in-Some.ensures in
    part_line_end c.args.is_first c.args.part.now p.text p.next (tree_of c.in-Some.ast) (features_of c.in-Some.ast) c.requires p.src_is p.read
