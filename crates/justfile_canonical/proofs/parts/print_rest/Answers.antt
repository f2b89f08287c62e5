use Rattle.justfile_ast.specs.Ast.{features_of, tree_of}
use Rattle.justfile_canonical.proofs.LineEnds.{rest_line_end}
use Rattle.justfile_canonical.proofs.parts.print_rest.Goals as goal

pub print_file-requires-clause-line_end : goal.print_file-requires-clause-line_end
print_file-requires-clause-line_end c =
    rest_line_end c.args.part.now (tree_of c.in-Ok.ast) (features_of c.in-Ok.ast) c.requires c.in-Ok.ensures.ok.from.parsed.derives
