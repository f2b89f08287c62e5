use Rattle.justfile_canonical.proofs.Roots.{no_root, root_of}
use Rattle.justfile_canonical.proofs.root.parse_root.Goals as goal

pub returns-clause-ok : goal.returns-clause-ok
returns-clause-ok c =
    root_of c.args.path.now c.args.source.now c.new-numerator.result c.parse_root_with.new.numerator c.parse_root_with.result c.new-numerator.ensures.bindings
    c.new-numerator.ensures.recipes c.parse_root_with.ensures.ok

pub returns-clause-err : goal.returns-clause-err
returns-clause-err c =
    no_root c.args.path.now c.args.source.now c.new-numerator.result c.parse_root_with.new.numerator c.parse_root_with.result c.new-numerator.ensures.bindings
    c.new-numerator.ensures.recipes c.parse_root_with.ensures.err
