use Rattle.justfile_canonical.proofs.Indented.{indented}
use Rattle.justfile_canonical.proofs.Roots.{root_from}
use Rattle.justfile_canonical.proofs.root.parse_root_with.Goals as goal

pub returns-clause-ok : goal.returns-clause-ok
returns-clause-ok c =
    root_from c.args.path.now c.args.source.now _ _ c.parse_source.result c.parse_source.ensures.parsed c.parse_source.ensures.module_path c.parse_source.ensures.working_directory

pub returns-clause-indented : goal.returns-clause-indented
returns-clause-indented c = indented c.args.path.now c.args.source.now _ _ c.parse_source.result c.parse_source.ensures.parsed
