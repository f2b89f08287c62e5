use Rattle.justfile_canonical.proofs.reading.symbols.Goals as goal

pub returns-clause-ok : goal.returns-clause-ok
returns-clause-ok c = record { ast = c.in_ok-ast.ast; root = c.in_ok-ast.ensures.ok; is = c.in_ok-outline_file.ensures }
