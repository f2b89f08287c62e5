use Rattle.justfile_canonical.proofs.reading.query_root.Goals as goal

pub returns-clause-ok : goal.returns-clause-ok
returns-clause-ok g c = (c.in_ok-ast.ast, c.in_ok-ast.ensures.ok, c.in_ok-answer.ensures)
