use Rattle.editor_server.specs.Changed.{AreKnown}
use Rattle.editor_server.proofs.Going.{Going}
use Rattle.editor_server.proofs.stream.serve.Given as goal

abbrev pub invariant-loop : goal.invariant-loop
invariant-loop g l = record {
  known : AreKnown g.L.Language.knows l.server.documents.list;
  going :
      Going g.L.Language.knows g.L.Language.finds g.L.Language.mentioned g.L.Language.formats g.L.Language.unformatted g.L.Language.names g.L.Language.linked g.L.Language.completed g.L.Language.fixed g.L.Language.signed g.L.Language.runs
      (g.R.Read.remaining l.initial.reader) (g.W.Write.contents l.initial.writer) l.counter l.server (g.R.Read.remaining l.reader) (g.W.Write.contents l.writer);
}
