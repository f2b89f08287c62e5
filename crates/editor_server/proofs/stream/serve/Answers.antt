use Rattle.std.proofs.Common.{arith}
use Rattle.editor_server.proofs.Going.{begins, exits_after_all, exits_after_one, goes_on}
use Rattle.editor_server.proofs.Kept.{known_empty}
use Rattle.editor_server.proofs.stream.serve.Goals as goal

pub loop-init : goal.loop-init
loop-init g c = record {
  known = known_empty g.L.Language.knows c.new-server.result.documents.list c.new-server.ensures.documents;
  going =
      begins g.L.Language.knows g.L.Language.finds g.L.Language.mentioned g.L.Language.formats g.L.Language.unformatted g.L.Language.names g.L.Language.linked g.L.Language.completed g.L.Language.fixed g.L.Language.signed g.L.Language.runs
      (g.R.Read.remaining c.args.reader.now) (g.W.Write.contents c.args.writer.now) c.new-server.result
      (record { stage = c.new-server.ensures.stage; none = c.new-server.ensures.documents; lost = c.new-server.ensures.lost });
}

pub loop-preserved : goal.loop-preserved
loop-preserved g c = record {
  known = c.answer.ensures.known;
  going =
      goes_on g.L.Language.knows g.L.Language.finds g.L.Language.mentioned g.L.Language.formats g.L.Language.unformatted g.L.Language.names g.L.Language.linked g.L.Language.completed g.L.Language.fixed g.L.Language.signed g.L.Language.runs
      (g.R.Read.remaining c.args.reader.now) (g.W.Write.contents c.args.writer.now) c.loop.counter c.loop.server c.answer.new.server (g.R.Read.remaining c.loop.reader) (g.R.Read.remaining c.read_message.new.input)
      (g.W.Write.contents c.loop.writer) (g.W.Write.contents c.answer.new.writer) c.in_ok-received.received c.in_ok-status.field-0
      c.in_default.is c.loop.invariant.going c.in_ok-received.ensures c.in_ok-status.ensures.takes;
}

pub returns-in-Some : goal.returns-in-Some
returns-in-Some g c =
    exits_after_one g.L.Language.knows g.L.Language.finds g.L.Language.mentioned g.L.Language.formats g.L.Language.unformatted g.L.Language.names g.L.Language.linked g.L.Language.completed g.L.Language.fixed g.L.Language.signed g.L.Language.runs
    (g.R.Read.remaining c.args.reader.now) (g.W.Write.contents c.args.writer.now) c.loop.counter c.loop.server c.answer.new.server (g.R.Read.remaining c.loop.reader) (g.R.Read.remaining c.read_message.new.input)
    (g.W.Write.contents c.loop.writer) (g.W.Write.contents c.answer.new.writer) c.in_ok-received.received c.in_ok-status.field-0
    c.in-Some.status c.in-Some.is c.loop.invariant.going c.in_ok-received.ensures c.in_ok-status.ensures.takes

pub returns : goal.returns
returns g c =
    exits_after_all g.L.Language.knows g.L.Language.finds g.L.Language.mentioned g.L.Language.formats g.L.Language.unformatted g.L.Language.names g.L.Language.linked g.L.Language.completed g.L.Language.fixed g.L.Language.signed g.L.Language.runs
    (g.R.Read.remaining c.args.reader.now) (g.W.Write.contents c.args.writer.now) c.loop.counter c.loop.server (g.R.Read.remaining c.loop.reader) (g.W.Write.contents c.loop.writer)
    (omega (arith, c.loop-test.false, c.loop.auto.counter-end)) c.loop.invariant.going
