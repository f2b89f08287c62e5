use Rattle.std.proofs.Common.{◌∙◌}
use Rattle.editor_server.proofs.Handled.{told}
use Rattle.editor_server.proofs.stream.refuse.Goals as goal

pub returns-in-Ok-clause-tells : goal.returns-in-Ok-clause-tells
returns-in-Ok-clause-tells g c =
    told c.send.result c.args.code c.args.message.now c.as_str.result.now (g.W.Write.contents c.args.writer.now) (g.W.Write.contents c.send.new.writer)
    (c.as_str.ensures.value ∙ c.in-Ok.ensures.exact) c.send.ensures.writes
