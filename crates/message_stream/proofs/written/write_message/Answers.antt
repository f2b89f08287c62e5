use Rattle.std.proofs.Common.{List, ℕ, subst, ◌∙◌}
use Rattle.std.specs.Io.KnownBytes.{Appends}
use Rattle.message_stream.proofs.Headers.{both_written}
use Rattle.message_stream.proofs.written.write_message.Goals as goal

pub returns : goal.returns
returns g c =
    both_written _ _ _ _ _ _ _
    (subst (λ (l : List ℕ). Appends (g.W.Write.contents c.args.writer.now) (g.W.Write.contents c.write_all.new.self) l)
    (c.as_bytes.ensures.value ∙ c.in_ok-header.ensures.ok) c.in_ok-write_all.ensures.bytes)
    (subst (λ (l : List ℕ). Appends (g.W.Write.contents c.write_all.new.self) (g.W.Write.contents c.write_all-2.new.self) l) c.as_bytes-2.ensures.value
    c.in_ok-write_all-2.ensures.bytes)
    c.flush.ensures.bytes
