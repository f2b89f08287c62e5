use Rattle.message_stream.proofs.Headers.{line_read}
use Rattle.message_stream.proofs.header.read_line.Goals as goal

pub returns : goal.returns
returns g c = line_read _ _ _ _ c.new-line.ensures.items c.in_ok-read_until.ensures.none_lost c.in_ok-read_until.ensures.bytes c.in_ok-read_until.ensures.rest
