use Rattle.std.proofs.Common.{arith}
use Rattle.justfile_lines.proofs.Searches.{start_read}
use Rattle.justfile_lines.proofs.lines.Lines.start.Goals as goal

pub returns : goal.returns
returns c =
    start_read c.args.self.now.text.now c.args.self.now.starts.items c.args.line c.index.result.now c.args.self.now.are_starts
    (omega (arith, c.args.self.now.are_starts.count, c.requires)) c.index.ensures
