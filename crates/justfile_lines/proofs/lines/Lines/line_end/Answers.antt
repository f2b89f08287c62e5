use Rattle.std.proofs.Common.{arith}
use Rattle.justfile_lines.proofs.Searches.{before_next, start_read, up_to_next}
use Rattle.justfile_lines.proofs.lines.Lines.line_end.Goals as goal

pub returns-then-line-len-clause-last : goal.returns-then-line-len-clause-last
returns-then-line-len-clause-last c =
    λ offset _ e.
    before_next c.args.self.now.text.now c.args.line c.index.result.now offset
    (start_read _ c.args.self.now.starts.items _ _ c.args.self.now.are_starts (omega (arith, c.if-line-len.true, c.len.ensures)) c.index.ensures) e

pub returns-then-line-len-clause-in_line : goal.returns-then-line-len-clause-in_line
returns-then-line-len-clause-in_line c =
    λ offset le.
    up_to_next c.args.self.now.text.now c.args.line c.index.result.now offset
    (start_read _ c.args.self.now.starts.items _ _ c.args.self.now.are_starts (omega (arith, c.if-line-len.true, c.len.ensures)) c.index.ensures) le
