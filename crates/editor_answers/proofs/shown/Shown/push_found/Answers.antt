use Rattle.std.proofs.Common.{map, sym, append-nil}
use Rattle.editor_answers.specs.Ranges.{told}
use Rattle.editor_answers.proofs.shown.Shown.push_found.Goals as goal

pub loop-finding-init : goal.loop-finding-init
loop-finding-init c = record { are = sym (append-nil (map told c.args.diagnostics.now.items)); place = c.start-known.ensures.is c.args.self.now.encoding c.args.self.now.lines.text.now }

pub range_after-requires : goal.range_after-requires
range_after-requires c = c.loop-finding.invariant.place
