use Rattle.std.proofs.Common.{rules}
use Rattle.editor_answers.proofs.problems.problems_told.Goals as goal

pub loop-problem-init : goal.loop-problem-init
loop-problem-init c = record { are = search rules; place = c.start-known.ensures.is c.args.encoding c.args.text.now }
