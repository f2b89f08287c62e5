use Rattle.editor_answers.proofs.shown.Shown.range.Goals as goal

pub range_after-requires : goal.range_after-requires
range_after-requires c = c.start.ensures.is c.args.self.now.encoding c.args.self.now.lines.text.now
