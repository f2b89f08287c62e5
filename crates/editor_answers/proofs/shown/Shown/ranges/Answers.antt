use Rattle.editor_answers.proofs.shown.Shown.ranges.Goals as goal

pub loop-span-init : goal.loop-span-init
loop-span-init c = record { are = c.new-ranges.ensures.items; place = c.start-known.ensures.is c.args.self.now.encoding c.args.self.now.lines.text.now }

pub range_after-requires : goal.range_after-requires
range_after-requires c = c.loop-span.invariant.place
