use Rattle.editor_answers.proofs.colors.token_numbers.Goals as goal

pub loop-token-init : goal.loop-token-init
loop-token-init c = c.start-known.ensures.is c.args.shown.now.encoding c.args.shown.now.lines.text.now

pub range_after-requires : goal.range_after-requires
range_after-requires c = c.loop-token.invariant

pub loop-token-preserved : goal.loop-token-preserved
loop-token-preserved c = c.range_after.ensures.place
