use Rattle.editor_answers.proofs.problems.place_along.Goals as goal

pub on_to-requires-else-known-offset-clause-place : goal.on_to-requires-else-known-offset-clause-place
on_to-requires-else-known-offset-clause-place c = c.start.ensures.is c.args.encoding c.args.text.now
