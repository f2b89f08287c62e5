use Rattle.editor_answers.proofs.Renamed.{other_count}
use Rattle.editor_answers.proofs.renames.are_renamed.Goals as goal

pub returns-then-before-after : goal.returns-then-before-after
returns-then-before-after c = other_count c.args.name.now c.args.new.now c.args.before.now c.args.after.now c.if-before-after.true
