use Rattle.editor_answers.proofs.Spoilt.{all_compared, not_right}
use Rattle.editor_answers.proofs.renames.is_meant.Goals as goal

pub returns-then-is_right : goal.returns-then-is_right
returns-then-is_right g c =
    all_compared g.L.Language.knows g.L.Language.mentioned c.args.name.now c.args.new.now c.args.before.now c.args.after.now c.in_ok-known.known c.is_right.result c.in_ok-known.ensures
    c.is_right.ensures c.in_ok-mentions.mentions.items c.deref.result.now c.are_renamed.result c.if-is_right.true c.in_ok-mentions.ensures c.deref.ensures.value c.are_renamed.ensures

pub returns : goal.returns
returns g c =
    not_right g.L.Language.knows g.L.Language.mentioned c.args.name.now c.args.new.now c.args.before.now c.args.after.now c.in_ok-known.known c.is_right.result c.in_ok-known.ensures
    c.is_right.ensures c.if-is_right.false
