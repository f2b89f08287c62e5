use Rattle.std.proofs.Common.{refl}
use Rattle.editor_answers.proofs.Spoilt.{no_order, other_meaning}
use Rattle.editor_answers.proofs.renames.checked.Goals as goal

pub returns-in-None-clause-failed : goal.returns-in-None-clause-failed
returns-in-None-clause-failed g c = (
  refl,
  no_order g.L.Language.knows g.L.Language.mentioned c.args.asked.now.shown.encoding c.args.asked.now.text.now c.args.mentions.now c.args.name.now c.args.new.now c.deref.result.now
      c.args.edits.items c.deref.ensures.value c.requires.puts c.in_ok-after.field-0 c.in_ok-after.ensures c.in-None.is,
)

pub returns-else-branch-clause-failed : goal.returns-else-branch-clause-failed
returns-else-branch-clause-failed g c = (
  refl,
  other_meaning g.L.Language.knows g.L.Language.mentioned c.args.asked.now.shown.encoding c.args.asked.now.text.now c.args.mentions.now c.args.name.now c.args.new.now c.deref.result.now
      c.args.edits.items c.deref.ensures.value c.requires.puts c.in_ok-after.field-0 c.in_ok-after.ensures c.in-Some.after c.in-Some.is c.as_str.result.now c.as_str.ensures.value
      c.in_ok-is_meant-in-Some.field-0 c.if-branch.false c.in_ok-is_meant-in-Some.ensures,
)
