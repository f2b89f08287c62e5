use Rattle.std.proofs.Common.{◌∙◌, sym}
use Rattle.editor_language.specs.declared.mention.Mention.{Mention}
use Rattle.editor_language.proofs.Likes.{kept, left_out}
use Rattle.editor_answers.specs.Names.{is_wanted}
use Rattle.editor_answers.proofs.names.wanted_spans.Goals.{then-is_wanted+in_ok-push, else-is_wanted}
use Rattle.editor_answers.proofs.names.wanted_spans.Goals as goal

pub loop-mention-preserved : goal.loop-mention-preserved
loop-mention-preserved c = elim c.if-is_wanted.branch [
  | then-is_wanted+in_ok-push w ↦
      rw w.spans-is
      (kept (λ (m : Mention). m.span) (is_wanted c.args.all c.args.name.now) c.args.mentions.now c.loop-mention.mention-index c.mention-item.result c.loop-mention.spans.items
      w.push.new.self.items c.loop-mention-test.true c.mention-item.is (sym c.is_wanted.ensures ∙ w.if-is_wanted.true) c.loop-mention.invariant w.in_ok-push.ensures.items)
  | else-is_wanted w ↦
      rw w.spans-is
      (left_out (λ (m : Mention). m.span) (is_wanted c.args.all c.args.name.now) c.args.mentions.now c.loop-mention.mention-index c.mention-item.result c.loop-mention.spans.items
      c.loop-mention-test.true c.mention-item.is (sym c.is_wanted.ensures ∙ w.if-is_wanted.false) c.loop-mention.invariant)
]
