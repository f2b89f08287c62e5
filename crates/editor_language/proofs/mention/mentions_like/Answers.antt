use Rattle.std.proofs.Common.{◌∙◌, sym}
use Rattle.editor_language.specs.declared.mention.Mention.{Mention}
use Rattle.editor_language.specs.Mentions.{is_like}
use Rattle.editor_language.proofs.Likes.{kept, left_out}
use Rattle.editor_language.proofs.mention.mentions_like.Goals.{then-is_like+in_ok-push, else-is_like}
use Rattle.editor_language.proofs.mention.mentions_like.Goals as goal

pub loop-mention-preserved : goal.loop-mention-preserved
loop-mention-preserved c = elim c.if-is_like.branch [
  | then-is_like+in_ok-push w ↦
      rw w.spans-is
      (kept (λ (m : Mention). m.span) (is_like c.args.name.now) c.args.mentions.now c.loop-mention.mention-index c.mention-item.result c.loop-mention.spans.items w.push.new.self.items
      c.loop-mention-test.true c.mention-item.is (sym c.is_like.ensures ∙ w.if-is_like.true) c.loop-mention.invariant w.in_ok-push.ensures.items)
  | else-is_like w ↦
      rw w.spans-is
      (left_out (λ (m : Mention). m.span) (is_like c.args.name.now) c.args.mentions.now c.loop-mention.mention-index c.mention-item.result c.loop-mention.spans.items
      c.loop-mention-test.true c.mention-item.is (sym c.is_like.ensures ∙ w.if-is_like.false) c.loop-mention.invariant)
]
