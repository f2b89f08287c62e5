use Rattle.std.proofs.Common.{◌∙◌, List, [], ◌∷◌, ◌++◌, ap, sym}
use Rattle.text_edits.specs.declared.edit.Range.{Range}
use Rattle.editor_messages.specs.declared.answer.Highlight.{Highlight}
use Rattle.editor_language.specs.Mentions.{is_like}
use Rattle.editor_language.proofs.Likes.{kept, left_out}
use Rattle.editor_answers.specs.Ranges.{highlight_of}
use Rattle.editor_answers.proofs.shown.Shown.highlights.Goals.{then-is_like+in_ok-push, else-is_like}
use Rattle.editor_answers.proofs.shown.Shown.highlights.Goals as goal

pub loop-mention-init : goal.loop-mention-init
loop-mention-init c = record { are = c.new-highlights.ensures.items; place = c.start-known.ensures.is c.args.self.now.encoding c.args.self.now.lines.text.now }

pub range_after-requires : goal.range_after-requires
range_after-requires c = c.loop-mention.invariant.place

pub loop-mention-preserved : goal.loop-mention-preserved
loop-mention-preserved c =
    let shown = highlight_of c.args.self.now.encoding c.args.self.now.lines.text.now in
    let old = c.loop-mention.highlights.items in
    elim c.if-is_like.branch [
      | then-is_like+in_ok-push w ↦
          let one : Range → List Highlight = λ range. record { range = range; defines = c.mention-item.result.defines } ∷ [] in
          record {
            are =
                rw w.highlights-is
                (kept shown (is_like c.args.name.now) c.args.mentions.now c.loop-mention.mention-index c.mention-item.result old w.push.new.self.items c.loop-mention-test.true
                c.mention-item.is (sym c.is_like.ensures ∙ w.if-is_like.true) c.loop-mention.invariant.are
                (w.in_ok-push.ensures.items ∙ ap (λ r. old ++ one r) w.range_after.ensures.range));
            place = rw w.known-is w.range_after.ensures.place;
          }
      | else-is_like w ↦
          record {
            are =
                rw w.highlights-is
                (left_out shown (is_like c.args.name.now) c.args.mentions.now c.loop-mention.mention-index c.mention-item.result old c.loop-mention-test.true c.mention-item.is
                (sym c.is_like.ensures ∙ w.if-is_like.false) c.loop-mention.invariant.are);
            place = rw w.known-is c.loop-mention.invariant.place;
          }
    ]
