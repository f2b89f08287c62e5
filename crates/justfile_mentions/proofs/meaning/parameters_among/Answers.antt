use Rattle.std.proofs.Common.{◌∙◌, sym}
use Rattle.justfile_references.specs.declared.reference.Reference.{Reference}
use Rattle.editor_language.proofs.Likes.{kept, left_out}
use Rattle.justfile_mentions.specs.Mentions.{defines_parameter}
use Rattle.justfile_mentions.proofs.meaning.parameters_among.Goals.{then-defines_parameter+in_ok-push, else-defines_parameter}
use Rattle.justfile_mentions.proofs.meaning.parameters_among.Goals as goal

pub loop-reference-preserved : goal.loop-reference-preserved
loop-reference-preserved c = elim c.if-defines_parameter.branch [
  | then-defines_parameter+in_ok-push w ↦
      rw w.parameters-is
      (kept (λ (r : Reference). r.token) defines_parameter c.args.references.now c.loop-reference.reference-index c.reference-item.result c.loop-reference.parameters.items w.push.new.self.items
      c.loop-reference-test.true c.reference-item.is (sym c.defines_parameter.ensures ∙ w.if-defines_parameter.true) c.loop-reference.invariant w.in_ok-push.ensures.items)
  | else-defines_parameter w ↦
      rw w.parameters-is
      (left_out (λ (r : Reference). r.token) defines_parameter c.args.references.now c.loop-reference.reference-index c.reference-item.result c.loop-reference.parameters.items
      c.loop-reference-test.true c.reference-item.is (sym c.defines_parameter.ensures ∙ w.if-defines_parameter.false) c.loop-reference.invariant)
]
