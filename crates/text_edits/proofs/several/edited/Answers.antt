use Rattle.std.proofs.Common.{List, ◌∷◌, ℕ, Option, IfNone, IfSome, sym, subst, string_bytes}
use Rattle.std.specs.Str.{IsCharBoundary}
use Rattle.std.proofs.lemmas.Str.{IsCharBoundary-start}
use Rattle.justfile_lines.specs.declared.position.Place.{Place}
use Rattle.justfile_lines.specs.Positions.{IsPlace}
use Rattle.text_edits.specs.declared.edit.TextEdit.{TextEdit}
use Rattle.text_edits.specs.Edited.{IsEditedFrom}
use Rattle.text_edits.proofs.Edits.{applied_more, first_applied, never_applied, Rest, Puts}
use Rattle.text_edits.proofs.several.edited.Goals as goal

pub loop-edit-init : goal.loop-edit-init
loop-edit-init c =
    let text = c.args.text.now in
    record {
      place = c.start-last.ensures.is c.args.encoding text;
      boundary = subst (λ (n : ℕ). IsCharBoundary text n) (sym c.start-last.ensures.offset) (IsCharBoundary-start text c.utf8.text);
      applied = first_applied c.args.encoding text c.args.edits.now c.start-last.result.offset (string_bytes c.new-made.result) c.start-last.ensures.offset c.new-made.ensures.bytes;
    }

pub returns-in-None : goal.returns-in-None
returns-in-None c =
    never_applied c.args.encoding c.args.text.now c.args.edits.now c.loop-edit.edit-index c.loop-edit.last.offset (string_bytes c.loop-edit.made) c.edit-item.result
    c.loop-edit.invariant.applied c.loop-edit-test.true c.edit-item.is
    (subst (λ (o : Option Place). IfNone o ((edits : List TextEdit) (other : List ℕ)
    → IsEditedFrom c.args.encoding c.args.text.now (c.edit-item.result ∷ edits) c.loop-edit.last.offset other → ⊥)) c.in-None.is c.in_ok-end.ensures.none)

pub loop-edit-preserved : goal.loop-edit-preserved
loop-edit-preserved c =
    let encoding = c.args.encoding in
    let text = c.args.text.now in
    let last = c.loop-edit.last.offset in
    let edit = c.edit-item.result in
    record {
      place = subst (λ (o : Option Place). IfSome o (IsPlace encoding text)) c.in-Some.is c.in_ok-end.ensures.place;
      boundary = subst (λ (o : Option Place). IfSome o (λ p. IsCharBoundary text p.offset)) c.in-Some.is c.in_ok-end.ensures.boundary;
      applied =
          applied_more encoding text c.args.edits.now c.loop-edit.edit-index last (string_bytes c.loop-edit.made) edit c.loop-edit.invariant.applied c.loop-edit-test.true c.edit-item.is
          c.in-Some.end.offset (string_bytes c.push_edit.new.made)
          (subst (λ (o : Option Place). IfSome o (λ p. Puts encoding text edit last (string_bytes c.loop-edit.made) (string_bytes c.push_edit.new.made) p.offset)) c.in-Some.is
          c.in_ok-end.ensures.goes)
          (subst (λ (o : Option Place). IfSome o (λ p. Rest encoding text edit last p.offset)) c.in-Some.is c.in_ok-end.ensures.back);
    }
