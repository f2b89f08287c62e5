use Rattle.std.proofs.Common.{◌≡◌, ◌∙◌, [], ◌∷◌, ◌++◌, sym}
use Rattle.justfile_chunks.proofs.PartTables.{tested}
use Rattle.justfile_chunks.proofs.parts.ends_cut.Goals as goal

pub returns : goal.returns
returns c h =
    let a = c.in-Some in
    let b = c.in-Some-split_last in
    let l = c.in-Some-split_last-2 in
    let first = a.ensures.cases in
    let second = b.ensures.cases in
    let third = l.ensures.cases in
    let e : c.args.table.now ≡ a.front.now ++ (a.field-0-0.now ∷ []) = cc in
    let f : a.front.now ≡ b.part.now ++ (b.field-0-0.now ∷ []) = cc in
    let g : b.part.now ≡ l.others.now ++ (l.field-0-0.now ∷ []) = cc in
    tested c.args.table.now a.front.now b.part.now l.others.now l.field-0-0.now b.field-0-0.now a.field-0-0.now e f g
    c.if-not-is_end_glued.false c.if-not-is_glued.false c.if-next-ne1.false (sym c.is_cut_at.ensures ∙ h)
