use Rattle.std.proofs.Common.{◌-◌, ◌∙◌, ap, refl, subst}
use Rattle.std.specs.List.{remove}
use Rattle.justfile_chunks.specs.PartTables.{IsTested}
use Rattle.justfile_chunks.proofs.PartTables.{cut_off, ends_once}
use Rattle.justfile_chunks.proofs.parts.take_next.Goals as goal

pub returns-clause-cut_off : goal.returns-clause-cut_off
returns-clause-cut_off c h text tokens utf8 lexed marked =
    let end = ends_once text tokens utf8 lexed in
    cut_off c.args.table.now.items (subst IsTested c.as_slice.ensures.value (c.if-not-ends_cut.ensures refl)) tokens end.0 end.1 marked
    c.remove-next.new.self.items (c.remove-next.ensures.items ∙ ap (λ n. remove c.args.table.now.items (n - 2)) (c.len.ensures ∙ c.args.table.now.ok.0))
