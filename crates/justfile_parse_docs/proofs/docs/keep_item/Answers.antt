use Rattle.std.proofs.Common.{◌∙◌, ap, arith, rules, set, sym}
use Rattle.std.proofs.lemmas.Grind.{common_steps}
use Rattle.justfile_item.specs.declared.item.Item.{Item}
use Rattle.justfile_parse_docs.proofs.KeptItems.{kept_newline, set_fields}
use Rattle.justfile_parse_docs.proofs.docs.keep_item.Goals as goal

pub returns-then-is_line_end-clause-trees : goal.returns-then-is_line_end-clause-trees
returns-then-is_line_end-clause-trees c =
    let xs = c.args.items.now.items in
    kept_newline xs c.args.kept c.args.index c.index.result.now c.requires.order (omega (arith, c.requires.within, c.args.items.now.ok.0)) c.index.ensures
    _ (ap (λ (i : Item). set xs c.args.kept i) c.make_line_end.ensures) (sym c.is_line_end.ensures ∙ c.if-is_line_end.true)

pub returns-then-is_line_end-clause-whole : goal.returns-then-is_line_end-clause-whole
returns-then-is_line_end-clause-whole c =
    let xs = c.args.items.now.items in
    let fields = set_fields xs _ c.args.kept _ (ap (λ (i : Item). set xs c.args.kept i) c.make_line_end.ensures) tt c.requires.fields in
    record { len = first_of (grind (arith, common_steps), search rules); fields = fields }
