use Rattle.std.proofs.Common.{◌∙◌, ◌-◌, List, arith, ap, map, refl, rules, sym, take}
use Rattle.std.proofs.lemmas.Grind.{common_steps}
use Rattle.std.specs.Option.{option_map}
use Rattle.justfile_item.specs.declared.item.Item.{Item}
use Rattle.justfile_parse_docs.specs.Docs.{doc_before, doc_taken}
use Rattle.justfile_parse_item.specs.Tree.{item_tree}
use Rattle.justfile_parse_docs.proofs.DocSteps.{item_fields}
use Rattle.justfile_parse_docs.proofs.KeptItems.{cut_fields, documented_fields, found_taken, kept_documented, kept_plain, takes_no_doc, swapped_fields, two_kept}
use Rattle.justfile_parse_docs.proofs.docs.move_item.Goals as goal
use Rattle.justfile_parse_docs.proofs.docs.move_item.Goals.{then-can_take_doc+in_default, else-can_take_doc}

pub find_doc-requires : goal.find_doc-requires
find_doc-requires c = cut_fields c.args.items.now.items _ c.args.kept (ap (λ (l : List Item). take c.args.kept l) c.deref.ensures.value) c.requires.fields

pub set_doc-requires-clause-fields : goal.set_doc-requires-clause-fields
set_doc-requires-clause-fields c = item_fields c.args.items.now.items c.args.index c.index_mut.result.now (omega (arith, c.requires.within, c.args.items.now.ok.0)) c.index_mut.ensures.value c.requires.fields

pub returns-in-Some-clause-trees : goal.returns-in-Some-clause-trees
returns-in-Some-clause-trees c =
    let xs = c.args.items.now.items in
    let kept = c.args.kept in
    let found = ap (λ (l : List Item). doc_before (map item_tree (take kept l))) (sym c.deref.ensures.value) ∙ sym c.find_doc.ensures ∙ ap (option_map _) c.in-Some.is in
    let two = two_kept xs kept _ found in
    kept_documented xs kept c.args.index c.index_mut.result.now c.requires.order (omega (arith, c.requires.within, c.args.items.now.ok.0)) c.index_mut.ensures.value (kept - 2) (kept - 1) (omega (arith, two)) (omega (arith, two))
    c.set_doc.new.item _ c.swap.new.self.items refl c.swap.ensures.items
    (found_taken _ _ _ c.in-Some.doc.now _ found c.in_ok-text.ensures.ok c.set_doc.ensures.tree)

pub returns-in-Some-clause-whole : goal.returns-in-Some-clause-whole
returns-in-Some-clause-whole c =
    let xs = c.args.items.now.items in
    let kept = c.args.kept in
    let found = ap (λ (l : List Item). doc_before (map item_tree (take kept l))) (sym c.deref.ensures.value) ∙ sym c.find_doc.ensures ∙ ap (option_map _) c.in-Some.is in
    let two = two_kept xs kept _ found in
    let fields = documented_fields xs kept c.args.index c.index_mut.result.now c.requires.order (omega (arith, c.requires.within, c.args.items.now.ok.0)) c.index_mut.ensures.value (kept - 2) (kept - 1) (omega (arith, two)) (omega (arith, two))
    c.set_doc.new.item _ c.swap.new.self.items refl c.swap.ensures.items c.set_doc.ensures.fields c.requires.fields in
    record { len = first_of (grind (arith, common_steps), search rules); fields = fields }

pub returns-clause-trees : goal.returns-clause-trees
returns-clause-trees c =
    kept_plain c.args.items.now.items c.args.kept c.args.index c.index.result.now c.requires.order (omega (arith, c.requires.within, c.args.items.now.ok.0)) c.index.ensures c.swap-2.new.self.items c.swap-2.ensures.items
    (elim c.if-can_take_doc.branch [
      | then-can_take_doc+in_default w ↦ ap (doc_taken _) (ap (λ (l : List Item). doc_before (map item_tree (take c.args.kept l))) (sym w.deref.ensures.value) ∙ sym w.find_doc.ensures ∙ ap (option_map _) w.in_default.is)
      | else-can_take_doc w ↦ takes_no_doc _ _ (sym c.can_take_doc.ensures ∙ w.if-can_take_doc.false)
    ])

pub returns-clause-whole : goal.returns-clause-whole
returns-clause-whole c =
    let fields = swapped_fields c.args.items.now.items c.swap-2.new.self.items c.args.kept c.args.index (omega (arith, c.requires.order, c.requires.within, c.args.items.now.ok.0)) (omega (arith, c.requires.within, c.args.items.now.ok.0)) c.swap-2.ensures.items c.requires.fields in
    record { len = first_of (grind (arith, common_steps), search rules); fields = fields }
