use Rattle.std.proofs.Common.{◌≡◌, ℕ, List, ◌++◌, map, sym, ap, ◌∙◌, subst, refl}
use Rattle.std.proofs.lemmas.Simd.{map-map}
use Rattle.justfile_vocabulary.specs.Indentation.{indentation_text}
use Rattle.justfile_model.specs.Printed.NormalShape.{normal}
use Rattle.justfile_model.specs.Printed.Printing.{text}
use Rattle.justfile_model.specs.Trees.Tree.{item_shape_of}
use Rattle.justfile_token.proofs.PutLemmas.{failed_at}
use Rattle.justfile_item.specs.declared.item.Item.{Item}
use Rattle.justfile_item.specs.Item.{item_of, item_shape}
use Rattle.justfile_ast.specs.declared.separator.Separator.TheVariants.{Start}
use Rattle.justfile_ast.specs.Separator.{front_text, end_text}
use Rattle.justfile_ast.proofs.Separators.{normal_text}
use Rattle.justfile_ast.proofs.ast.write_ast.Goals as goal

-- the written pieces are the text of the normal shape
written : (items all others : List Item) (indentation : List ℕ) → items ≡ all → others ≡ all
    → front_text indentation Start (map item_shape items) ++ end_text (map item_shape others) ≡ text (normal (map item_shape_of (map item_of all))) indentation
written items all others indentation e f =
    ap (λ (l : List Item). front_text indentation Start (map item_shape l) ++ end_text (map item_shape others)) e
    ∙ ap (λ (l : List Item). front_text indentation Start (map item_shape all) ++ end_text (map item_shape l)) f
    ∙ normal_text indentation (map item_shape all)
    ∙ ap (λ s. text (normal s) indentation) (sym (map-map item_shape_of item_of all))

pub returns-in_err-write_items : goal.returns-in_err-write_items
returns-in_err-write_items g c =
    let s = g.met.S.Sink in
    failed_at g.S.Sink.took g.S.Sink.failed _ c.from_residual.ensures.0 (subst (λ (t : List ℕ). g.S.Sink.failed c.args.sink.now t c.write_items.new.sink)
    (written c.deref.result.now c.args.ast.now.items.items c.args.ast.now.items.items (indentation_text c.args.indentation) c.deref.ensures.value refl)
    (s.failed_before _ _ _ _ c.in_err-write_items.ensures.puts))

pub returns-in_err-write_end : goal.returns-in_err-write_end
returns-in_err-write_end g c =
    let s = g.met.S.Sink in
    failed_at g.S.Sink.took g.S.Sink.failed _ c.from_residual-in_err-write_end.ensures.0 (subst (λ (t : List ℕ). g.S.Sink.failed c.args.sink.now t c.write_end.new.sink)
    (written c.deref.result.now c.args.ast.now.items.items c.deref-2.result.now (indentation_text c.args.indentation) c.deref.ensures.value c.deref-2.ensures.value)
    (s.failed_later _ _ _ _ _ c.in_ok-write_items.ensures.puts c.in_err-write_end.ensures))

pub returns : goal.returns
returns g c =
    let s = g.met.S.Sink in
    subst (λ (t : List ℕ). g.S.Sink.took c.args.sink.now t c.write_end.new.sink)
    (written c.deref.result.now c.args.ast.now.items.items c.deref-2.result.now (indentation_text c.args.indentation) c.deref.ensures.value c.deref-2.ensures.value)
    (s.took_more _ _ _ _ _ c.in_ok-write_items.ensures.puts c.in_ok-write_end.ensures)
