use Rattle.std.proofs.Common.{ℕ, List, subst}
use Rattle.justfile_vocabulary.specs.Indentation.{indentation_text}
use Rattle.justfile_token.proofs.PutLemmas.{failed_at}
use Rattle.justfile_item.proofs.ShownDocs.{item_parts}
use Rattle.justfile_item.proofs.item.write_item.Goals as goal

pub returns-in_err-write_item_doc : goal.returns-in_err-write_item_doc
returns-in_err-write_item_doc g c =
    let s = g.met.S.Sink in
    failed_at g.S.Sink.took g.S.Sink.failed _ c.from_residual.ensures.0 (subst (λ (t : List ℕ). g.S.Sink.failed c.args.sink.now t c.write_item_doc.new.sink) (item_parts c.args.item.now (indentation_text c.args.indentation))
    (s.failed_before _ _ _ _ (s.failed_before _ _ _ _ c.in_err-write_item_doc.ensures)))

pub returns-in_err-write_item_attributes : goal.returns-in_err-write_item_attributes
returns-in_err-write_item_attributes g c =
    let s = g.met.S.Sink in
    failed_at g.S.Sink.took g.S.Sink.failed _ c.from_residual-in_err-write_item_attributes.ensures.0 (subst (λ (t : List ℕ). g.S.Sink.failed c.args.sink.now t c.write_item_attributes.new.sink) (item_parts c.args.item.now (indentation_text c.args.indentation))
    (s.failed_before _ _ _ _ (s.failed_later _ _ _ _ _ c.in_ok-write_item_doc.ensures c.in_err-write_item_attributes.ensures)))

pub returns-in_err-write_bare : goal.returns-in_err-write_bare
returns-in_err-write_bare g c =
    let s = g.met.S.Sink in
    failed_at g.S.Sink.took g.S.Sink.failed _ c.from_residual-in_err-write_bare.ensures.0 (subst (λ (t : List ℕ). g.S.Sink.failed c.args.sink.now t c.write_bare.new.sink) (item_parts c.args.item.now (indentation_text c.args.indentation))
    (s.failed_later _ _ _ _ _ (s.took_more _ _ _ _ _ c.in_ok-write_item_doc.ensures c.in_ok-write_item_attributes.ensures) c.in_err-write_bare.ensures))

pub returns : goal.returns
returns g c =
    let s = g.met.S.Sink in
    subst (λ (t : List ℕ). g.S.Sink.took c.args.sink.now t c.write_bare.new.sink) (item_parts c.args.item.now (indentation_text c.args.indentation))
    (s.took_more _ _ _ _ _ (s.took_more _ _ _ _ _ c.in_ok-write_item_doc.ensures c.in_ok-write_item_attributes.ensures) c.in_ok-write_bare.ensures)
