use Rattle.std.proofs.Common.{List, ℕ, subst, refl}
use Rattle.justfile_token.specs.Sink.{Puts}
use Rattle.justfile_token.proofs.PutLemmas.{failed_at, put_last}
use Rattle.justfile_recipe_header.proofs.Parts.{called}
use Rattle.justfile_recipe_header.proofs.unresolved_dependency.write_call.Goals as goal

pub returns-in_err-write_star : goal.returns-in_err-write_star
returns-in_err-write_star g c =
    let s = g.met.S.Sink in
    failed_at g.S.Sink.took g.S.Sink.failed _ c.from_residual.ensures.0 (subst (λ (t : List ℕ). g.S.Sink.failed c.args.sink.now t c.write_star.new.sink)
    (called c.args.dependency.now c.starred.result _ c.starred.ensures refl)
    (s.failed_before _ _ _ _ (s.failed_before _ _ _ _ (s.failed_before _ _ _ _ (s.failed_before _ _ _ _ c.in_err-write_star.ensures)))))

pub returns-in_err-put_piece : goal.returns-in_err-put_piece
returns-in_err-put_piece g c =
    let s = g.met.S.Sink in
    failed_at g.S.Sink.took g.S.Sink.failed _ c.from_residual-in_err-put_piece.ensures.0 (subst (λ (t : List ℕ). g.S.Sink.failed c.args.sink.now t c.put_piece.new.sink)
    (called c.args.dependency.now c.starred.result _ c.starred.ensures refl)
    (s.failed_before _ _ _ _ (s.failed_before _ _ _ _ (s.failed_before _ _ _ _ (s.failed_later _ _ _ _ _ c.in_ok-write_star.ensures c.in_err-put_piece.ensures)))))

pub returns-in_err-write_namepath : goal.returns-in_err-write_namepath
returns-in_err-write_namepath g c =
    let s = g.met.S.Sink in
    failed_at g.S.Sink.took g.S.Sink.failed _ c.from_residual-in_err-write_namepath.ensures.0 (subst (λ (t : List ℕ). g.S.Sink.failed c.args.sink.now t c.write_namepath.new.sink)
    (called c.args.dependency.now c.starred.result _ c.starred.ensures refl)
    (s.failed_before _ _ _ _ (s.failed_before _ _ _ _ (s.failed_later _ _ _ _ _ (s.took_more _ _ _ _ _ c.in_ok-write_star.ensures c.in_ok-put_piece.ensures) c.in_err-write_namepath.ensures))))

pub returns-in_err-write_each : goal.returns-in_err-write_each
returns-in_err-write_each g c =
    let s = g.met.S.Sink in
    failed_at g.S.Sink.took g.S.Sink.failed _ c.from_residual-in_err-write_each.ensures.0 (subst (λ (t : List ℕ). g.S.Sink.failed c.args.sink.now t c.write_each.new.sink)
    (called c.args.dependency.now c.starred.result c.deref.result.now c.starred.ensures c.deref.ensures.value)
    (s.failed_before _ _ _ _ (s.failed_later _ _ _ _ _ (s.took_more _ _ _ _ _ (s.took_more _ _ _ _ _ c.in_ok-write_star.ensures c.in_ok-put_piece.ensures) c.in_ok-write_namepath.ensures) c.in_err-write_each.ensures)))

pub returns : goal.returns
returns g c =
    let s = g.met.S.Sink in
    subst (λ (t : List ℕ). Puts g.S.Sink.took g.S.Sink.failed c.args.sink.now c.put_piece-2.result t c.put_piece-2.new.sink)
    (called c.args.dependency.now c.starred.result c.deref.result.now c.starred.ensures c.deref.ensures.value)
    (put_last g.S.Sink.took g.S.Sink.failed s.took_more s.failed_later _ _ _ _ _ _ (s.took_more _ _ _ _ _ (s.took_more _ _ _ _ _ (s.took_more _ _ _ _ _ c.in_ok-write_star.ensures c.in_ok-put_piece.ensures)
    c.in_ok-write_namepath.ensures) c.in_ok-write_each.ensures) c.put_piece-2.ensures)
