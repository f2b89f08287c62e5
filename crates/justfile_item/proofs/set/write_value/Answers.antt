use Rattle.std.proofs.Common.{ℕ, List, subst, sym, ◌∙◌}
use Rattle.justfile_token.proofs.PutLemmas.{failed_at}
use Rattle.justfile_item.proofs.ItemTexts.{value_other}
use Rattle.justfile_item.proofs.set.write_value.Goals as goal

pub returns-in_err-put_piece : goal.returns-in_err-put_piece
returns-in_err-put_piece g c =
    let s = g.met.S.Sink in
    failed_at g.S.Sink.took g.S.Sink.failed _ c.from_residual.ensures.0 (subst (λ (t : List ℕ). g.S.Sink.failed c.args.sink.now t c.put_piece.new.sink) (value_other c.args.setting.now (sym c.is_default.ensures ∙ c.if-is_default.false))
    (s.failed_before _ _ _ _ c.in_err-put_piece.ensures))

pub returns-in_err-write_setting : goal.returns-in_err-write_setting
returns-in_err-write_setting g c =
    let s = g.met.S.Sink in
    failed_at g.S.Sink.took g.S.Sink.failed _ c.from_residual-in_err-write_setting.ensures.0 (subst (λ (t : List ℕ). g.S.Sink.failed c.args.sink.now t c.write_setting.new.sink) (value_other c.args.setting.now (sym c.is_default.ensures ∙ c.if-is_default.false))
    (s.failed_later _ _ _ _ _ c.in_ok-put_piece.ensures c.in_err-write_setting.ensures))

pub returns : goal.returns
returns g c =
    let s = g.met.S.Sink in
    subst (λ (t : List ℕ). g.S.Sink.took c.args.sink.now t c.write_setting.new.sink) (value_other c.args.setting.now (sym c.is_default.ensures ∙ c.if-is_default.false))
    (s.took_more _ _ _ _ _ c.in_ok-put_piece.ensures c.in_ok-write_setting.ensures)
