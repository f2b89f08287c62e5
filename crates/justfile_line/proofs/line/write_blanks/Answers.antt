use Rattle.std.proofs.Common.{List, ℕ, subst, arith}
use Rattle.justfile_token.proofs.PutLemmas.{failed_at}
use Rattle.justfile_line.proofs.EqualBytes.{took_equal, failed_equal}
use Rattle.justfile_line.proofs.line.write_blanks.Goals as goal

pub loop-i-preserved : goal.loop-i-preserved
loop-i-preserved g c =
    let s = g.met.S.Sink in
    took_equal g.S.Sink.took g.S.Sink.failed s.took_more s.failed_later s.failed_before c.args.indentation.character c.args.indentation.count c.loop-i._i _ _ _ c.loop-i.invariant
    (subst (λ (t : List ℕ). g.S.Sink.took c.loop-i.sink t c.put.new.self) c.blank-blank.ensures c.in_ok-put.ensures.ok)

pub returns-in_err-put : goal.returns-in_err-put
returns-in_err-put g c =
    let s = g.met.S.Sink in
    failed_at g.S.Sink.took g.S.Sink.failed _ c.from_residual.ensures.0 (failed_equal g.S.Sink.took g.S.Sink.failed s.took_more s.failed_later s.failed_before c.args.indentation.character c.args.indentation.count c.loop-i._i (omega arith) _ _ _ c.loop-i.invariant
    (subst (λ (t : List ℕ). g.S.Sink.failed c.loop-i.sink t c.put.new.self) c.blank-blank.ensures c.in_err-put.ensures.err))
