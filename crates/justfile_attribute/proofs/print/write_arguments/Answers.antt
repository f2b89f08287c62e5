use Rattle.std.proofs.Common.{◌+◌, ◌||◌, ◌∙◌, Bool, false, drop, subst, sym, arith}
use Rattle.std.proofs.lemmas.Option.{slice_get_within}
use Rattle.justfile_attribute.specs.Print.{slots, slots_text}
use Rattle.justfile_token.proofs.PutLemmas.{failed_at}
use Rattle.justfile_attribute.proofs.Walk.{Walked, is_there, walked_on, stopped, ended}
use Rattle.justfile_attribute.proofs.print.write_arguments.Goals as goal

pub returns-in_err-write_slot : goal.returns-in_err-write_slot
returns-in_err-write_slot g c =
    let s = g.met.S.Sink in
    failed_at g.S.Sink.took g.S.Sink.failed _ c.from_residual.ensures.0 (stopped g.S.Sink.took g.S.Sink.failed s.took_more s.failed_later s.failed_before _ _ _ c.loop-part.begun (slots c.args.attribute.now) c.loop-part.index c.loop-part.invariant
    _ c.in-Some.ensures.slot _ c.in_err-write_slot.ensures)

pub loop-part-smaller : goal.loop-part-smaller
loop-part-smaller g c = omega (arith, slice_get_within (slots c.args.attribute.now) c.loop-part.index _ (sym c.in-Some.ensures.slot))

pub loop-part-preserved : goal.loop-part-preserved
loop-part-preserved g c =
    let s = g.met.S.Sink in
    subst (λ (there : Bool). Walked g.S.Sink.took c.args.sink.now c.write_slot.new.sink (slots_text false (slots c.args.attribute.now))
    (slots_text (c.loop-part.begun || there) (drop (c.loop-part.index + 1) (slots c.args.attribute.now)))) (sym (c.is_some-begun.ensures ∙ is_there c.in-Some.part))
    (walked_on g.S.Sink.took g.S.Sink.failed s.took_more s.failed_later s.failed_before _ _ _ c.loop-part.begun (slots c.args.attribute.now) c.loop-part.index c.loop-part.invariant
    _ c.in-Some.ensures.slot _ c.in_ok-write_slot.ensures)

pub returns : goal.returns
returns g c =
    let s = g.met.S.Sink in
    ended g.S.Sink.took g.S.Sink.failed s.took_more s.failed_later s.failed_before _ _ _ c.loop-part.begun (slots c.args.attribute.now) c.loop-part.index c.loop-part.invariant
    c.in_default.ensures.slot _ _ c.write_closing.ensures
