use Rattle.std.proofs.Common.{◌≡◌, ◌-◌, subst, arith}
use Rattle.justfile_model.specs.Lexing.Places.{IsPlace}
use Rattle.justfile_lex.proofs.PlaceLemmas.{place_on_line, line_within}
use Rattle.justfile_lex.proofs.place.place_after.Goals as goal

pub overflow_add-place : goal.overflow_add-place
overflow_add-place c = omega (arith, c.requires.order, c.requires.within, c.requires.start.column_within, c.line_len-plain.ensures, line_within c.args.bytes.now c.args.from (c.args.to - c.args.from))

pub overflow_step-at : goal.overflow_step-at
overflow_step-at c = omega (arith, c.requires.order, c.requires.within, c.line_len-plain.ensures, line_within c.args.bytes.now c.args.from (c.args.to - c.args.from))

pub loop-at-init : goal.loop-at-init
loop-at-init c = place_on_line _ _ (c.args.to - c.args.from) _ _ _ c.requires.start (omega (arith, c.requires.order, c.requires.within)) c.line_len-plain.ensures

pub returns : goal.returns
returns c =
    let end : c.loop-at.at ≡ c.args.to = omega (arith, c.requires.order, c.line_len-plain.ensures, line_within c.args.bytes.now c.args.from (c.args.to - c.args.from), c.loop-at.auto.at-end, c.loop-at-test.false) in
    subst (λ at. IsPlace c.args.bytes.now at c.loop-at.place.line c.loop-at.place.column) end c.loop-at.invariant
