use Rattle.std.proofs.Common.{◌∙◌, ◌∷◌, ◌++◌, [], ap, arith, get_or, length, map}
use Rattle.std.proofs.lemmas.List.{get_or_default, take_all}
use Rattle.justfile_problems.specs.declared.steps.Step.{Step}
use Rattle.justfile_problems.proofs.Rings.{read_more, read_result}
use Rattle.justfile_problems.proofs.circular.read.Goals as goal

pub loop-index-init : goal.loop-index-init
loop-index-init c = λ d.
    c.in_ok-push_use.ensures ∙ ap (λ l. l ++ c.index-steps-ring.result.used ∷ []) c.new-uses.ensures.items
    ∙ ap (λ (s : Step). s.used ∷ []) (c.index-steps-ring.is ∙ get_or_default c.args.steps.now c.args.ring.now.first c.index-steps-ring.result d c.requires.first)

pub loop-index-preserved : goal.loop-index-preserved
loop-index-preserved c =
    read_more c.args.steps.now c.args.ring.now.first c.args.ring.now.others.items c.deref-index-items.result.now c.loop-index.index-index c.loop-index.uses.items _ c.index-steps-index.result
    c.deref-index-items.ensures.value (omega (arith, c.loop-index-test.true, ap length c.deref-index-items.ensures.value)) c.requires.others c.index-steps-index.is c.loop-index.invariant
    c.in_ok-push_use-2.ensures

pub returns : goal.returns
returns c =
    read_result c.turned.result c.args.steps.now c.args.ring.now c.loop-index.uses.items _
    (λ d.
    c.loop-index.invariant d
    ∙ ap (λ l. (get_or c.args.steps.now c.args.ring.now.first d).used ∷ map (λ index. (get_or c.args.steps.now index d).used) l)
    (take_all c.loop-index.index-index c.args.ring.now.others.items (omega (arith, c.loop-index-test.false, ap length c.deref-index-items.ensures.value)))) c.deref.ensures.value c.turned.ensures
