use Rattle.std.proofs.Common.{◌∙◌, [], ◌∷◌, ◌++◌, ap, sym}
use Rattle.justfile_inner_expressions.specs.Pushed.{referents}
use Rattle.justfile_item.proofs.InnerExpressions.{back, begun, deeper, deeper_falls, found_more}
use Rattle.justfile_item.proofs.all_expressions.push_with_inner.Goals as goal

pub loop-whole-init : goal.loop-whole-init
loop-whole-init c = begun c.args.expression c.args.found.now.items _ _ _ c.in_ok-push.ensures.items c.new-path.ensures.items c.in_ok-push-2.ensures.items

pub loop-whole-smaller-in-Continue-branch-5 : goal.loop-whole-smaller-in-Continue-branch-5
loop-whole-smaller-in-Continue-branch-5 c =
    deeper_falls c.loop-whole.path.items c.pop.new.self.items c.in-Some.whole c.in-Some.index c.in-Some.ensures.items _ c.in-Some-child.part c.in-Some-child.ensures.child
    (c.in_ok-push-5.ensures.items ∙ ap (λ path. path ++ (c.in-Some-child.part, 0) ∷ []) c.in_ok-push-4.ensures.items)

pub loop-whole-preserved-in-Continue-branch-5 : goal.loop-whole-preserved-in-Continue-branch-5
loop-whole-preserved-in-Continue-branch-5 c =
    found_more _ _ _ c.in-Some-child.part _ _ c.loop-whole.invariant c.in_ok-push-3.ensures.items
    (deeper c.loop-whole.path.items c.pop.new.self.items c.in-Some.whole c.in-Some.index c.in-Some.ensures.items _ c.in-Some-child.part c.in-Some-child.ensures.child
    (c.in_ok-push-5.ensures.items ∙ ap (λ path. path ++ (c.in-Some-child.part, 0) ∷ []) c.in_ok-push-4.ensures.items))

pub loop-whole-preserved : goal.loop-whole-preserved
loop-whole-preserved c =
    ap (λ es. referents c.loop-whole.found.items ++ es)
    (sym (back c.loop-whole.path.items c.pop.new.self.items c.in-Some.whole c.in-Some.index c.in-Some.ensures.items c.in_default-child.ensures.child))
    ∙ c.loop-whole.invariant
