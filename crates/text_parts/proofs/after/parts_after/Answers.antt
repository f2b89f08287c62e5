use Rattle.std.proofs.Common.{◌≤◌, length, sym, subst, IfSome}
use Rattle.text_parts.specs.Kept.{IsFront, IsFrontOrAll}
use Rattle.text_parts.specs.Places.{IsPartStart}
use Rattle.text_parts.proofs.after.parts_after.Goals as goal

pub stretches-preserved : goal.stretches-preserved
stretches-preserved g c =
    let is_part = g.C.Cut.is_part in
    let text = c.args.text.now in
    let parts = c.find_stretch.new.parts.items in
    let kept = c.kept_from-front in
    record {
      start = subst (λ o. IfSome o (λ n. IsPartStart text n.end)) c.in-Some.is c.in_ok-next.ensures.start;
      count = subst (λ o. IfSome o (λ n. n.count ≤ length parts)) c.in-Some.is c.in_ok-next.ensures.count;
      are = λ old s f.
          subst (IsFrontOrAll is_part old text parts) c.in-Some.is
          (c.in_ok-next.ensures.are old s
          (subst (λ l. IsFront is_part old text l kept.result) c.deref.ensures.value
          (kept.ensures.are old s
          (subst (λ l. IsFront is_part old text l c.stretches.front) (sym c.deref.ensures.value) (c.stretches.invariant.are old s f)))));
    }
