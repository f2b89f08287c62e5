use Rattle.std.proofs.Common.{length, ◌<◌, arith, inr, subst}
use Rattle.text_parts.specs.Kept.{IsKeptTo}
use Rattle.text_parts.proofs.Keeping.{one_kept}
use Rattle.text_parts.proofs.after.kept_from.Goals as goal

pub kept-preserved : goal.kept-preserved
kept-preserved g c =
    let part = c.index-parts-front.result in
    let parts = c.args.parts.now in
    let text = c.args.text.now in
    let now = c.kept.front in
    let within : now.count < length parts = omega (arith, c.kept-test.true) in
    let kept : IsKeptTo text now.end c.args.shared.front part c.in-Some.end =
    subst (λ t. IsKeptTo t now.end c.args.shared.front part c.in-Some.end) c.as_bytes.ensures.value c.in-Some.ensures
    in
    record {
      start = inr kept.line;
      count = omega (arith, within);
      after = omega (arith, c.kept.invariant.after, kept.end_is);
      are = λ old s h.
          one_kept old text c.args.shared s g.C.Cut.is_part parts now part c.in-Some.end within c.index-parts-front.is kept
          (c.kept.invariant.are old s h);
    }
