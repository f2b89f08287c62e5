use Rattle.std.proofs.Common.{◌≡◌, ◌+◌, ◌<◌, drop, length, rules, arith, subst, sym}
use Rattle.text_parts.specs.Kept.{AreLeft}
use Rattle.text_parts.proofs.Keeping.{left_past}
use Rattle.text_parts.proofs.after.passed.Goals as goal

pub old-preserved : goal.old-preserved
old-preserved g c =
    let parts = c.args.parts.now in
    let part = c.index-parts-place.result in
    let now = c.old.place in
    let within : now.index < length parts = omega (arith, c.old-test.true) in
    let from_is : c.in-Some.from ≡ now.from + part.size = search (rules, c.in-Some.ensures) in
    record {
      at = c.old.invariant.at;
      after = omega (arith, c.old.invariant.after);
      within = omega (arith, within);
      left = λ old h.
          subst (λ n. AreLeft g.C.Cut.is_part old n (drop (now.index + 1) parts)) (sym from_is)
          (left_past g.C.Cut.is_part old now.from parts now.index part within c.index-parts-place.is (c.old.invariant.left old h));
    }
