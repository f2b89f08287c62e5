use Rattle.std.proofs.Common.{arith, refl, subst}
use Rattle.justfile_analysis.specs.Ends.{IsStop}
use Rattle.justfile_analysis.proofs.WrongParts.{found}
use Rattle.justfile_analysis.proofs.wrong.wrong_part.Goals as goal

pub returns : goal.returns
returns c =
    let at = c.error_place-at in
    let next = c.next_part-next in
    let stop = subst (λ text. IsStop text next.result) c.as_bytes.ensures.value next.ensures.stop in
    found c.args.text.now c.args.start c.args.end at.result c.line_of.result next.result _ c.args.rejection.problem c.requires.end c.requires.rejected at.ensures.after
    (record { in_part = at.ensures.before; after = next.ensures.after; within = next.ensures.within; stop = stop })
    (omega arith) refl c.reach_of.ensures c.line_of.ensures.before c.in_ok-before.ensures
