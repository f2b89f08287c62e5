use Rattle.std.proofs.Common.{◌∙◌, arith}
use Rattle.justfile_chunks.proofs.PartTables.{known_next}
use Rattle.justfile_chunks.proofs.parts.is_cut_at.Goals as goal

pub loop-token-preserved : goal.loop-token-preserved
loop-token-preserved c =
    let l = c.loop-token in
    let next = known_next c.args.others.now l.token-index l.depth l.line c.loop-token-item.result (omega (arith, c.loop-token-test.true)) c.loop-token-item.is l.invariant in
    record {
      depth_is = c.depth_after-depth.ensures ∙ next.depth_is;
      line_is = c.line_after-line.ensures ∙ next.line_is;
      within = omega (arith, c.depth_after-depth.ensures, next.within);
    }
