use Rattle.std.proofs.Common.{◌≡◌, ◌+◌, ◌*◌, ℕ, ap, arith, take}
use Rattle.justfile_lines.specs.Positions.{feeds}
use Rattle.justfile_lines.proofs.Feeds.{feeds_more}
use Rattle.justfile_lines.proofs.walk.feeds.Goals as goal

pub loop-block-preserved : goal.loop-block-preserved
loop-block-preserved c =
    let text = c.args.text.now in
    let n = c.loop-block.block * 64 in
    let next : feeds (take (n + 64) text) ≡ feeds (take ((c.loop-block.block + 1) * 64) text) = ap (λ (k : ℕ). feeds (take k text)) (omega arith) in
    record {
      is = omega (arith, c.loop-block.invariant.is, c.feeds_at-count.ensures.is, feeds_more text n 64, next);
      bound = omega (arith, c.loop-block.invariant.bound, c.feeds_at-count.ensures.bound);
    }
