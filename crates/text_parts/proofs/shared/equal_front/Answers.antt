use Rattle.std.proofs.Common.{◌≡◌, ℕ, ◌+◌, ◌-◌, ◌*◌, take, drop, subst, arith}
use Rattle.text_parts.proofs.SharedEnds.{front_more, same_block}
use Rattle.text_parts.proofs.shared.equal_front.Goals as goal

pub loop-block-preserved : goal.loop-block-preserved
loop-block-preserved c =
    let n = c.loop-block.block * 256 in
    let old = c.args.old.now in
    let new = c.args.new.now in
    let block : n + 256 - n ≡ 256 = omega arith in
    let next : n + 256 ≡ (c.loop-block.block + 1) * 256 = omega arith in
    let same : take (n + 256 - n) (drop n old) ≡ take (n + 256 - n) (drop n new) = same_block _ _ c.if-ne.ensures in
    subst (λ (k : ℕ). take k old ≡ take k new) next
    (front_more old new n 256 c.loop-block.invariant (subst (λ (k : ℕ). take k (drop n old) ≡ take k (drop n new)) block same))
