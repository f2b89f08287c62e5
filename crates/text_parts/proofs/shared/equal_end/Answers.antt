use Rattle.std.proofs.Common.{◌≡◌, ◌∙◌, ℕ, ◌+◌, ◌-◌, ◌*◌, ◌≤◌, List, length, take, drop, sym, subst, arith}
use Rattle.text_parts.proofs.SharedEnds.{end_more, same_block}
use Rattle.text_parts.proofs.shared.equal_end.Goals as goal

pub loop-block-preserved : goal.loop-block-preserved
loop-block-preserved c =
    let n = c.loop-block.block * 256 in
    let old = c.args.old.now in
    let new = c.args.new.now in
    let in_old : n + 256 ≤ length old = omega (arith, c.requires.old, c.loop-block-test.true) in
    let in_new : n + 256 ≤ length new = omega (arith, c.requires.new, c.loop-block-test.true) in
    let next : n + 256 ≡ (c.loop-block.block + 1) * 256 = omega arith in
    let part = λ (text : List ℕ). take (length text - n - (length text - n - 256)) (drop (length text - n - 256) text) in
    let is : (text : List ℕ) → n + 256 ≤ length text → part text ≡ take 256 (drop (length text - (n + 256)) text) = λ text within.
    let size : length text - n - (length text - n - 256) ≡ 256 = omega (arith, within) in
    let place : length text - n - 256 ≡ length text - (n + 256) = omega (arith, within) in
    λ i. take (size i) (drop (place i) text)
    in
    let same : part old ≡ part new = same_block (part old) (part new) c.if-ne.ensures in
    subst (λ (k : ℕ). drop (length old - k) old ≡ drop (length new - k) new) next
    (end_more old new n 256 in_old in_new c.loop-block.invariant (sym (is old in_old) ∙ same ∙ is new in_new))
