use Rattle.std.proofs.Common.{◌≡◌, ◌∙◌, ℕ, ◌+◌, ◌++◌, List, Some, true, length, length-append, length-take-le, drop, take, sym, ap, subst, append-nil, arith}
use Rattle.std.specs.Vec.Iter.{into_iter_len}
use Rattle.text_parts.specs.Kept.{AreLeft, IsBegun, IsFront, IsJoined}
use Rattle.text_parts.specs.Parts.{AreParts}
use Rattle.text_parts.specs.Shared.{IsShared}
use Rattle.text_parts.proofs.Keeping.{in_front}
use Rattle.text_parts.proofs.Splicing.{spliced_items}
use Rattle.text_parts.proofs.after.find_stretch.Given.{Over}
use Rattle.text_parts.proofs.after.find_stretch.Goals as goal
use Rattle.text_parts.proofs.after.find_stretch.Goals.{In_ok-splice}

-- which parts there are then
spliced : (g : Over) (c : In_ok-splice g)
    → c.splice.new.self.items
    ≡ (take c.args.front.count c.args.parts.now.items ++ c.find_until.new.found.items) ++ drop c.in_ok-joint.joint.index c.args.parts.now.items
spliced g c =
    let found = c.find_until.new.found.items in
    let run = c.in_ok-splice.ensures.items in
    let size : into_iter_len run.0 ≡ length found = subst (λ n. into_iter_len run.0 ≡ n) c.find_until.new.found.ok.0 run.2.1 in
    spliced_items c.args.parts.now.items found c.splice.new.self.items run.1 c.args.front.count c.in_ok-joint.joint.index run.0 run.2.0 size run.3 run.4

-- how many the first ones are
front_length : (g : Over) (c : In_ok-splice g)
    → length (take c.args.front.count c.args.parts.now.items ++ c.find_until.new.found.items) ≡ c.args.front.count + c.len.result
front_length g c =
    let kept = take c.args.front.count c.args.parts.now.items in
    omega (
      arith,
      length-append kept c.find_until.new.found.items,
      length-take-le c.args.front.count c.args.parts.now.items c.requires.count,
      c.len.ensures,
      c.find_until.new.found.ok.0,
    )

-- how they go on
joined : (g : Over) (c : In_ok-splice g) (old_text : List ℕ) → IsShared old_text c.args.text.now c.args.shared
    → IsFront g.C.Cut.is_part old_text c.args.text.now c.args.parts.now.items c.args.front
    → IsJoined g.C.Cut.is_part old_text c.args.text.now (take c.args.front.count c.args.parts.now.items ++ c.find_until.new.found.items)
    (drop c.in_ok-joint.joint.index c.args.parts.now.items) c.in_ok-joint.joint.next
joined g c old_text s f =
    let is_part = g.C.Cut.is_part in
    let kept = take c.args.front.count c.args.parts.now.items in
    let end = c.args.front.end in
    let begun : IsBegun is_part c.args.text.now (kept ++ c.new-found.result.items) end =
    subst (λ l. IsBegun is_part c.args.text.now l end) (sym (append-nil kept) ∙ ap (λ l. kept ++ l) (sym c.new-found.ensures.items)) f.begun
    in
    let left : AreLeft is_part old_text end (drop c.args.front.count c.deref.result.now) =
    subst (λ l. AreLeft is_part old_text end (drop c.args.front.count l)) (sym c.deref.ensures.value) f.left
    in
    subst (λ l. IsJoined is_part old_text c.args.text.now (kept ++ c.find_until.new.found.items) (drop c.in_ok-joint.joint.index l) c.in_ok-joint.joint.next)
    c.deref.ensures.value (c.in_ok-joint.ensures.whole old_text kept s begun left)

pub returns-in-Some-clause-count : goal.returns-in-Some-clause-count
returns-in-Some-clause-count g c =
    let after = (goal.at.returns-in-Some-clause-count g c).In_ok-splice in
    let parts = c.args.parts.now.items in
    let done = take c.args.front.count parts ++ c.find_until.new.found.items in
    omega (arith, ap length (spliced g after), length-append done (drop c.in_ok-joint.joint.index parts), front_length g after)

pub returns-in-Some-clause-are : goal.returns-in-Some-clause-are
returns-in-Some-clause-are g c old_text s f =
    let after = (goal.at.returns-in-Some-clause-are g c).In_ok-splice in
    let parts = c.args.parts.now.items in
    let done = take c.args.front.count parts ++ c.find_until.new.found.items in
    let rest = drop c.in_ok-joint.joint.index parts in
    let are : IsJoined g.C.Cut.is_part old_text c.args.text.now done rest (Some c.in-Some.end) =
    subst (IsJoined g.C.Cut.is_part old_text c.args.text.now done rest) c.in-Some.is (joined g after old_text s f)
    in
    in_front g.C.Cut.is_part old_text c.args.text.now done rest _ _ (spliced g after) (front_length g after) are.0 are.1

pub returns-in-None-clause-are : goal.returns-in-None-clause-are
returns-in-None-clause-are g c old_text s f =
    let after = (goal.at.returns-in-None-clause-are g c).In_ok-splice in
    let parts = c.args.parts.now.items in
    let done = take c.args.front.count parts ++ c.find_until.new.found.items in
    let rest = drop c.in_ok-joint.joint.index parts in
    subst (AreParts g.C.Cut.is_part true c.args.text.now) (sym (spliced g after))
    (subst (IsJoined g.C.Cut.is_part old_text c.args.text.now done rest) c.in-None.is (joined g after old_text s f))
