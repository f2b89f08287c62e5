use Rattle.std.proofs.Common.{◌≡◌, ◌∙◌, ◌≢◌, ◌++◌, true, drop, length, rules, refl, sym, ap, subst, arith, append-nil, length-drop}
use Rattle.std.proofs.Math.Seq.{drop-length}
use Rattle.text_parts.specs.Found.{IsFound}
use Rattle.text_parts.specs.Kept.{AreLeft}
use Rattle.text_parts.specs.Parts.{AreParts}
use Rattle.text_parts.specs.Places.{IsPartStart}
use Rattle.text_parts.proofs.Fitting.{all_found, begun_after, found_after, next_start}
use Rattle.text_parts.proofs.Keeping.{all_kept}
use Rattle.text_parts.proofs.after.find_until.Goals as goal

pub returns-then-place-text-clause-whole : goal.returns-then-place-text-clause-whole
returns-then-place-text-clause-whole g c old_text kept s b l =
    let parts = c.args.parts.now in
    let text = c.args.text.now in
    let old = c.parts.found.items in
    let new = c.find_part.new.done.items in
    let end = c.in_ok-place.field-0 in
    let done = kept ++ new in
    let nothing : done ++ drop (length parts) parts ≡ done = ap (λ l. done ++ l) (drop-length parts) ∙ append-nil done in
    subst (AreParts g.C.Cut.is_part true text) (sym nothing)
    (all_found g.C.Cut.is_part text (kept ++ old) done c.parts.place.at end (c.parts.invariant.begun kept b)
    (found_after g.C.Cut.is_part text kept old new c.parts.place.at end c.in_ok-place.ensures) (search (rules, c.if-place-text.true)))

pub returns-then-is_same_end-clause-whole : goal.returns-then-is_same_end-clause-whole
returns-then-is_same_end-clause-whole g c old_text kept s b l =
    let place = c.passed-place.result in
    let parts = c.args.parts.now in
    let text = c.args.text.now in
    let old = c.parts.found.items in
    let new = c.find_part.new.done.items in
    let end = c.in_ok-place.field-0 in
    let goes_on : end ≢ length text = search (rules, c.if-place-text.false) in
    all_kept old_text text c.args.shared s g.C.Cut.is_part (kept ++ new) (drop place.index parts) place.from place.at
    (begun_after g.C.Cut.is_part text kept old new c.parts.place.at end place.at (c.parts.invariant.begun kept b) c.in_ok-place.ensures goes_on
    c.passed-place.ensures.at)
    (c.passed-place.ensures.left old_text (c.parts.invariant.left old_text l)) (omega (arith, c.if-index-parts.true, length-drop place.index parts))
    (c.if-is_same_end.ensures refl)

pub returns-then-place-shared-clause-whole : goal.returns-then-place-shared-clause-whole
returns-then-place-shared-clause-whole g c old_text kept s b l =
    let place = c.passed-place.result in
    let parts = c.args.parts.now in
    let text = c.args.text.now in
    let old = c.parts.found.items in
    let new = c.find_part.new.done.items in
    let end = c.in_ok-place.field-0 in
    let goes_on : end ≢ length text = search (rules, c.if-place-text.false) in
    let same : place.from ≡ place.at = search (rules, c.if-place.true) in (
      begun_after g.C.Cut.is_part text kept old new c.parts.place.at end place.at (c.parts.invariant.begun kept b) c.in_ok-place.ensures goes_on
          c.passed-place.ensures.at,
      subst (λ n. AreLeft g.C.Cut.is_part old_text n (drop place.index parts)) same
          (c.passed-place.ensures.left old_text (c.parts.invariant.left old_text l)),
    )

pub parts-preserved : goal.parts-preserved
parts-preserved g c =
    let place = c.passed-place.result in
    let text = c.args.text.now in
    let old = c.parts.found.items in
    let new = c.find_part.new.done.items in
    let end = c.in_ok-place.field-0 in
    let goes_on : end ≢ length text = search (rules, c.if-place-text.false) in
    let found : IsFound g.C.Cut.is_part text c.parts.place.at old new end = c.in_ok-place.ensures in
    record {
      start =
          subst (IsPartStart text) (sym c.passed-place.ensures.at)
          (next_start g.C.Cut.is_part text old new c.parts.place.at end found goes_on);
      some = omega (arith, c.parts.invariant.some, found.end_is, c.passed-place.ensures.at);
      after = omega (arith, c.parts.invariant.after, c.passed-place.ensures.after);
      within = c.passed-place.ensures.within;
      begun = λ kept b.
          begun_after g.C.Cut.is_part text kept old new c.parts.place.at end place.at (c.parts.invariant.begun kept b) found goes_on
          c.passed-place.ensures.at;
      left = λ before l. c.passed-place.ensures.left before (c.parts.invariant.left before l);
    }
