use Rattle.std.proofs.Common.{chars, refl, sym, ap, arith, ◌∙◌}
use Rattle.std.proofs.lemmas.Iterator.Consumers.{YieldsList-end, YieldsList-so_far, YieldsList-turn}
use Rattle.std.proofs.lemmas.List.{map-id}
use Rattle.justfile_message.specs.Columns.{placed_from, width_among}
use Rattle.justfile_message.proofs.ColumnLemmas.{YieldsList-from_char_indices, width_among-front, width_among-push_in}
use Rattle.justfile_message.proofs.columns.has_width.Goals as goal

pub returns-then-width_of-gt0 : goal.returns-then-width_of-gt0
returns-then-width_of-gt0 c =
    let road = YieldsList-from_char_indices c.args.line.now c.utf8.line (cc) (cc) in
    let so_far = YieldsList-so_far road c.loop-place.yielded _ c.loop-place.yielded_by in
    let turn = YieldsList-turn road c.loop-place.yielded _ c.loop-place.yielded_by _ _ (c.in-Some.place, c.in-Some.character) c.in-Some.is c.next.ensures.steps in
    let front = width_among-front c.args.start c.args.count (placed_from 0 (chars c.args.line.now)) c.loop-place.yielded (c.in-Some.place, c.in-Some.character) (sym (map-id _) ∙ so_far) turn in
    let more = width_among-push_in c.args.start c.args.count c.loop-place.yielded (c.in-Some.place, c.in-Some.character) (sym c.is_among.ensures ∙ c.if-is_among.true) in
    (λ _. omega (arith, front, more, c.width_of.ensures, c.if-width_of-gt0.true), λ _. refl)

pub returns : goal.returns
returns c =
    let end = YieldsList-end (YieldsList-from_char_indices c.args.line.now c.utf8.line (cc) (cc)) c.loop-place.yielded _ c.loop-place.yielded_by _ _ c.in-None.is c.next.ensures.steps in
    let whole = ap (width_among c.args.start c.args.count) (sym (map-id _) ∙ end.0) in
    (λ t. absurd (cc), λ some. absurd (omega (arith, whole, c.loop-place.invariant)))
