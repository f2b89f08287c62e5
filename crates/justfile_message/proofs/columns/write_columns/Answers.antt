use Rattle.std.proofs.Common.{◌++◌, chars, length, refl, sym, ap, ◌∙◌}
use Rattle.std.proofs.Output.{has_written_append, has_written_of_eq}
use Rattle.std.specs.List.{repeat}
use Rattle.std.proofs.lemmas.Iterator.Consumers.{YieldsList-end, YieldsList-so_far, YieldsList-turn}
use Rattle.std.proofs.lemmas.List.{map-id}
use Rattle.justfile_message.specs.Columns.{width_among}
use Rattle.justfile_message.proofs.ColumnLemmas.{YieldsList-from_char_indices, has_written_from_styled, repeat-add, width_among-past, width_among-push_in}
use Rattle.justfile_message.proofs.columns.write_columns.Goals as goal

pub loop-place-preserved-in-Continue-1 : goal.loop-place-preserved-in-Continue-1
loop-place-preserved-in-Continue-1 g c = λ plain.
    let before = c.loop-place.invariant plain in
    let marks = has_written_from_styled _ _ _ _ before.plain (c.in_ok-write_repeated.ensures.styled before.plain.flush refl) in
    let inside = sym c.is_among.ensures ∙ c.if-is_among.true in
    has_written_of_eq _ _ _ _ _
    (ap (λ n. repeat (width_among c.args.start c.args.count c.loop-place.yielded) c.args.text.now ++ repeat n c.args.text.now) c.width_of.ensures
    ∙ sym (repeat-add _ _ c.args.text.now)
    ∙ ap (λ n. repeat n c.args.text.now) (sym (width_among-push_in c.args.start c.args.count c.loop-place.yielded (c.in-Some.place, c.in-Some.character) inside)))
    (has_written_append _ _ _ _ _ _ before marks)

pub returns-then-is_past : goal.returns-then-is_past
returns-then-is_past g c = λ plain ok.
    let road = YieldsList-from_char_indices c.args.line.now c.utf8.line (cc) (cc) in
    let front = sym (map-id _) ∙ YieldsList-so_far road c.loop-place.yielded _ c.loop-place.yielded_by in
    let turn = YieldsList-turn road c.loop-place.yielded _ c.loop-place.yielded_by _ _ (c.in-Some.place, c.in-Some.character) c.in-Some.is c.next.ensures.steps in
    let whole = width_among-past c.args.start c.args.count 0 (chars c.args.line.now) (length c.loop-place.yielded) (c.in-Some.place, c.in-Some.character) turn.0 turn.1 (c.is_past.ensures.0 c.if-is_past.true) in
    has_written_of_eq _ _ _ _ _ (ap (λ n. repeat n c.args.text.now) (ap (width_among c.args.start c.args.count) front ∙ sym whole)) (c.loop-place.invariant plain)

pub returns : goal.returns
returns g c = λ plain ok.
    let end = YieldsList-end (YieldsList-from_char_indices c.args.line.now c.utf8.line (cc) (cc)) c.loop-place.yielded _ c.loop-place.yielded_by _ _ c.in-None.is c.next.ensures.steps in
    has_written_of_eq _ _ _ _ _ (ap (λ xs. repeat (width_among c.args.start c.args.count xs) c.args.text.now) (sym (map-id _) ∙ end.0)) (c.loop-place.invariant plain)
