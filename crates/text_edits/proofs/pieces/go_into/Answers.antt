use Rattle.std.proofs.Common.{Some, arith}
use Rattle.text_edits.proofs.Cut.{goes_into, passed_part, place_in_text, rest_size, size_offset, sized_in_text, sized_more, there_is}
use Rattle.text_edits.proofs.pieces.go_into.Goals as goal

pub up_to-there-requires-clause-place : goal.up_to-there-requires-clause-place
up_to-there-requires-clause-place c = place_in_text c.args.encoding c.args.before.now.items c.args.here c.requires.leads

pub after_size-requires-clause-short : goal.after_size-requires-clause-short
after_size-requires-clause-short c = omega (arith, c.requires.short, size_offset c.args.encoding c.args.piece.size c.args.piece.text.now c.requires.size)

pub after_size-requires-clause-place : goal.after_size-requires-clause-place
after_size-requires-clause-place c = place_in_text c.args.encoding c.args.before.now.items c.args.here c.requires.leads

pub after_size-requires-clause-size : goal.after_size-requires-clause-size
after_size-requires-clause-size c = sized_in_text c.args.encoding c.args.piece.size c.args.piece.text.now c.requires.size

pub returns-clause-same : goal.returns-clause-same
returns-clause-same c =
    passed_part c.args.before.now.items c.push_passed.new.before.items c.args.after.now.items c.push.new.self.items (record { text = c.split_at.result.1; size = Some c.size_from-size.result })
    c.args.piece.text.now c.split_at.result.0.now _ c.in_ok-push_passed.ensures.text c.split_at.ensures.front c.split_at.ensures.back c.in_ok-push.ensures.items

pub returns-clause-sized : goal.returns-clause-sized
returns-clause-sized c =
    sized_more c.args.encoding c.args.after.now.items c.push.new.self.items (record { text = c.split_at.result.1; size = Some c.size_from-size.result }) c.in_ok-push.ensures.items c.requires.sized
    (rest_size c.args.encoding c.args.here c.up_to-there.result c.args.piece.size c.after_size.result c.size_from-size.result c.args.piece.text.now c.split_at.result.0.now c.split_at.result.1.now _
    c.requires.size c.after_size.ensures
    (there_is c.args.encoding c.args.here c.up_to-there.result c.args.piece.text.now c.split_at.result.0.now c.args.position c.up_to-there.ensures c.split_at.ensures.front) c.split_at.ensures.front c.split_at.ensures.back c.size_from-size.ensures)

pub returns-clause-reaches : goal.returns-clause-reaches
returns-clause-reaches c =
    goes_into c.args.encoding c.args.before.now.items c.push_passed.new.before.items c.args.here c.up_to-there.result c.args.piece.text.now _ c.split_at.result.0.now c.args.position c.requires.leads
    c.up_to-there.ensures c.in_ok-push_passed.ensures.text c.split_at.ensures.front c.requires.past
