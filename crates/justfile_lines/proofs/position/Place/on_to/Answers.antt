use Rattle.std.proofs.Common.{◌≡◌, ◌∙◌, ap, drop, take}
use Rattle.justfile_lines.proofs.Onward.{known_in_text, made_place, size_in_text}
use Rattle.justfile_lines.proofs.position.Place.on_to.Goals as goal

pub after_size-requires-clause-place : goal.after_size-requires-clause-place
after_size-requires-clause-place c = known_in_text c.args.encoding c.args.text.now c.args.self c.requires.place

pub after_size-requires-clause-size : goal.after_size-requires-clause-size
after_size-requires-clause-size c =
    size_in_text c.args.encoding c.split_at-2.result.1.now c.last_line-line.result.1.now c.last_line-line.result.0 c.width-column.result c.last_line-line.ensures.number
    c.last_line-line.ensures.line c.width-column.ensures

pub returns-clause-is : goal.returns-clause-is
returns-clause-is c =
    let text = c.args.text.now in
    let between : c.split_at-2.result.1.now ≡ drop c.args.self.offset (take c.args.offset text) =
    c.split_at-2.ensures.back ∙ ap (drop c.args.self.offset) (c.split_at.ensures.front ∙ ap (take c.args.offset) c.as_bytes.ensures.value)
    in
    made_place c.args.encoding text c.args.self c.args.offset c.requires.order c.requires.within c.requires.place c.split_at-2.result.1.now between c.last_line-line.result.1.now
    c.last_line-line.result.0 c.width-column.result c.last_line-line.ensures.number c.last_line-line.ensures.line c.width-column.ensures c.after_size.result c.after_size.ensures
