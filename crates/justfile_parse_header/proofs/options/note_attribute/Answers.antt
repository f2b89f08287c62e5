use Rattle.justfile_parse_expression.specs.View.{state_of}
use Rattle.justfile_parse_header.proofs.Notes.{arg_noted}
use Rattle.justfile_parse_header.proofs.options.note_attribute.Goals as goal

pub returns-in_ok-note_at-in-Arg-3 : goal.returns-in_ok-note_at-in-Arg-3
returns-in_ok-note_at-in-Arg-3 g c =
    let A = g.X.Expander.answer in
    let a = c.in-Arg in
    arg_noted a.flag a.help a.help_property a.long a.long_key a.max a.max_key a.min a.min_key a.multiple a.name a.pattern_property a.short a.short_key a.value
    (state_of A c.args.parser.now) (state_of A c.note_at.new.parser) (state_of A c.note_at-in-Arg.new.parser) (state_of A c.note_at-in-Arg-2.new.parser)
    c.find_bound_place.result c.find_bound_place-in-Arg.result c.find_bound_place.ensures c.find_bound_place-in-Arg.ensures
    c.in_ok-note_at-in-Arg.ensures c.in_ok-note_at-in-Arg-2.ensures c.in_ok-note_at-in-Arg-3.ensures
    c.note_at-in-Arg-3.result (state_of A c.note_at-in-Arg-3.new.parser) c.args.attribute.now a.is c.note_at-in-Arg-3.ensures
