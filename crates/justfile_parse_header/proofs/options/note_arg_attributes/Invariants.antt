use Rattle.std.proofs.Common.{◌≡◌, length}
use Rattle.std.specs.List.{flat_map}
use Rattle.justfile_attribute_set.specs.Keys.{keys_left}
use Rattle.justfile_model.specs.Grammars.Features.{rules_features}
use Rattle.justfile_model.specs.Readers.ReaderState.{with}
use Rattle.justfile_parse_expression.specs.View.{state_of}
use Rattle.justfile_parse_header.specs.Tree.{rules_of}
use Rattle.justfile_parse_header.proofs.ArgAttributes.{noting}
use Rattle.justfile_parse_header.proofs.options.note_arg_attributes.Given as goal

abbrev pub invariant-attributes : goal.invariant-attributes
invariant-attributes g l =
    with (flat_map rules_features (rules_of l.attributes)) (state_of g.X.Expander.answer l.fn.parser) ≡ noting (keys_left l.rest) (state_of g.X.Expander.answer l.parser)

abbrev pub decreases-attributes : goal.decreases-attributes
decreases-attributes g l = length (keys_left l.rest)
