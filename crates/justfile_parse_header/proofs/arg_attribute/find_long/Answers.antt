use Rattle.std.proofs.Common.{◌∙◌, ap, sym}
use Rattle.justfile_attribute.specs.Attribute.{leaf_attribute_of}
use Rattle.justfile_attribute.specs.declared.attribute.Attribute.{Attribute}
use Rattle.justfile_parse_header.specs.Options.{long_in}
use Rattle.justfile_parse_header.proofs.Texts.{option_is}
use Rattle.justfile_parse_header.proofs.arg_attribute.find_long.Goals as goal

pub returns-in-Arg : goal.returns-in-Arg
returns-in-Arg c =
    c.find_option.ensures ∙ option_is c.in-Arg.name c.in-Arg.long c.in-Arg.long_key ∙ ap (λ (a : Attribute). long_in (leaf_attribute_of a)) (sym c.in-Arg.is)
