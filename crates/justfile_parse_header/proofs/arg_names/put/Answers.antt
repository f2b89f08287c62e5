use Rattle.std.proofs.Common.{◌∙◌, ap, sym}
use Rattle.std.specs.Str.{bytes_eq}
use Rattle.justfile_attribute.specs.Attribute.{leaf_attribute_of}
use Rattle.justfile_attribute.specs.declared.attribute.Attribute.{Attribute}
use Rattle.justfile_parse_header.specs.Arguments.{is_of}
use Rattle.justfile_parse_header.proofs.Firsts.{then_put}
use Rattle.justfile_parse_header.proofs.Texts.{text_is}
use Rattle.justfile_parse_header.proofs.arg_names.put.Goals as goal

pub returns-in-Arg : goal.returns-in-Arg
returns-in-Arg c =
    let text = c.as_str.result.now in
    then_put text c.args.attribute.now c.args.firsts.now c.put_at.new.firsts
    (λ name. ap (λ t. bytes_eq t name) (c.as_str.ensures.value ∙ sym (text_is c.in-Arg.name)) ∙ ap (λ (a : Attribute). is_of name (leaf_attribute_of a)) (sym c.in-Arg.is))
    c.put_at.result c.put_at.ensures
