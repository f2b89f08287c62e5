use Rattle.std.proofs.Common.{◌∙◌, ℕ, List, Some, None, ap, sym}
use Rattle.std.specs.List.{slice_get}
use Rattle.std.specs.Str.{chars}
use Rattle.justfile_attribute.specs.Attribute.{leaf_attribute_of}
use Rattle.justfile_attribute.specs.declared.attribute.Attribute.{Attribute}
use Rattle.justfile_parse_header.specs.Options.{short_in}
use Rattle.justfile_parse_header.proofs.Texts.{character_is}
use Rattle.justfile_parse_header.proofs.arg_attribute.find_short_option.Goals as goal

pub returns-in_err-character-in-Arg : goal.returns-in_err-character-in-Arg
returns-in_err-character-in-Arg c =
    let a = c.in-Arg in
    let found = c.in_ok-text-in-Arg in
    c.from_residual-in_err-character-in-Arg.ensures
    ∙ character_is a.name a.short a.short_key found.text.now found.token found.ensures None
    (c.in_err-character-in-Arg.ensures.steps.2 ∙ ap (λ (t : List ℕ). slice_get (chars t) 0) c.chars.ensures.rest)
    ∙ ap (λ (a : Attribute). short_in (leaf_attribute_of a)) (sym a.is)

pub returns-in_ok-character-in-Arg : goal.returns-in_ok-character-in-Arg
returns-in_ok-character-in-Arg c =
    let a = c.in-Arg in
    let found = c.in_ok-text-in-Arg in
    character_is a.name a.short a.short_key found.text.now found.token found.ensures (Some c.in_ok-character-in-Arg.character)
    (c.in_ok-character-in-Arg.ensures.steps.2 ∙ ap (λ (t : List ℕ). slice_get (chars t) 0) c.chars.ensures.rest)
    ∙ ap (λ (a : Attribute). short_in (leaf_attribute_of a)) (sym a.is)
