use Rattle.std.proofs.Common.{◌∙◌, List, ap, map, subst, sym}
use Rattle.std.specs.List.{list_any}
use Rattle.std.specs.Str.{bytes_eq}
use Rattle.justfile_recipe_header.specs.declared.parameter.Parameter.{Parameter}
use Rattle.justfile_token.specs.Token.{lexeme_of}
use Rattle.justfile_parse_header.specs.Arguments.{AreKeptNames}
use Rattle.justfile_parse_header.specs.Tree.{parameter_tree}
use Rattle.justfile_parse_header.proofs.ReadNames.{missing_in_set, named_in_set}
use Rattle.justfile_parse_header.proofs.Texts.{named_is}
use Rattle.justfile_parse_header.proofs.read_parameters.ReadParameters.is_named.Goals as goal

pub returns-then-is_among : goal.returns-then-is_among
returns-then-is_among c =
    let it = c.args.self.now in
    sym (named_in_set it.list.items it.names it.has_all_names c.args.name.now it.named (sym c.is_among.ensures ∙ c.if-is_among.true))

pub returns-then-self : goal.returns-then-self
returns-then-self c =
    let it = c.args.self.now in
    sym (missing_in_set it.list.items it.names c.args.name.now (subst (AreKeptNames (map parameter_tree it.list.items) it.names) c.if-self.true it.named)
    (sym c.is_among.ensures ∙ c.if-is_among.false))

pub returns : goal.returns
returns c =
    let name = c.args.name.now in
    c.any_named.ensures ∙ ap (λ (ps : List Parameter). list_any (λ (p : Parameter). bytes_eq (lexeme_of p.name.token) name) ps) c.deref.ensures.value
    ∙ named_is c.args.self.now.list.items name
