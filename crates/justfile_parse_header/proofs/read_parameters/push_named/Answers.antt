use Rattle.std.proofs.Common.{◌∙◌, ℕ, List, [], ◌∷◌, ◌++◌, ap, subst}
use Rattle.justfile_token.specs.Token.{lexeme_of}
use Rattle.justfile_parse_base.specs.TextSets.{HaveSame, texts_in}
use Rattle.justfile_parse_header.proofs.read_parameters.push_named.Goals as goal

pub returns-in-Ok-clause-named : goal.returns-in-Ok-clause-named
returns-in-Ok-clause-named c =
    let P : List ℕ → Type 0 = λ t. HaveSame (texts_in c.args.names.now ++ t ∷ []) (texts_in c.add_text.new.texts) in
    subst P (c.lexeme-name.ensures ∙ ap lexeme_of c.deref.ensures) c.in-Ok.ensures.added
