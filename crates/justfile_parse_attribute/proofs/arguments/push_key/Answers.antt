use Rattle.std.proofs.Common.{◌∙◌, ℕ, List, [], ◌∷◌, ◌++◌, OnOk, ap, subst}
use Rattle.justfile_token.specs.Token.{lexeme_of}
use Rattle.justfile_parse_base.specs.TextSets.{HaveSame, texts_in}
use Rattle.justfile_parse_attribute.proofs.arguments.push_key.Goals as goal

pub returns-clause-named : goal.returns-clause-named
returns-clause-named c =
    let P : List ℕ → Type 0 = λ t. OnOk c.add_text.result (HaveSame (texts_in c.args.texts.now ++ t ∷ []) (texts_in c.add_text.new.texts)) in
    subst P (c.lexeme-text.ensures ∙ ap lexeme_of c.deref.ensures) c.add_text.ensures.added
