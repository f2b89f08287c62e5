use Rattle.std.proofs.Common.{◌≡◌, ℕ, List, ◌∷◌, ◌++◌, ap, ◌∙◌, subst}
use Rattle.justfile_token.specs.Token.{lexeme_of}
use Rattle.justfile_token.specs.declared.name.Name.{Name}
use Rattle.justfile_numbers.specs.declared.number.Number.{Number}
use Rattle.justfile_token.proofs.PutLemmas.{failed_at}
use Rattle.justfile_item.specs.ItemText.{later_names_text, parameter_names_text}
use Rattle.justfile_item.proofs.ItemTexts.{names_some}
use Rattle.justfile_item.proofs.function_definition.write_names.Goals as goal

-- the written pieces are the text of the names
written : (parameters : List (Name × Number)) (first : Name × Number) (rest : List (Name × Number)) (name : List ℕ) → parameters ≡ first ∷ rest
    → name ≡ lexeme_of first.0.token
    → name ++ later_names_text rest ≡ parameter_names_text parameters
written parameters first rest name e f = ap (λ (n : List ℕ). n ++ later_names_text rest) f ∙ names_some parameters first rest e

pub returns-in_err-write_later_names : goal.returns-in_err-write_later_names
returns-in_err-write_later_names g c =
    let s = g.met.S.Sink in
    failed_at g.S.Sink.took g.S.Sink.failed _ c.from_residual-in_err-write_later_names.ensures.0 (subst (λ (t : List ℕ). g.S.Sink.failed c.args.sink.now t c.write_later_names.new.sink)
    (written c.args.parameters.now c.in-Some.first.now c.in-Some.rest.now c.lexeme.result.now c.in-Some.ensures.cases.0 (c.lexeme.ensures ∙ ap lexeme_of c.deref.ensures))
    (s.failed_later _ _ _ _ _ c.in_ok-put.ensures.ok c.in_err-write_later_names.ensures))

pub returns : goal.returns
returns g c =
    let s = g.met.S.Sink in
    subst (λ (t : List ℕ). g.S.Sink.took c.args.sink.now t c.write_later_names.new.sink)
    (written c.args.parameters.now c.in-Some.first.now c.in-Some.rest.now c.lexeme.result.now c.in-Some.ensures.cases.0 (c.lexeme.ensures ∙ ap lexeme_of c.deref.ensures))
    (s.took_more _ _ _ _ _ c.in_ok-put.ensures.ok c.in_ok-write_later_names.ensures)
