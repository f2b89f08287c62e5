use Rattle.std.proofs.Common.{◌≡◌, ℕ, List, Option, Some, sym, ap, ◌∙◌, subst}
use Rattle.std.specs.Prelude.{◌↔◌, IfOk, IsSomeAnd, Contains}
use Rattle.std.specs.Option.{option_copied}
use Rattle.justfile_line.specs.Line.{first_text}
use Rattle.justfile_line.specs.Sigil.{IsSigilOf}
use Rattle.justfile_line.specs.declared.sigil.Sigil.{Sigil}
use Rattle.justfile_line.proofs.line.Line.sigils.Goals as goal

-- the text at the front of the line is the one whose sigils were collected
pub returns-in-Some : goal.returns-in-Some
returns-in-Some c =
    let text : first_text c.args.self.now ≡ Some c.as_bytes.result.now =
    sym c.first.ensures ∙ ap (λ o. option_copied o) c.in-Some.is ∙ ap (λ (t : List ℕ). Some t) (sym c.as_bytes.ensures.value) in
    subst (λ (front : Option (List ℕ)). IfOk c.front_sigils.result (λ sigils. (s : Sigil) → Contains sigils.keys s ↔ IsSomeAnd front (λ t. IsSigilOf c.args.guards t s)))
    (sym text) c.front_sigils.ensures
