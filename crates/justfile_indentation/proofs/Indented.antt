-- The indentation of a file's printed text is the text of the literal that sets it.
use Rattle.std.proofs.Common.{◌≡◌, ℕ, List, Option, Some, None, Ok, codes, sym, ap, subst, ◌∙◌}
use Rattle.std.specs.Prelude.{IfSome}
use Rattle.std.specs.Option.{option_map}
use Rattle.std.proofs.lemmas.Option.{none-some, same_Some}
use Rattle.justfile_vocabulary.specs.Indentation.{indentation_text}
use Rattle.justfile_vocabulary.specs.declared.indentation.Indentation.{Indentation}
use Rattle.justfile_token.specs.declared.string_literal.StringLiteral.{StringLiteral}
use Rattle.justfile_model.specs.Lexing.Tok.{Tok}
use Rattle.justfile_expression.specs.Expression.{literal_tok}
use Rattle.justfile_indentation.specs.OwnIndentation.{IsIndentedBy, MatchesLiteral}

literal_by : (found : Option (StringLiteral × Indentation)) (indentation : Indentation) → Some indentation ≡ option_map (λ p. p.1) found → IfSome found MatchesLiteral
    → IsIndentedBy (option_map (λ p. literal_tok p.0) found) (indentation_text indentation)
literal_by None indentation e h = absurd (none-some indentation (sym e))
literal_by (Some p) indentation e h = h ∙ ap (λ (i : Indentation). Ok (indentation_text i)) (sym (same_Some indentation p.1 e))

default_by : (found : Option (StringLiteral × Indentation)) (text : List ℕ) → None ≡ option_map (λ (p : StringLiteral × Indentation). p.1) found → text ≡ codes "    "
    → IsIndentedBy (option_map (λ p. literal_tok p.0) found) text
default_by None text e h = h
default_by (Some p) text e h = absurd (none-some p.1 e)

-- the file has a setting `indentation`
pub indented_by_literal : (found : Option (StringLiteral × Indentation)) (literal : Option Tok) (indentation : Indentation) → Some indentation ≡ option_map (λ p. p.1) found
    → literal ≡ option_map (λ p. literal_tok p.0) found → IfSome found MatchesLiteral → IsIndentedBy literal (indentation_text indentation)
indented_by_literal found literal indentation e l h = subst (λ (t : Option Tok). IsIndentedBy t (indentation_text indentation)) (sym l) (literal_by found indentation e h)

-- the file doesn't have one
pub indented_by_default : (found : Option (StringLiteral × Indentation)) (literal : Option Tok) (text : List ℕ) → None ≡ option_map (λ (p : StringLiteral × Indentation). p.1) found
    → literal ≡ option_map (λ p. literal_tok p.0) found → text ≡ codes "    " → IsIndentedBy literal text
indented_by_default found literal text e l h = subst (λ (t : Option Tok). IsIndentedBy t text) (sym l) (default_by found text e h)
