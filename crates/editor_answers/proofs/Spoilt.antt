-- Whether a name can be replaced.
use Rattle.std.proofs.Common.{◌≡◌, ℕ, Bool, true, false, List, [], Option, None, Some, MatchOption, IsTrue, ◌↔◌, String, string_bytes, sym, subst}
use Rattle.std.specs.declared.alloc.Global.{Global}
use Rattle.justfile_lines.specs.declared.encoding.Encoding.{Encoding}
use Rattle.text_edits.specs.declared.edit.TextEdit.{TextEdit}
use Rattle.text_edits.specs.Edited.{IsEdited}
use Rattle.editor_language.specs.declared.mention.Mention.{Mention}
use Rattle.editor_language.specs.declared.parts.Analysis.{Analysis}
use Rattle.editor_answers.proofs.Failed.{apart}
use Rattle.editor_answers.specs.Renames.{IsMeant, Puts, Spoils, are_renamed, broken, changed, compared, unordered}

module _ (knows : List ℕ → Analysis → Type 0) (mentioned : List ℕ → Analysis → List Mention → Type 0) where
  module _ (name : Mention) (new : List ℕ) (before : List Mention) (after : List ℕ) (known : Analysis) (right : Bool) (knows_it : knows after known)
      (iff : IsTrue right ↔ (known.problems.items ≡ [])) where
    pub not_right : right ≡ false → IsMeant knows mentioned name new before after false
    not_right f = broken known knows_it (λ (e : known.problems.items ≡ []). apart right (iff.1 e) f)

    pub all_compared : (mentions lent : List Mention) (same : Bool) → right ≡ true → mentioned after known mentions → lent ≡ mentions → same ≡ are_renamed name new before lent
        → IsMeant knows mentioned name new before after same
    all_compared mentions lent same t are e is =
        subst (λ (b : Bool). IsMeant knows mentioned name new before after b) (sym is)
        (subst (λ (ms : List Mention). IsMeant knows mentioned name new before after (are_renamed name new before ms)) (sym e) (compared known mentions knows_it (iff.0 t) are))

  module _ (encoding : Encoding) (text : List ℕ) (mentions : List Mention) (name : Mention) (new : List ℕ) (lent edits : List TextEdit) (same : lent ≡ edits)
      (puts : Puts encoding text mentions name new edits) (made : Option (String Global))
      (is : MatchOption made ((other : List ℕ) → IsEdited encoding text lent other → ⊥) (λ t. IsEdited encoding text lent (string_bytes t))) where
    abbrev Made : Option (String Global) → Type 0
    Made o = MatchOption o ((other : List ℕ) → IsEdited encoding text lent other → ⊥) (λ t. IsEdited encoding text lent (string_bytes t))

    pub no_order : made ≡ None → Spoils knows mentioned encoding text mentions name new
    no_order e =
        let none = subst Made e is in
        unordered edits puts (λ after h. none after (subst (λ (es : List TextEdit). IsEdited encoding text es after) (sym same) h))

    module _ (t : String Global) (e : made ≡ Some t) (after : List ℕ) (text_is : after ≡ string_bytes t) where
      leads : IsEdited encoding text edits after
      leads =
          subst (λ (l : List ℕ). IsEdited encoding text edits l) (sym text_is)
          (subst (λ (es : List TextEdit). IsEdited encoding text es (string_bytes t)) same (subst Made e is))

      pub other_meaning : (meant : Bool) → meant ≡ false → IsMeant knows mentioned name new mentions after meant → Spoils knows mentioned encoding text mentions name new
      other_meaning meant f m = changed edits after puts leads (subst (λ (b : Bool). IsMeant knows mentioned name new mentions after b) f m)
