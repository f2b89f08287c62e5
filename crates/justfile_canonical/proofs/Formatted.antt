-- The canonical text of a text: it is its own canonical text, and texts that share it have equal normal shapes and equal indentations.
use Rattle.std.proofs.Common.{◌≡◌, ◌∙◌, ℕ, true, false, List, Option, Some, None, Result, Ok, codes, refl, sym, subst, ap, true≢false}
use Rattle.std.specs.Prelude.{IfSome}
use Rattle.std.specs.Option.{option_map}
use Rattle.std.proofs.lemmas.Option.{none-some, same_Some}
use Rattle.justfile_vocabulary.proofs.IndentationLemmas.{indentation_read}
use Rattle.justfile_vocabulary.specs.Indentation.{IsIndentation}
use Rattle.justfile_model.specs.Meanings.Enabled.{indentation_of}
use Rattle.justfile_model.specs.Grammars.Features.{Noted}
use Rattle.justfile_model.specs.LiteralTexts.Literals.{LiteralFault, string_text}
use Rattle.justfile_model.specs.Printed.NormalShape.{normal}
use Rattle.justfile_model.specs.Printed.Printing.{printable, text}
use Rattle.justfile_model.specs.Lexing.Tok.{Tok}
use Rattle.justfile_model.specs.Trees.Tree.{Tree, lexeme, shape_of}
use Rattle.justfile_model.proofs.Printed.IndentedShapes.{IsIndentationLiteral, indentation_normal, indentation_valid, indentation_shape}
use Rattle.justfile_model.proofs.Printed.Normal.{normal_printable}
use Rattle.justfile_round_trip.specs.RoundTrip.{ReadsBack, TextDerives, printed}
use Rattle.justfile_round_trip.proofs.RoundTrip.{back, one_text, shape_derives}
use Rattle.justfile_canonical.specs.Formatting.{HasNone, IsFormatted, rejected, unprintable}
use Rattle.justfile_indentation.specs.OwnIndentation.{IsIndentedBy}
use Rattle.justfile_canonical.specs.Root.{conditions}

-- ---- indentations

same_answer : (r : Result (List ℕ) LiteralFault) (t u : List ℕ) → r ≡ Ok t → r ≡ Ok u → t ≡ u
same_answer r t u e f = ap within (sym e ∙ f)
  where
    within : Result (List ℕ) LiteralFault → List ℕ
    within (Ok x) = x
    within _ = t

-- where the literals have one lexeme
one_indentation : (l m : Option Tok) (i j : List ℕ) → option_map lexeme l ≡ option_map lexeme m → IsIndentedBy l i → IsIndentedBy m j → i ≡ j
one_indentation None None i j e p q = p ∙ sym q
one_indentation None (Some m) i j e p q = absurd (none-some _ e)
one_indentation (Some l) None i j e p q = absurd (none-some _ (sym e))
one_indentation (Some l) (Some m) i j e p q = same_answer (string_text l.lexeme) i j p (ap string_text (same_Some _ _ e) ∙ q)

also_indented : (l m : Option Tok) (i : List ℕ) → option_map lexeme l ≡ option_map lexeme m → IsIndentedBy l i → IsIndentedBy m i
also_indented None None i e p = p
also_indented None (Some m) i e p = absurd (none-some _ e)
also_indented (Some l) None i e p = absurd (none-some _ (sym e))
also_indented (Some l) (Some m) i e p = ap string_text (sym (same_Some _ _ e)) ∙ p

-- the indentation for an optional literal
record Indents (literal : Option Tok) : Type 0 where
  text : List ℕ
  is : IsIndentedBy literal text
  blanks : IsIndentation text

indents : (literal : Option Tok) → IfSome (option_map lexeme literal) IsIndentationLiteral → Indents literal
indents None h = record { text = codes "    "; is = refl; blanks = indentation_read (codes "    ") refl }
indents (Some literal) h = record { text = h.0; is = h.1; blanks = h.2 }

-- ---- formatted texts

module _ (source : List ℕ) (tree : Tree) (features : List (Noted Tok)) (derives : TextDerives conditions source tree features) where
  -- the indentation of a text
  found_indentation : Indents (indentation_of tree)
  found_indentation =
      indents (indentation_of tree)
      (subst (λ (o : Option (List ℕ)). IfSome o IsIndentationLiteral) (indentation_shape tree)
      (indentation_valid conditions _ (shape_of tree) _ (shape_derives conditions source tree features derives)))

  pub formatted : printable (shape_of tree) ≡ true → (canonical : List ℕ) × IsFormatted source canonical
  formatted prints = (
    printed (shape_of tree) found_indentation.text,
    record {
      tree = tree;
      features = features;
      derives = derives;
      can_be_printed = prints;
      indentation = found_indentation.text;
      is_indented = found_indentation.is;
      is = refl;
    },
  )

module _ (source canonical : List ℕ) (f : IsFormatted source canonical) where
  blanks : IsIndentation f.indentation
  blanks =
      let s = found_indentation source f.tree f.features f.derives in
      subst IsIndentation (one_indentation (indentation_of f.tree) (indentation_of f.tree) s.text f.indentation refl s.is f.is_indented) s.blanks

  reads : ReadsBack conditions (shape_of f.tree) f.features f.indentation canonical
  reads =
      subst (λ (t : List ℕ). ReadsBack conditions (shape_of f.tree) f.features f.indentation t) (sym f.is)
      (back conditions source f.tree f.features f.indentation blanks f.derives f.can_be_printed)

  -- the literal of the formatted text's tree is the same
  same_literal : option_map lexeme (indentation_of f.tree) ≡ option_map lexeme (indentation_of reads.tree)
  same_literal = sym (indentation_shape f.tree) ∙ sym (indentation_normal (shape_of f.tree)) ∙ ap indentation_of (sym reads.same_shape) ∙ indentation_shape reads.tree

  pub again : IsFormatted canonical canonical
  again = record {
    tree = reads.tree;
    features = reads.found;
    derives = reads.derives;
    can_be_printed = ap printable reads.same_shape ∙ normal_printable (shape_of f.tree) ∙ f.can_be_printed;
    indentation = f.indentation;
    is_indented = also_indented (indentation_of f.tree) (indentation_of reads.tree) f.indentation same_literal f.is_indented;
    is = sym reads.printed_again;
  }

-- equal normal shapes have one indentation
same_indentation : (source other canonical twin : List ℕ) (f : IsFormatted source canonical) (g : IsFormatted other twin)
    → normal (shape_of f.tree) ≡ normal (shape_of g.tree) → f.indentation ≡ g.indentation
same_indentation source other canonical twin f g e =
    one_indentation (indentation_of f.tree) (indentation_of g.tree) f.indentation g.indentation
    (sym (indentation_shape f.tree) ∙ sym (indentation_normal (shape_of f.tree)) ∙ ap indentation_of e ∙ indentation_normal (shape_of g.tree) ∙ indentation_shape g.tree)
    f.is_indented g.is_indented

pub same_shape : (source other canonical : List ℕ) (f : IsFormatted source canonical) (g : IsFormatted other canonical)
    → (normal (shape_of f.tree) ≡ normal (shape_of g.tree)) × (f.indentation ≡ g.indentation)
same_shape source other canonical f g =
    let x = reads source canonical f in
    let y = reads other canonical g in
    let one = one_text conditions canonical x.tree y.tree x.found y.found x.derives y.derives in
    let same = sym x.same_shape ∙ ap shape_of one ∙ y.same_shape in
    (same, same_indentation source other canonical canonical f g same)

pub same_text : (source other canonical twin : List ℕ) (f : IsFormatted source canonical) (g : IsFormatted other twin)
    → normal (shape_of f.tree) ≡ normal (shape_of g.tree) → canonical ≡ twin
same_text source other canonical twin f g e =
    let i = same_indentation source other canonical twin f g e in
    f.is ∙ (λ k. text (e k) (i k)) ∙ sym g.is

pub one : (source canonical other : List ℕ) → IsFormatted source canonical → IsFormatted source other → canonical ≡ other
one source canonical other f g =
    same_text source source canonical other f g (ap (λ (t : Tree). normal (shape_of t)) (one_text conditions source f.tree g.tree f.features g.features f.derives g.derives))

pub never_both : (source canonical : List ℕ) → IsFormatted source canonical → HasNone source → ⊥
never_both source canonical f (rejected r) = r.derives_none f.tree f.features f.derives
never_both source canonical f (unprintable u) =
    true≢false (sym f.can_be_printed ∙ ap (λ (t : Tree). printable (shape_of t)) (one_text conditions source f.tree u.tree f.features u.features f.derives u.derives) ∙ u.cannot_be_printed)
